-- What the desk leaves in its buffers where what it prints, or what a person is told, is not written. Assumes nothing.
use Rattle.std.specs.Prelude.{ℕ, ◌≡◌, List, [], ◌∷◌, ◌++◌}
use Rattle.input.specs.Splitting.{lines_in}
use Rattle.book.specs.Layout.{Buffers}
use Rattle.book_opening.specs.declared.How.{How}
use Rattle.book_opening.specs.Opening.{Opening, declined, left, opening, opens}
use Rattle.histories.specs.Histories.{Lent}
use Rattle.histories.specs.Demand.{lent_opening}
use Rattle.rounds.specs.Rounds.{line_lent, lines_lent}

-- the lines ls were to be run on x, behind the opening of the text s: the last was run behind those before it, the rest was not, and the buffers are b
pub record RunsSome (s : List ℕ) (x : Lent) (ls : List (List ℕ)) (b : Buffers) : Type 0 where
  pub before : List (List ℕ)
  pub last : List ℕ
  pub rest : List (List ℕ)
  pub parts : ls ≡ before ++ last ∷ rest
  pub left : b ≡ (line_lent s (lines_lent s x before) last).buffers

-- the same behind an opening in the buffers b: of a text that is refused no line is run
abbrev pub OpeningStops : List ℕ → Buffers → List (List ℕ) → Opening → Buffers → Type 0
OpeningStops s b ls (opens w) l = RunsSome s (lent_opening b (opens w)) ls l
OpeningStops s b ls (declined n p) l = l ≡ left b (declined n p)

-- and of the desk's input: the text s, opened in the buffers b, and the lines of commands
abbrev pub DeskStops : How → Buffers → List ℕ → List ℕ → Buffers → Type 0
DeskStops how b s commands l = OpeningStops s b (lines_in [] commands) (opening how b s) l
