-- The desk's lines, one a turn: what is left to run from a place of the commands on leads where all of them lead. Assumes nothing.
use Prim.Native.Nat.{ℕ, ◌+◌, ◌-◌, ◌≤◌, ◌<◌}
use mathlib.Core.Path.{◌≡◌, refl, sym, ap, ◌∙◌}
use mathlib.Core.List.{List, [], ◌∷◌}
use lib.ListN.{length, take, drop}
use Rattle.lists.specs.Front.{front}
use Rattle.input.specs.Splitting.{input_limit, lines_in}
use Rattle.book.specs.declared.Counts.{Counts}
use Rattle.book.specs.Layout.{Buffers}
use Rattle.input.specs.Splitting.{line_end}
use Rattle.histories.specs.Histories.{Lent}
use Rattle.desk.specs.declared.answering.Ran.{Ran}
use Rattle.desk.specs.Desk.{line_leaves, line_printed, line_ran, line_step}
use Rattle.rounds.specs.Rounds.{Reached, line_lent, lines_lent, printing_room}
use Rattle.input.proofs.Cuts.{no_lines_from}
use Rattle.input.proofs.Ends.{lines_from}
use Rattle.rounds.proofs.Reaching.{no_line_lacks_room, reached_on}

-- a line that is run in the room for printing leaves what `line_lent` says
pub line_runs : (text : List ℕ) (c : Counts) (b : Buffers) (l out : List ℕ) → Reached text (record { counts = c; buffers = b }) → length l ≤ input_limit
    → printing_room ≤ length out → (r : Ran) → r ≡ line_ran text c b l out → (b' : Buffers) → b' ≡ line_leaves text c b l out
    → record { counts = r.counts; buffers = b' } ≡ line_lent text (record { counts = c; buffers = b }) l
unfolding line_ran line_leaves
line_runs text c b l out t h o r e b' f = rw (e, f, no_line_lacks_room text (record { counts = c; buffers = b }) l out t h o)

-- and prints at the start of the room what its step says
pub line_prints : (text : List ℕ) (c : Counts) (b : Buffers) (l out : List ℕ) → Reached text (record { counts = c; buffers = b }) → length l ≤ input_limit
    → printing_room ≤ length out → (out' : List ℕ) → out' ≡ line_printed text c b l out → out' ≡ front (line_step text c b l).printed out
unfolding line_printed
line_prints text c b l out t h o out' e = e ∙ rw (no_line_lacks_room text (record { counts = c; buffers = b }) l out t h o)

-- from y on, behind the opening of the text, the commands s have been run up to the place at, and left x
pub record Turning (text : List ℕ) (y : Lent) (s : List ℕ) (x : Lent) (at : ℕ) : Type 0 where
  pub reached : Reached text x
  pub leads : lines_lent text x (lines_in [] (drop at s)) ≡ lines_lent text y (lines_in [] s)

pub turns_begin : (text : List ℕ) (y : Lent) (s : List ℕ) → Reached text y → Turning text y s y 0
turns_begin text y s r = record { reached = r; leads = refl }

pub turns_on : (text : List ℕ) (y : Lent) (s : List ℕ) (x : Lent) (at : ℕ) → Turning text y s x at → at < length s → (end : ℕ) → end ≡ line_end s at
    → (z : Lent) → z ≡ line_lent text x (take (end - at) (drop at s)) → Turning text y s z (end + 1)
unfolding lines_lent
turns_on text y s x at t h end e z f =
    let l : List ℕ = take (end - at) (drop at s) in
    let q : lines_in [] (drop at s) ≡ take (line_end s at - at) (drop at s) ∷ lines_in [] (drop (line_end s at + 1) s) = lines_from s at h in
    record {
      reached = rw f (reached_on text x l t.reached);
      leads = rw (f, e) (ap (lines_lent text x) (sym q) ∙ t.leads);
    }

pub turns_end : (text : List ℕ) (y : Lent) (s : List ℕ) (x : Lent) (at : ℕ) → Turning text y s x at → length s ≤ at → x ≡ lines_lent text y (lines_in [] s)
unfolding lines_lent
turns_end text y s x at t h = sym (ap (lines_lent text x) (no_lines_from s at h)) ∙ t.leads
