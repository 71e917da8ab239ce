-- An edit taken back, and a journal taken back from its latest edit on. Assumes nothing.
use Rattle.std.specs.Prelude.{ℕ, ◌+◌, List, [], ◌∷◌, Bool, false, cond, ◌&&◌, not, eqb, ltb, length, get_or, set, take, Option, Some, None}
use Rattle.lists.specs.Each.{every}
use Rattle.book.specs.Books.{Line, Edit, add, no_line}

abbrev pub stands : Line → Bool
stands x = eqb x.struck 0

abbrev pub line_at : List Line → ℕ → Line
line_at ls i = get_or ls i no_line

-- the line with another mark
abbrev pub marked : ℕ → Line → Line
marked k x = record {
  node = x.node;
  class = x.class;
  section = x.section;
  language = x.language;
  struck = k;
  bytes = x.bytes;
  offset = x.offset;
}

-- the lines with that mark on line i
abbrev pub marked_at : ℕ → List Line → ℕ → List Line
marked_at k ls i = set ls i (marked k (line_at ls i))

-- the lines, those standing again whose number has a mark in gs
unfoldable pub standing_again : List ℕ → List Line → List Line
standing_again gs [] = []
standing_again [] (x ∷ ls) = x ∷ ls
standing_again (g ∷ gs) (x ∷ ls) = cond (eqb g 0) x (marked 0 x) ∷ standing_again gs ls

-- an add that is taken back is of the last line, which stands, and the line goes
unfoldable pub add_back : ℕ → List Line → Option (List Line)
add_back i ls = cond (eqb (length ls) (i + 1) && stands (line_at ls i)) (Some (take i ls)) None

-- a strike is of a line that is struck, and the line stands again
unfoldable pub strike_back : ℕ → List Line → Option (List Line)
strike_back i ls = cond (ltb i (length ls) && not (stands (line_at ls i))) (Some (marked_at 0 ls i)) None

unfoldable pub take_back : Edit → List Line → Option (List Line)
take_back e ls = cond (eqb e.what add) (add_back e.line ls) (strike_back e.line ls)

abbrev pub then_back : Edit → Option (List Line) → Option (List Line)
then_back e (Some ls) = take_back e ls
then_back e None = None

-- the lines before all of these edits, the latest taken back first
unfoldable pub all_back : List Edit → List Line → Option (List Line)
all_back [] ls = Some ls
all_back (e ∷ es) ls = then_back e (all_back es ls)

abbrev pub all_stand : Option (List Line) → Bool
all_stand (Some ls) = every stands ls
all_stand None = false

-- "a journal whose steps backward don't fit the lines or leave one struck"
unfoldable pub journal_fits : List Edit → List Line → Bool
journal_fits es ls = all_stand (all_back es ls)
