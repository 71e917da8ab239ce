-- What a settle copies, request 04: "Copy nothing before the first struck line, and copy each later byte once. Answers, rows and pool afterwards are what they
-- were." What they were is `settled` (trial/specs/Trial.antt). Here stand the copies, of bytes within the pool and of rows within the rows, and what holds of
-- them, `SettleCopies`, which proofs/CopyLaws.antt proves. They are of lists: no function answers yet how many it made. Assumes nothing.
use Rattle.std.specs.Prelude.{ℕ, zero, suc, ◌+◌, ◌≡◌, List, [], ◌∷◌, ◌++◌, map, Bool, true, false, cond, ◌&&◌, not, eqb, leb, ltb, length, drop, get_or, set}
use Rattle.lists.specs.Each.{every}
use Rattle.packing.specs.Tables.{packed}
use Rattle.book.specs.Books.{Line}
use Rattle.book.specs.Edits.{stands}
use Rattle.book.specs.Layout.{line_form}
use Rattle.trial.specs.Trial.{standing}

-- one thing of a buffer is copied: the place that it is read at, and the place that it is written to
pub record Copy : Type 0 where
  pub source : ℕ
  pub target : ℕ

-- k neighbours, the lowest first: the places that they leave and those that they get may overlap
unfoldable pub run : ℕ → ℕ → ℕ → List Copy
run zero source target = []
run (suc k) source target = record { source = source; target = target } ∷ run k (suc source) (suc target)

-- what stays in its place is not copied
abbrev pub moved : ℕ → ℕ → ℕ → List Copy
moved k source target = cond (eqb source target) [] (run k source target)

-- "the first struck line": the lines before it, which are all where none is struck
unfoldable pub before_struck : List Line → List Line
before_struck [] = []
before_struck (x ∷ xs) = cond (stands x) (x ∷ before_struck xs) []

-- a buffer in which each line has some things: its bytes, or one row
module _ {X : Type 0} (has : Line → List X) where
  -- those of all lines, one behind the other
  unfoldable pub joined : List Line → List X
  joined [] = []
  joined (x ∷ xs) = has x ++ joined xs

  -- the copies that pack the lines that stand: all lines have their things from `source` on, and those that stand get theirs from `target` on
  unfoldable pub copies : ℕ → ℕ → List Line → List Copy
  copies source target [] = []
  copies source target (x ∷ xs) =
      cond (stands x)
      (moved (length (has x)) source target ++ copies (source + length (has x)) (target + length (has x)) xs)
      (copies (source + length (has x)) target xs)

-- the two buffers: a line has its bytes in the pool, and one row, which counts as one thing: where it moves its start is written anew, and its other numbers
-- are copied
abbrev pub bytes_of : Line → List ℕ
bytes_of x = x.bytes

abbrev pub row_of : Line → List Line
row_of x = x ∷ []

abbrev pub byte_copies : List Line → List Copy
byte_copies ls = copies bytes_of 0 0 ls

abbrev pub row_copies : List Line → List Copy
row_copies ls = copies row_of 0 0 ls

-- ---- what holds of them
-- whether no place occurs twice
unfoldable pub once : List ℕ → Bool
once [] = true
once (k ∷ ks) = every (λ (j : ℕ). not (eqb j k)) ks && once ks

-- whether none reads a place that one before it wrote
unfoldable pub fresh : List Copy → Bool
fresh [] = true
fresh (c ∷ cs) = every (λ (d : Copy). not (eqb d.source c.target)) cs && fresh cs

-- a buffer after copies that are made one after the other
unfoldable pub carried : {X : Type 0} → X → List Copy → List X → List X
carried d [] l = l
carried d (c ∷ cs) l = carried d cs (set l c.target (get_or l c.source d))

-- copies cs that settle the lines ls, in a buffer in which each has the things of `has`
pub record CopiedOnce {X : Type 0} (has : Line → List X) (ls : List Line) (cs : List Copy) : Type 0 where
  -- "copy each later byte once", at most: no place is read twice, none is read that was written before, and none is written twice
  pub sources : once (map (λ (c : Copy). c.source) cs) ≡ true
  pub reads : fresh cs ≡ true
  pub targets : once (map (λ (c : Copy). c.target) cs) ≡ true
  -- "Copy nothing before the first struck line": none is written before its start, and, since each goes to a lower place, none is read there; nor is one copied
  -- onto itself
  pub behind : every (λ (c : Copy). leb (length (joined has (before_struck ls))) c.target) cs ≡ true
  pub moves : every (λ (c : Copy). ltb c.target c.source) cs ≡ true
  -- "afterwards are what they were": made on the things of all lines they leave those of the lines that stand at the front. What is behind these is as it was,
  -- and is cleared then
  pub leaves : (d : X) (rest : List X)
      → carried d cs (joined has ls ++ rest) ≡ joined has (standing ls) ++ drop (length (joined has (standing ls))) (joined has ls ++ rest)

-- a copy within a part that begins at k, by its places in the whole buffer
abbrev pub further : ℕ → Copy → Copy
further k c = record { source = k + c.source; target = k + c.target }

-- the copies of all lines are those of the lines from the first struck one on, which alone are lent for packing
abbrev pub CopiedBehind : {X : Type 0} → (Line → List X) → List Line → Type 0
CopiedBehind has ls =
    map (further (length (joined has (before_struck ls)))) (copies has 0 0 (drop (length (before_struck ls)) ls)) ≡ copies has 0 0 ls

pub record SettleCopies : Type 0 where
  pub bytes : (ls : List Line) → CopiedOnce bytes_of ls (byte_copies ls)
  pub bytes_behind : (ls : List Line) → CopiedBehind bytes_of ls
  -- the bytes are the pool's
  pub pool : (ls : List Line) → joined bytes_of ls ≡ packed line_form ls
  pub rows : (ls : List Line) → CopiedOnce row_of ls (row_copies ls)
  pub rows_behind : (ls : List Line) → CopiedBehind row_of ls
  -- from the first struck line on each row moves whose line stands
  pub rows_moved : (x : Line) (ls : List Line) → stands x ≡ false → length (row_copies (x ∷ ls)) ≡ length (standing (x ∷ ls))
