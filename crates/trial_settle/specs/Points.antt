-- Known points of document 02, request 04: what a settle copies, of lines that are written out, and lists of copies that do not do. proofs/PointTheorem.antt
-- proves them. Assumes nothing.
use Rattle.std.specs.Prelude.{ℕ, ◌+◌, ◌≡◌, List, [], ◌∷◌, ◌++◌, true, cond, length}
use Prim.Native.String.{String}
use Rattle.numbers.specs.Classes.{all_class, exact_class}
use Rattle.numbers.specs.Marks.{general, global}
use Rattle.lists.specs.Each.{every}
use Rattle.lists.specs.Texts.{codes}
use Rattle.book.specs.Books.{Line, new_line}
use Rattle.book.specs.Edits.{marked, stands}
use Rattle.trial.specs.Trial.{standing}
use Rattle.trial_settle.specs.Copies.{CopiedOnce, Copy, byte_copies, bytes_of, carried, joined, moved, row_copies, row_of}

-- a line of an exact name, and a lone star, which has no bytes
abbrev name : String → Line
name t = new_line 1 global general exact_class (codes t)

abbrev star : Line
star = new_line 1 global general all_class []

abbrev struck : Line → Line
struck x = marked 1 x

-- read at the first place, written to the second
abbrev from_to : ℕ → ℕ → Copy
from_to source target = record { source = source; target = target }

pub record CopiedPoints : Type 0 where
  -- "a settle after striking the last of 9,000 lines": with however many before it, nothing is copied
  pub last_bytes : (ls : List Line) (x : Line) → every stands ls ≡ true → byte_copies (ls ++ struck x ∷ []) ≡ []
  pub last_rows : (ls : List Line) (x : Line) → every stands ls ≡ true → row_copies (ls ++ struck x ∷ []) ≡ []
  -- none is struck
  pub none_bytes : (ls : List Line) → every stands ls ≡ true → byte_copies ls ≡ []
  pub none_rows : (ls : List Line) → every stands ls ≡ true → row_copies ls ≡ []
  -- the first of three is struck
  pub first_bytes : byte_copies (struck (name "a") ∷ name "bc" ∷ name "d" ∷ []) ≡ from_to 1 0 ∷ from_to 2 1 ∷ from_to 3 2 ∷ []
  pub first_rows : row_copies (struck (name "a") ∷ name "bc" ∷ name "d" ∷ []) ≡ from_to 1 0 ∷ from_to 2 1 ∷ []
  -- all three are
  pub all_bytes : byte_copies (struck (name "a") ∷ struck (name "bc") ∷ struck (name "d") ∷ []) ≡ []
  pub all_rows : row_copies (struck (name "a") ∷ struck (name "bc") ∷ struck (name "d") ∷ []) ≡ []
  -- a line without bytes is struck: the rows behind it move, and no byte does
  pub star_bytes : byte_copies (name "a" ∷ struck star ∷ name "bc" ∷ name "d" ∷ []) ≡ []
  pub star_rows : row_copies (name "a" ∷ struck star ∷ name "bc" ∷ name "d" ∷ []) ≡ from_to 2 1 ∷ from_to 3 2 ∷ []
  -- and then one with bytes: those before it stay
  pub later_bytes : byte_copies (struck star ∷ name "a" ∷ struck (name "b") ∷ name "cd" ∷ []) ≡ from_to 2 1 ∷ from_to 3 2 ∷ []
  pub later_rows : row_copies (struck star ∷ name "a" ∷ struck (name "b") ∷ name "cd" ∷ []) ≡ from_to 1 0 ∷ from_to 3 1 ∷ []

-- ---- how it is not done: one struck line dropped after the other, and all behind it moved each time
unfoldable pub one_by_one : {X : Type 0} → (Line → List X) → ℕ → List Line → List Copy
one_by_one has place [] = []
one_by_one has place (x ∷ xs) =
    cond (stands x)
    (one_by_one has (place + length (has x)) xs)
    (moved (length (joined has xs)) (place + length (has x)) place ++ one_by_one has place xs)

-- lines 0 and 2 of four are struck; line 1 of three is
abbrev four : List Line
four = struck (name "a") ∷ name "bc" ∷ struck (name "d") ∷ name "efg" ∷ []

abbrev three : List Line
three = name "a" ∷ struck (name "b") ∷ name "cd" ∷ []

pub record WrongCopies : Type 0 where
  pub ours : byte_copies four ≡ from_to 1 0 ∷ from_to 2 1 ∷ from_to 4 2 ∷ from_to 5 3 ∷ from_to 6 4 ∷ []
  pub theirs : one_by_one bytes_of 0 four
      ≡ from_to 1 0 ∷ from_to 2 1 ∷ from_to 3 2 ∷ from_to 4 3 ∷ from_to 5 4 ∷ from_to 6 5 ∷ from_to 3 2 ∷ from_to 4 3 ∷ from_to 5 4 ∷ []
  pub their_rows : one_by_one row_of 0 four ≡ from_to 1 0 ∷ from_to 2 1 ∷ from_to 3 2 ∷ from_to 2 1 ∷ []
  -- the bytes of the lines that stand come out the same, but places 2, 3 and 4 are written twice
  pub same : carried 0 (one_by_one bytes_of 0 four) (joined bytes_of four) ≡ joined bytes_of (standing four) ++ codes "gg"
  pub twice : CopiedOnce bytes_of four (one_by_one bytes_of 0 four) → ⊥
  pub rows_twice : CopiedOnce row_of four (one_by_one row_of 0 four) → ⊥
  -- a copy from place 0 on, of what stays; and one copy left out
  pub from_0 : CopiedOnce bytes_of three (from_to 0 0 ∷ from_to 2 1 ∷ from_to 3 2 ∷ []) → ⊥
  pub one_short : CopiedOnce bytes_of three (from_to 2 1 ∷ []) → ⊥
