-- A part of a line of the release desk's input: a number in it. Assumes nothing.
use Rattle.std.specs.Prelude.{ℕ, ◌+◌, ◌-◌, ◌*◌, List, [], ◌∷◌, Bool, cond, ◌&&◌, not, leb, ltb, length, drop, Option, Some, None}
use Rattle.std.specs.Char.{is_ascii_digit}
use Rattle.numbers.specs.Signs.{nought}
use Rattle.desk_commands.specs.declared.parts.Numeral.{Numeral}

-- ---- a number: one decimal digit or more, below 2^32; the place behind it
abbrev pub number_limit : ℕ
number_limit = 4294967296

unfoldable pub digit : ℕ → Bool
digit b = leb nought b && leb b (nought + 9)

-- what ends them
abbrev pub other : ℕ → Bool
other b = not (is_ascii_digit b)

-- the digits that a text begins with
unfoldable pub digits : List ℕ → List ℕ
digits [] = []
digits (b ∷ l) = cond (digit b) (b ∷ digits l) []

-- what digits are worth behind others that are worth n
unfoldable pub worth : ℕ → List ℕ → ℕ
worth n [] = n
worth n (d ∷ ds) = worth (n * 10 + (d - nought)) ds

-- the number of the digits that stand at the place p
unfoldable pub number_of : ℕ → List ℕ → Option Numeral
number_of p [] = None
number_of p (d ∷ ds) = cond (ltb (worth 0 (d ∷ ds)) number_limit) (Some (record { value = worth 0 (d ∷ ds); end = p + length (d ∷ ds) })) None

unfoldable pub number_at : List ℕ → ℕ → Option Numeral
number_at l p = number_of p (digits (drop p l))
