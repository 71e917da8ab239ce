-- The first place of something in a text, from a place on. Assumes nothing.
use Rattle.std.specs.Prelude.{ℕ, ◌+◌, List, [], ◌∷◌, Bool, true, false, ◌&&◌, eqb, get_or, drop, Option, Some, None}
use Rattle.numbers.specs.Signs.{closing_brace, semicolon}

-- what is asked of a byte and the byte behind it, 0 at the end
abbrev pub Test : Type 0
Test = ℕ → ℕ → Bool

abbrev pub found : Bool → ℕ → Option ℕ → Option ℕ
found true p r = Some p
found false p r = r

-- the first place that passes the test, of the text l, which begins at the place p
unfoldable pub first_in : Test → ℕ → List ℕ → Option ℕ
first_in t p [] = None
first_in t p (b ∷ l) = found (t b (get_or l 0 0)) p (first_in t (p + 1) l)

-- of the text s, from the place p on
unfoldable pub first_from : Test → List ℕ → ℕ → Option ℕ
first_from t s p = first_in t p (drop p s)

-- whether there is one
abbrev pub found_any : Option ℕ → Bool
found_any (Some q) = true
found_any None = false

-- a byte, and two bytes side by side
abbrev pub is : ℕ → Test
is x b n = eqb b x

abbrev pub are : ℕ → ℕ → Test
are x y b n = eqb b x && eqb n y

-- `};`
abbrev pub closes : Test
closes = are closing_brace semicolon

-- one more than the place p where it is one, else what was found before it
abbrev pub later : Bool → ℕ → ℕ → ℕ
later true p r = p + 1
later false p r = r

-- one more than the last place of `};` in the text l, which begins at the place p; r where there is none
unfoldable pub last_in : ℕ → ℕ → List ℕ → ℕ
last_in p r [] = r
last_in p r (b ∷ l) = last_in (p + 1) (later (closes b (get_or l 0 0)) p r) l

-- behind which no `};` is left in s
unfoldable pub last_close : List ℕ → ℕ
last_close s = last_in 0 0 s
