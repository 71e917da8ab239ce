-- 01, 'Reading': "A token loses trailing space, tab, LF, FF, CR." Assumes nothing.
use Rattle.std.specs.Prelude.{ℕ, List, [], ◌∷◌, Bool, cond, ◌||◌, eqb}
use Rattle.numbers.specs.Signs.{carriage_return, form_feed, line_feed, space, tab}

unfoldable pub white : ℕ → Bool
white b = eqb b space || (eqb b tab || (eqb b line_feed || (eqb b form_feed || eqb b carriage_return)))

-- b before what is kept of the text behind it
abbrev pub keeping : ℕ → List ℕ → List ℕ
keeping b [] = cond (white b) [] (b ∷ [])
keeping b (c ∷ l) = b ∷ c ∷ l

unfoldable pub trim_end : List ℕ → List ℕ
trim_end [] = []
trim_end (b ∷ l) = keeping b (trim_end l)
