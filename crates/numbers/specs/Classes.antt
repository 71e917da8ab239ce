-- 01, 'The book': "Classes: 0 Exact, 1 Escaped, 2 NonStar, 3 Star, 4 All". Assumes nothing.
use Rattle.std.specs.Prelude.{ℕ, Bool, leb}

abbrev pub exact_class : ℕ
exact_class = 0

abbrev pub escaped_class : ℕ
escaped_class = 1

abbrev pub nonstar_class : ℕ
nonstar_class = 2

abbrev pub star_class : ℕ
star_class = 3

abbrev pub all_class : ℕ
all_class = 4

-- Exact and Escaped go by their bytes alone
abbrev pub by_bytes : ℕ → Bool
by_bytes class = leb class escaped_class
