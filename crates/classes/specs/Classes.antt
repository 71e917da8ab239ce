-- A token's class, as 01 has it under 'Classes and patterns'. A token is trimmed by who read it (01, 'Reading'); here its bytes are taken as they are.
-- Assumes nothing.
use Rattle.std.specs.Prelude.{ℕ, ◌-◌, List, [], ◌∷◌, Bool, true, false, cond, ◌&&◌, ◌||◌, eqb, leb, length, get_or, take, drop}
use Rattle.numbers.specs.Classes.{all_class, escaped_class, exact_class, nonstar_class, star_class}
use Rattle.numbers.specs.Signs.{asterisk, backslash, closing_bracket, opening_bracket, question, quote}
use Rattle.classes.specs.declared.Class.{Class}
use Rattle.classes.specs.declared.Class.TheVariants.{Exact, Escaped, NonStar, Star, All}

-- the paper's number of a class
abbrev pub class_number : Class → ℕ
class_number Exact = exact_class
class_number Escaped = escaped_class
class_number NonStar = nonstar_class
class_number Star = star_class
class_number All = all_class

-- "starts and ends with `"` (two bytes at least)"
unfoldable pub quoted : List ℕ → Bool
quoted t = leb 2 (length t) && (eqb (get_or t 0 0) quote && eqb (get_or t (length t - 1) 0) quote)

-- "Exact, inside kept"
unfoldable pub unquoted : List ℕ → List ℕ
unquoted t = take (length t - 2) (drop 1 t)

-- "`*`: All"
unfoldable pub lone_star : List ℕ → Bool
lone_star [] = false
lone_star (c ∷ []) = eqb c asterisk
lone_star (c ∷ d ∷ s) = false

-- "`\` makes an Exact into Escaped"
abbrev pub escaped : Class → Class
escaped Exact = Escaped
escaped Escaped = Escaped
escaped NonStar = NonStar
escaped Star = Star
escaped All = All

-- "`[`, `]`, `?` give NonStar"
unfoldable pub nonstar : ℕ → Bool
nonstar c = eqb c opening_bracket || (eqb c closing_bracket || eqb c question)

unfoldable pub scanned : Class → ℕ → Class
scanned k c = cond (eqb c backslash) (escaped k) (cond (nonstar c) NonStar k)

-- "Else scan: `\` makes an Exact into Escaped and skips a byte; `*` gives Star at once; `[`, `]`, `?` give NonStar."
-- k is the class so far; `skips` says that the first byte is skipped
unfoldable pub scan : Class → Bool → List ℕ → Class
scan k skips [] = k
scan k true (c ∷ s) = scan k false s
scan k false (c ∷ s) = cond (eqb c asterisk) Star (scan (scanned k c) (eqb c backslash) s)

-- the bytes that the scan looks for
unfoldable pub sign : ℕ → Bool
sign c = eqb c asterisk || (eqb c backslash || nonstar c)

-- without a look at quotes
abbrev pub class_unquoted : List ℕ → Class
class_unquoted t = cond (lone_star t) All (scan Exact false t)

-- "In order"
unfoldable pub class_of : List ℕ → Class
class_of t = cond (quoted t) Exact (class_unquoted t)
