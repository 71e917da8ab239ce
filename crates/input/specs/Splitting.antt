-- The parts of verlist's input, as 01 has them: "script, a line `%%`, then one symbol a line (a last LF may lack), `@` before a wanted version." trial_desk's
-- input has the same mark. Assumes nothing.
use Rattle.std.specs.Prelude.{ℕ, ◌+◌, List, [], ◌∷◌, ◌++◌, Bool, true, cond, ◌&&◌, ◌||◌, eqb, length, get_or, take, drop, Option, Some, None}
use Rattle.std.specs.Option.{unwrap_or}
use Rattle.numbers.specs.Signs.{line_feed, tab}
use Rattle.linker_script.specs.Finding.{first_from, found, is}
use Rattle.linker_script.specs.Parts.{behind}

-- `%` and `@`
abbrev pub percent : ℕ
percent = 37

abbrev pub at_sign : ℕ
at_sign = 64

-- "(65,536 bytes at most)"
abbrev pub input_limit : ℕ
input_limit = 65536

-- "a line `%%`": a text that begins with a line of these two bytes alone
unfoldable pub marks : List ℕ → Bool
marks l = eqb (get_or l 0 0) percent && (eqb (get_or l 1 0) percent && (eqb (length l) 2 || eqb (get_or l 2 0) line_feed))

-- the place of the first such line, of the text l, which begins at the place p; `fresh` says that a line begins there
unfoldable pub mark_in : Bool → ℕ → List ℕ → Option ℕ
mark_in fresh p [] = None
mark_in fresh p (b ∷ l) = found (fresh && marks (b ∷ l)) p (mark_in (eqb b line_feed) (p + 1) l)

unfoldable pub mark : List ℕ → Option ℕ
mark s = mark_in true 0 s

-- what stands before the place that is found, or all. "without a `%%` line all is script"
abbrev pub part_before : List ℕ → Option ℕ → List ℕ
part_before s (Some p) = take p s
part_before s None = s

-- the line `%%` with its LF
abbrev pub mark_line : List ℕ
mark_line = percent ∷ percent ∷ line_feed ∷ []

-- the symbols' lines, behind that line
abbrev pub symbols_by : List ℕ → Option ℕ → List ℕ
symbols_by s (Some p) = drop (behind mark_line p) s
symbols_by s None = []

-- one line goes to the first line feed from its place on, or to the end of the text
unfoldable pub line_end : List ℕ → ℕ → ℕ
line_end s p = unwrap_or (first_from (is line_feed) s p) (length s)

-- what stands behind the last LF is a line, unless it is empty
abbrev pub last_line : List ℕ → List (List ℕ)
last_line [] = []
last_line (c ∷ t) = (c ∷ t) ∷ []

-- "one symbol a line (a last LF may lack)", and one command a line: the lines of s, the first of which has begun with t
unfoldable pub lines_in : List ℕ → List ℕ → List (List ℕ)
lines_in t [] = last_line t
lines_in t (b ∷ s) = cond (eqb b line_feed) (t ∷ lines_in [] s) (lines_in (t ++ b ∷ []) s)

-- ---- "The first `@` splits a line"
abbrev pub wanted_by : List ℕ → Option ℕ → Option (List ℕ)
wanted_by t (Some p) = Some (drop (p + 1) t)
wanted_by t None = None

unfoldable pub name_part : List ℕ → List ℕ
name_part t = part_before t (first_from (is at_sign) t 0)

unfoldable pub wanted_part : List ℕ → Option (List ℕ)
wanted_part t = wanted_by t (first_from (is at_sign) t 0)

-- ---- 01: "C++ lines see the demangled name". verlist's lines tell none; those of `why` and of the release desk may, behind a TAB (docs/DECISIONS.md). The
-- first TAB splits a line, before any `@` does
unfoldable pub symbol_part : List ℕ → List ℕ
symbol_part t = part_before t (first_from (is tab) t 0)

-- 01: "the raw one again if there is none"; an empty one behind a TAB is one
abbrev pub demangled_by : List ℕ → List ℕ → Option ℕ → List ℕ
demangled_by t raw (Some p) = drop (p + 1) t
demangled_by t raw None = raw

unfoldable pub demangled_part : List ℕ → List ℕ
demangled_part t = demangled_by t (name_part (symbol_part t)) (first_from (is tab) t 0)
