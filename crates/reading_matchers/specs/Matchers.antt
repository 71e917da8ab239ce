-- Matchers, as 01 has them under 'Reading'. Here p, q and r are places of the text, and `place` and `inner` places of the grammar
-- (reading_cursors/specs/Places.antt): where the reading goes on. Assumes nothing.
use Rattle.std.specs.Prelude.{ℕ, ◌+◌, List, [], ◌∷◌, ◌++◌, cond, eqb, length, get_or, Result, Ok, Err}
use Rattle.linker_script.specs.Parts.{behind}
use Rattle.numbers.specs.Marks.{cxx, general}
use Rattle.numbers.specs.declared.Refusal.TheVariants as no
use Rattle.numbers.specs.Signs.{closing_brace, opening_brace, quote, semicolon, space}
use Rattle.reading_tokens.specs.Tokens.{TokenEnd, stands_at, to_semicolon, to_either, bare_extern_end, bare_end, bare_skip, trimmed}
use Rattle.reading_cursors.specs.declared.Cursor.{Cursor}
use Rattle.reading_cursors.specs.declared.places.Place.{Place}
use Rattle.reading_cursors.specs.declared.Event.{Event}
use Rattle.reading_cursors.specs.declared.Event.TheVariants.{Extern, Closed, Line}
use Rattle.reading_cursors.specs.declared.RefusedAt.{RefusedAt}
use Rattle.reading_cursors.specs.Moves.{Step, stepped, refused_at, edition_at, moved, in_language, skipping, expecting}

-- `extern `, `"C++"`, `"C"`
abbrev pub extern_word : List ℕ
extern_word = 101 ∷ 120 ∷ 116 ∷ 101 ∷ 114 ∷ 110 ∷ space ∷ []

abbrev pub cxx_word : List ℕ
cxx_word = quote ∷ 67 ∷ 43 ∷ 43 ∷ quote ∷ []

abbrev pub c_word : List ℕ
c_word = quote ∷ 67 ∷ quote ∷ []

-- `};`
abbrev pub close_word : List ℕ
close_word = closing_brace ∷ semicolon ∷ []

-- ---- a token
-- "take a `;` if there"
abbrev pub past_semicolon : List ℕ → ℕ → ℕ
past_semicolon s p = cond (eqb (get_or s p 0) semicolon) (p + 1) p

abbrev pub line : Cursor → List ℕ → ℕ → ℕ → Event
line c s p q = Line c.section c.language p (trimmed s p q)

-- the token that starts at p and has the end e is refused there
abbrev pub token_end : ℕ → TokenEnd → Result ℕ RefusedAt
token_end p (Ok q) = Ok q
token_end p (Err n) = Err (record { refusal = n; place = p })

-- "Otherwise a token: …; skip; take a `;` if there": it starts at p, its end is as given, and the reading then stands at `place`
unfoldable pub line_to : Cursor → List ℕ → Place → ℕ → TokenEnd → Step
line_to c s place p (Ok q) = skipping c s q (λ r. stepped (line c s p q) (moved c place (past_semicolon s r)))
line_to c s place p (Err n) = refused_at n p

-- ---- an extern block
-- "skip, `{`": its tokens are read at `place`
unfoldable pub extern_open : Cursor → List ℕ → Place → ℕ → ℕ → Step
extern_open c s place language p =
    skipping c s p (λ r. expecting opening_brace s r (λ q. stepped (Extern c.section language) (moved (in_language c language) place q)))

-- "`extern ` (one space), then `"C++"` or `"C"`": else refused 4; p is the place of `extern `
unfoldable pub extern_at : Cursor → List ℕ → Place → ℕ → Step
extern_at c s place p =
    cond (stands_at cxx_word s (behind extern_word p)) (extern_open c s place cxx (behind (extern_word ++ cxx_word) p))
    (cond (stands_at c_word s (behind extern_word p)) (extern_open c s place general (behind (extern_word ++ c_word) p))
    (refused_at no.BadExtern p))

-- "In … an extern block a skip stands before each … token and before the closing `};`"; "`};`, skip"; "`extern ` within it is refused 4 at once";
-- behind the block the reading goes on at `place`, and e is the end of the token at p
unfoldable pub extern_inside : Cursor → List ℕ → Place → ℕ → TokenEnd → Step
extern_inside c s place p e =
    cond (stands_at close_word s p) (skipping c s (behind close_word p) (λ r. stepped Closed (moved (in_language c general) place r)))
    (cond (stands_at extern_word s p) (refused_at no.BadExtern p)
    (line_to c s c.place p e))

unfoldable pub in_extern : Cursor → List ℕ → Place → Step
in_extern c s place = skipping c s c.at (λ p. extern_inside c s place p (to_either (edition_at c) s p))

-- "An extern block there differs in one point"
unfoldable pub in_bare : Cursor → List ℕ → Place → Step
in_bare c s place = skipping c s c.at (λ p. extern_inside c s place p (bare_extern_end (edition_at c) s p))

-- ---- a matcher at the place p; its extern block is read at `inner`, and behind its token the reading stands at `place`
unfoldable pub matcher : Cursor → List ℕ → Place → Place → ℕ → Step
matcher c s inner place p = cond (stands_at extern_word s p) (extern_at c s inner p) (line_to c s place p (to_semicolon (edition_at c) s p))

-- "With `without_semicolon`" the token is that of `bare_end`, and behind it only the skip is read: the reading then stands past the text, which moves it on
-- also where the text is empty
unfoldable pub bare_line : Cursor → List ℕ → Place → TokenEnd → Step
bare_line c s place (Ok q) = skipping c s (bare_skip (edition_at c) s) (λ r. stepped (line c s 0 q) (moved c place (length s + 1)))
bare_line c s place (Err n) = refused_at n 0

unfoldable pub bare_matcher : Cursor → List ℕ → Place → Place → Step
bare_matcher c s inner place =
    cond (stands_at extern_word s 0) (extern_at c s inner 0) (bare_line c s place (bare_end (edition_at c) s))
