-- Scripts, export lists and texts of `add_symbol`, as 01 has them under 'Reading': the step of a reading at each of its places.
-- Assumes nothing.
use Rattle.std.specs.Prelude.{ℕ, List, cond}
use Rattle.numbers.specs.Limits.{over, script_limit, token_limit}
use Rattle.numbers.specs.declared.Refusal.TheVariants as no
use Rattle.numbers.specs.Signs.{opening_brace}
use Rattle.reading_cursors.specs.declared.Cursor.{Cursor}
use Rattle.reading_cursors.specs.declared.Event.TheVariants.{Body}
use Rattle.reading_cursors.specs.declared.places.Place.{Place}
use Rattle.reading_cursors.specs.declared.places.Place.TheVariants as place
use Rattle.reading_cursors.specs.Moves.{Step, stepped, finished, refused_at, moved, skipping, expecting}
use Rattle.reading_matchers.specs.Matchers.{matcher, bare_matcher, in_extern, in_bare}
use Rattle.reading_cursors.specs.Places.{in_body, in_sole, in_list, in_symbol_extern, in_bare_extern, behind_symbol}
use Rattle.reading_bodies.specs.Bodies.{node_at, script_at, body_at, sole_at, list_at}

-- a body or a list opens: "skip, `{`"
unfoldable pub opening_at : Cursor → List ℕ → Place → Step
opening_at c s place = skipping c s c.at (λ p. expecting opening_brace s p (λ q. stepped Body (moved c place q)))

-- ---- "script, text … over its limit"
abbrev pub within : ℕ → List ℕ → Step → Step
within limit s r = cond (over limit s) (refused_at no.TooLong 0) r

-- ---- a step, at each place of a reading
unfoldable pub start_script : List ℕ → Cursor → Step
start_script s c = within script_limit s (skipping c s c.at (λ p. script_at c s p))

unfoldable pub go_node : List ℕ → Cursor → Step
go_node s c = skipping c s c.at (λ p. node_at c s p)

unfoldable pub go_body : List ℕ → Cursor → Step
go_body s c = skipping c s c.at (λ p. body_at c s p)

unfoldable pub go_sole : List ℕ → Cursor → Step
go_sole s c = skipping c s c.at (λ p. sole_at c s p)

unfoldable pub go_list : List ℕ → Cursor → Step
go_list s c = skipping c s c.at (λ p. list_at c s p)

-- "`add_symbol` reads one matcher with no skip before it and ignores what is left."
unfoldable pub step_at : List ℕ → Cursor → Place → Step
step_at s c place.AtScript = start_script s c
step_at s c place.AtNode = go_node s c
step_at s c place.AtBody = opening_at c s in_body
step_at s c place.InBody = go_body s c
step_at s c place.InBodyExtern = in_extern c s in_body
step_at s c place.InSole = go_sole s c
step_at s c place.InSoleExtern = in_extern c s in_sole
step_at s c place.AtList = within script_limit s (opening_at c s in_list)
step_at s c place.InList = go_list s c
step_at s c place.InListExtern = in_extern c s in_list
step_at s c place.AtSymbol = within token_limit s (matcher c s in_symbol_extern behind_symbol 0)
step_at s c place.InSymbolExtern = in_extern c s behind_symbol
step_at s c place.AtBare = within token_limit s (bare_matcher c s in_bare_extern behind_symbol)
step_at s c place.InBareExtern = in_bare c s behind_symbol
step_at s c place.BehindSymbol = finished

unfoldable pub next : List ℕ → Cursor → Step
next s c = step_at s c c.place
