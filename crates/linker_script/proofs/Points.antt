-- Texts that are skipped and trimmed by computing. Assumes nothing.
use mathlib.Core.Path.{◌≡◌, refl}
use mathlib.Core.List.{[], ◌∷◌}
use Rattle.numbers.specs.declared.Edition.TheVariants.{Reld}
use Rattle.numbers.specs.Signs.{asterisk, form_feed, hash, line_feed, slash, space}
use Rattle.std.specs.Prelude.{Ok, Err}
use Rattle.linker_script.specs.Finding.{first_in}
use Rattle.linker_script.specs.Skip.{blank, move, skip, skip_past}
use Rattle.linker_script.specs.Trim.{white, trim_end}

-- `/*/x`
slash-ends : skip Reld (slash ∷ asterisk ∷ slash ∷ 120 ∷ []) 0 ≡ Ok 3
unfolding skip skip_past move blank first_in
slash-ends = refl

-- ` #a`
no_line-ends : skip Reld (space ∷ hash ∷ 97 ∷ []) 0 ≡ Err 1
unfolding skip skip_past move blank first_in
no_line-ends = refl

-- `#`, LF, `x`
line-ends : skip Reld (hash ∷ line_feed ∷ 120 ∷ []) 0 ≡ Ok 2
unfolding skip skip_past move blank first_in
line-ends = refl

-- `/*`
stays_open : skip Reld (slash ∷ asterisk ∷ []) 0 ≡ Err 0
unfolding skip skip_past move blank first_in
stays_open = refl

-- `f`, FF, space
trims : trim_end (102 ∷ form_feed ∷ space ∷ []) ≡ 102 ∷ []
unfolding trim_end white
trims = refl
