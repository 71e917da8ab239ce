-- Tests that are joined by `&&` or `||`: what a test that holds gives, and what one that fails leaves. Assumes nothing.
use mathlib.Core.Path.{◌≡◌, refl, ◌∙◌}
use mathlib.Core.Bool.{Bool, true, false, ◌&&◌, ◌||◌, false≢true, true≢false}

-- where both hold, each does
pub both : (a b : Bool) → (a && b) ≡ true → (a ≡ true) × (b ≡ true)
both true b e = (refl, e)
both false b e = absurd (false≢true e)

-- where not even one holds, each fails
pub neither : (a b : Bool) → (a || b) ≡ false → (a ≡ false) × (b ≡ false)
neither true b e = absurd (true≢false e)
neither false b e = (refl, e)

-- a test that cannot hold fails
pub fails : {t : Bool} → (t ≡ true → ⊥) → t ≡ false
fails {t = true} h = absurd (h refl)
fails {t = false} h = refl

-- where the first fails, all fails
pub first_fails : {x a : Bool} (b : Bool) → x ≡ (a && b) → a ≡ false → x ≡ false
first_fails b e f = e ∙ rw f

-- where the first holds, the rest decides
pub passes_on : {x a b : Bool} → x ≡ (a && b) → a ≡ true → x ≡ b
passes_on e t = e ∙ rw t
