-- `with_negation` meets its contract. Assumes nothing.
use Prim.Native.Nat.{ℕ}
use mathlib.Core.Path.{◌≡◌}
use mathlib.Core.Bool.{Bool, true, false}
use mathlib.Core.Logic.{◌⊎◌, inl, inr}
use borrow.Author.Tests.{ne_eqb}
use Rattle.pattern.specs.Storing.{stored_byte}
use Rattle.storing.proofs.with_negation.Goals as goal

stays : (b : Bool) (x : ℕ) → ((b ≡ true) × (x ≡ 94 → ⊥)) ⊎ (b ≡ false) → x ≡ stored_byte b x
unfolding stored_byte
stays b x (inl h) = rw (h.0, ne_eqb x 94 h.1)
stays b x (inr h) = rw h

pub returns-then-c-eq94 : goal.returns-then-c-eq94
unfolding stored_byte
returns-then-c-eq94 c = rw (c.if-opened.true, c.if-c-eq94.true)

pub returns-else-opened : goal.returns-else-opened
returns-else-opened c = stays _ _ c.else-opened.either
