-- Two things that equal a third are equal. Assumes nothing.
use mathlib.Core.Path.{◌≡◌, sym, ◌∙◌}

pub same : {A : Type 0} {x y z : A} → x ≡ z → y ≡ z → x ≡ y
same p q = p ∙ sym q

-- what a parameter last is, before what the others are
infixr 30 ◌▹◌
abbrev pub ◌▹◌ : {A B : Type 0} → A → B → A × B
x ▹ y = (x, y)
