-- The bytes that are stored of a glob. Assumes nothing.
use Rattle.std.specs.Prelude.{ℕ, List, [], ◌∷◌, Bool, true, false, cond, ◌&&◌, eqb}
use Rattle.numbers.specs.Signs.{bang, caret, opening_bracket}
use Rattle.numbers.specs.declared.Edition.{Edition}
use Rattle.pattern.specs.Runs.{squeezed}

-- a byte of a glob, where each `[^` becomes `[!`; `b` says that a `[` stands just before it
unfoldable pub stored_byte : Bool → ℕ → ℕ
stored_byte b c = cond (b && eqb c caret) bang c

unfoldable pub negated_from : Bool → List ℕ → List ℕ
negated_from b [] = []
negated_from b (c ∷ s) = stored_byte b c ∷ negated_from (eqb c opening_bracket) s

-- "each `[^` is stored as `[!`"
unfoldable pub negated : Edition → List ℕ → List ℕ
negated e s = negated_from false s

-- 02, request 01: "brackets being read after `[^` has become `[!`, a run outside a bracket is kept as one star"
unfoldable pub stored : Edition → List ℕ → List ℕ
stored e s = squeezed e (negated e s)

-- the bytes that a refusal is asked of: those of a token as they will be stored, others as they stand
abbrev pub read_as : Edition → Bool → List ℕ → List ℕ
read_as e true p = stored e p
read_as e false p = p
