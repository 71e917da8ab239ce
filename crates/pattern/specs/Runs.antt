-- Runs of stars (02, request 01): "a run outside a bracket is kept as one star".
-- Proved of these definitions (proofs/Runs.antt, Stored.antt), for every text and name: what is kept has the elements of what was given, without the stars
-- behind a star, and matches the same names; it has no run, and squeezed again it stays; its characters are those of the text, squeezed.
-- Assumes nothing.
use Rattle.std.specs.Prelude.{ℕ, zero, suc, List, [], ◌∷◌, Bool, true, false, cond, ◌||◌, eqb}
use Rattle.numbers.specs.Signs.{asterisk}
use Rattle.numbers.specs.declared.Edition.{Edition}
use Rattle.pattern.specs.Patterns.{Element, star, one, element}

-- s without the stars, outside brackets, that stand behind a star; its first k belong to an element that started before, and `b` says that a star stands
-- just before
unfoldable pub squeezed_past : Edition → ℕ → Bool → List ℕ → List ℕ
squeezed_past e k b [] = []
squeezed_past e (suc k) b (c ∷ s) = c ∷ squeezed_past e k false s
squeezed_past e zero b (c ∷ s) =
    cond (eqb c asterisk) (cond b (squeezed_past e 0 true s) (c ∷ squeezed_past e 0 true s)) (c ∷ squeezed_past e (element e c s).more false s)

unfoldable pub squeezed : Edition → List ℕ → List ℕ
squeezed e s = squeezed_past e 0 false s

-- elements without the stars that stand behind a star; `b` says that one stands just before
unfoldable pub runless : Bool → List Element → List Element
runless b [] = []
runless b (star ∷ p) = cond b (runless true p) (star ∷ runless true p)
runless b (one m ∷ p) = one m ∷ runless false p

-- whether two stars stand side by side among elements; `b` says that one stands just before
unfoldable pub has_run : Bool → List Element → Bool
has_run b [] = false
has_run b (star ∷ p) = b || has_run true p
has_run b (one m ∷ p) = has_run false p
