-- What the inner functions of `runs` answer, for the proofs of those that call them: how a walk over a token's bytes stands in the definitions. What a user is
-- promised does not lean on it.
-- Assumes nothing.
use Rattle.std.specs.Prelude.{Option, Some, None, ℕ, ◌+◌, List, [], ◌∷◌, Bool, true, false, not, cond, ◌&&◌, eqb, length, drop}
use Rattle.numbers.specs.Signs.{asterisk, caret, opening_bracket}
use Rattle.numbers.specs.declared.Edition.{Edition}
use Rattle.pattern.specs.Patterns.{between}
use Rattle.pattern.specs.Post.{mark_as}
use Rattle.pattern.specs.Storing.{negated_from}
use Rattle.pattern.specs.Runs.{squeezed_past}
use Rattle.storing.specs.declared.runs.Walk.{Walk}
use Rattle.storing.specs.declared.runs.Step.{Step}

-- a byte behind another that storing can change: the second of `**`, or that of `[^`
unfoldable pub pair : ℕ → ℕ → Bool
pair p c = cond (eqb c asterisk) (eqb p asterisk) (cond (eqb c caret) (eqb p opening_bracket) false)

-- no such pair stands in s, behind the byte p
unfoldable pub plain_from : ℕ → List ℕ → Bool
plain_from p [] = true
plain_from p (c ∷ s) = not (pair p c) && plain_from c s

abbrev pub plain : List ℕ → Bool
plain t = plain_from 0 t

-- what is kept from a place on, of the bytes there, where a walk stands at w
unfoldable pub kept_from : Edition → Walk → List ℕ → List ℕ
kept_from e w s = squeezed_past e w.left w.starred (negated_from w.opened s)

-- at the first byte
abbrev pub at_start : Walk
at_start = record { left = 0; starred = false; opened = false }

-- what a step puts before what is kept behind it
abbrev pub put_before : Option ℕ → List ℕ → List ℕ
put_before None s = s
put_before (Some x) s = x ∷ s

abbrev pub put_by : Step → List ℕ → List ℕ
put_by r s = put_before r.put s

-- a byte that stays, with k bytes of its element left behind it; b says that it is a `[`
abbrev pub kept_step : ℕ → ℕ → Bool → Step
kept_step x k b = record { put = Some x; then = record { left = k; starred = false; opened = b } }

-- how many bytes a token's bracket takes behind its `[`, with its `]`
abbrev pub bracket_more : Edition → List ℕ → ℕ
bracket_more e s = mark_as true s + length (between e (drop (mark_as true s) s)) + 1
