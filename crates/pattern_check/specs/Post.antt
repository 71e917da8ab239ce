-- What the inner functions answer, for the proofs of those that call them: where, in a pattern's bytes, a bracket closes. What a user is promised does
-- not lean on it.
-- Assumes nothing.
use Rattle.std.specs.Prelude.{Option, Some, None, ℕ, ◌≤◌, ◌≡◌, List, Bool, true, false, drop}
use Rattle.utf8.specs.Utf8.{chars}
use Rattle.numbers.specs.declared.Edition.{Edition}
use Rattle.pattern.specs.Patterns.{opened}
use Rattle.pattern.specs.Storing.{negated_from}

-- the characters that are asked, of a token each `[^` as `[!`; `b` says that a `[` stands just before
abbrev pub chars_as : Bool → Bool → List ℕ → List ℕ
chars_as true b s = negated_from b s
chars_as false b s = s

pub record ClosedOk (e : Edition) (p : List ℕ) (at : ℕ) (token : Bool) (n : ℕ) : Type 0 where
  pub onward : at ≤ n
  pub good : (opened e (chars_as token true (chars (drop at p)))).good ≡ true
  pub behind : drop (opened e (chars_as token true (chars (drop at p)))).more (chars_as token true (chars (drop at p)))
      ≡ chars_as token false (chars (drop n p))

abbrev pub ClosingOk : Edition → List ℕ → ℕ → Bool → Option ℕ → Type 0
ClosingOk e p at token (Some n) = ClosedOk e p at token n
ClosingOk e p at token None = (opened e (chars_as token true (chars (drop at p)))).good ≡ false
