-- What the inner functions answer, for the proofs of those that call them: where, in a pattern's bytes, an element stands, and what it says of a
-- character. What a user is promised does not lean on it.
-- Assumes nothing.
use Rattle.std.specs.Prelude.{ℕ, ◌≤◌, ◌<◌, ◌≡◌, List, [], ◌∷◌, true, false, length, drop}
use Rattle.utf8.specs.Utf8.{chars}
use Rattle.numbers.specs.declared.Edition.{Edition}
use Rattle.pattern.specs.Patterns.{Taker, takes, Element, star, one, opened, elements}
use Rattle.pattern.specs.Post.{taken}
use Rattle.matching.specs.declared.elements.ElementAt.{ElementAt}
use Rattle.matching.specs.declared.elements.ElementAt.TheVariants.{Star, Takes, Fails}

-- a bracket whose `[` stands just before the place `at`
pub record BracketTakes (e : Edition) (p : List ℕ) (at x n : ℕ) : Type 0 where
  pub onward : at ≤ n
  pub behind : drop (opened e (chars (drop at p))).more (chars (drop at p)) ≡ chars (drop n p)
  pub fits : taken (opened e (chars (drop at p))).what x ≡ true

pub record BracketFails (e : Edition) (p : List ℕ) (at x k : ℕ) : Type 0 where
  pub once : k ≡ 1
  pub fails : taken (opened e (chars (drop at p))).what x ≡ false

abbrev pub BracketAtOk : Edition → List ℕ → ℕ → ℕ → ElementAt → Type 0
BracketAtOk e p at x (Star n) = ⊥
BracketAtOk e p at x (Takes n) = BracketTakes e p at x n
BracketAtOk e p at x (Fails k) = BracketFails e p at x k

pub record ElementStar (e : Edition) (p : List ℕ) (at n : ℕ) : Type 0 where
  pub room : at < length p
  pub onward : at < n
  pub reads : elements e (drop at p) ≡ star ∷ elements e (drop n p)

pub record ElementTakes (e : Edition) (p : List ℕ) (at x n : ℕ) : Type 0 where
  pub m : Taker
  pub room : at < length p
  pub onward : at < n
  pub reads : elements e (drop at p) ≡ one m ∷ elements e (drop n p)
  pub fits : takes m x ≡ true

-- by the number of tests: the pattern has ended, or its first element does not take x
pub data ElementFails (e : Edition) (p : List ℕ) (at x : ℕ) : ℕ → Type 0 where
  ends : elements e (drop at p) ≡ [] → ElementFails e p at x 0
  differs : (m : Taker) (q : List Element) → elements e (drop at p) ≡ one m ∷ q → takes m x ≡ false → ElementFails e p at x 1

abbrev pub ElementOk : Edition → List ℕ → ℕ → ℕ → ElementAt → Type 0
ElementOk e p at x (Star n) = ElementStar e p at n
ElementOk e p at x (Takes n) = ElementTakes e p at x n
ElementOk e p at x (Fails k) = ElementFails e p at x k
