-- The tests that the matcher makes, in their order (02, request 07): "one being a character of the name held against one `?`, literal or bracket".
-- That its answer is the one of `matches`, and how many tests it makes at most, is proved of these definitions in proofs/Latest.antt.
-- Assumes nothing.
use Rattle.std.specs.Prelude.{ℕ, List, [], ◌∷◌, Bool, true, false, cond, length}
use Rattle.utf8.specs.Utf8.{chars}
use Rattle.numbers.specs.declared.Edition.{Edition}
use Rattle.matching.specs.declared.Tried.{Tried}
use Rattle.pattern.specs.Patterns.{Taker, Element, star, one, takes, ended, elements, matches}

pub record Test : Type 0 where
  pub taker : Taker
  pub char : ℕ

-- the answer, and the tests that led to it
pub record Trial : Type 0 where
  pub yes : Bool
  pub tests : List Test

abbrev pub matched : Trial
matched = record { yes = true; tests = [] }

abbrev pub failed : Trial
failed = record { yes = false; tests = [] }

-- one test more, made before the others
unfoldable pub tested : Taker → ℕ → Trial → Trial
tested m c r = record { yes = r.yes; tests = record { taker = m; char = c } ∷ r.tests }

-- a character is held against m: where m takes it, `go` tries what follows; where "a test fails", `back` is tried.
-- "No test is made once the name has ended": then the match is over
unfoldable pub test : Taker → (List ℕ → Trial → Trial) → List ℕ → Trial → Trial
test m go [] back = failed
test m go (c ∷ s) back = tested m c (cond (takes m c) (go s back) back)

-- at a star: the elements after it are tried where it takes none, and each time that they fail, "the latest star takes one character more
-- and the elements after it are tried anew"
unfoldable pub each : (List ℕ → Trial → Trial) → List ℕ → Trial
each go [] = go [] failed
each go (c ∷ s) = go (c ∷ s) (each go s)

-- "Elements are taken from the left; when a test fails, or the pattern ends before the name, the latest star takes one character more": `back` is
-- what it then tries. At a star, what an earlier one would have tried is dropped
unfoldable pub attempt : List Element → List ℕ → Trial → Trial
attempt [] s back = cond (ended s) matched back
attempt (star ∷ p) s back = each (attempt p) s
attempt (one m ∷ p) s back = test m (attempt p) s back

-- the whole match
unfoldable pub trial : List Element → List ℕ → Trial
trial p s = attempt p s failed

-- what a match answers of a pattern's bytes p and a name's bytes n: whether they match, and "the length of a definition's list of these tests"
unfoldable pub match_of : Edition → List ℕ → List ℕ → Tried
match_of e p n = record { matched = matches (elements e p) (chars n); tests = length (trial (elements e p) (chars n)).tests }
