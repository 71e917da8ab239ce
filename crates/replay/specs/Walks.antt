-- How far a program has gone through a text of n bytes that are lines of cases. Assumes nothing.
use Rattle.std.specs.Prelude.{ℕ, ◌+◌, ◌<◌, ◌≤◌}
use Rattle.replay.specs.declared.Walk.{Walk}

-- no more lines than bytes were passed, no more of them are cases, and no more of those differ
pub record Walks (n : ℕ) (w : Walk) : Type 0 where
  pub within : w.at ≤ n + 1
  pub lines : w.lines ≤ w.at
  pub cases : w.cases ≤ w.lines
  pub different : w.different ≤ w.cases

-- the same, and w is no further back than from; further on
pub record Onward (n from : ℕ) (w : Walk) : Type 0 where
  pub walks : Walks n w
  pub onward : from ≤ w.at

pub record Further (n from : ℕ) (w : Walk) : Type 0 where
  pub walks : Walks n w
  pub further : from < w.at
