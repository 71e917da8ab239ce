-- `byte_or_zero` meets its contract. Past the end there is no byte, and `get_or` answers 0 there. Assumes nothing.
use Prim.Native.Nat.{ℕ, ◌≤◌}
use mathlib.Core.Path.{◌≡◌, sym}
use mathlib.Core.List.{List}
use borrow.Author.Rules.{rules}
use lib.ListN.{length, get_or, get_or-eq_default}
use Rattle.utf8.proofs.byte_or_zero.Goals as goal

past_end : (s : List ℕ) (at : ℕ) → length s ≤ at → 0 ≡ get_or s at 0
past_end s at h = sym (get_or-eq_default s 0 h)

pub returns-else-at-s : goal.returns-else-at-s
returns-else-at-s c = search (past_end, rules)
