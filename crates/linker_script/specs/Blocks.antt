-- A block of bytes, as bits. Assumes nothing.
use Rattle.std.specs.Prelude.{ℕ, zero, suc, ◌+◌, ◌*◌, List, cond, eqb, get_or}

-- a bit for each of the n bytes of s from the place p on, 1 for the byte x, the first byte lowest, and c above them
unfoldable pub bits : ℕ → List ℕ → ℕ → ℕ → ℕ → ℕ
bits x s c zero p = c
bits x s c (suc n) p = 2 * bits x s c n (p + 1) + cond (eqb (get_or s p 0) x) 1 0
