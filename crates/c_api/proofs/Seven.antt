-- Seven numbers handed back: the exits of `answer_seven`. Assumes nothing.
use Prim.Native.Nat.{ℕ, ◌≤◌, ◌<◌}
use mathlib.Core.Path.{◌≡◌}
use mathlib.Core.List.{List}
use borrow.Author.Tests.{eq-eqb, ne_eqb, le-ltb, lt-ltb}
use lib.ListN.{length, set}
use lib.Seq.{sets-eq}
use Rattle.numbers.specs.Refusals.{no_room}
use Rattle.lists.specs.Front.{front}
use Rattle.reasons.specs.declared.Reason.{Reason}
use Rattle.reasons.specs.Why.{seven}
use Rattle.c_lending.specs.Calls.{numbers_left, numbers_told}

module _ (n what : ℕ) (r : Reason) (out : List ℕ) where
  pub seven-refused : (n ≡ 0 → ⊥) → (n ≡ numbers_told n (seven what r) out) × (out ≡ numbers_left n (seven what r) out)
  unfolding numbers_told numbers_left
  seven-refused h = (rw (ne_eqb n 0 h), rw (ne_eqb n 0 h))

  pub seven_roomless : n ≡ 0 → length out < 7 → (no_room ≡ numbers_told n (seven what r) out) × (out ≡ numbers_left n (seven what r) out)
  unfolding numbers_told numbers_left
  seven_roomless h k = (rw (eq-eqb n 0 h, lt-ltb (length out) 7 k), rw (eq-eqb n 0 h, lt-ltb (length out) 7 k))

  pub seven-given : n ≡ 0 → 7 ≤ length out → (0 ≡ numbers_told n (seven what r) out)
      × (set (set (set (set (set (set (set out 0 what) 1 r.line) 2 r.class) 3 r.node) 4 r.section) 5 r.language) 6 r.offset
      ≡ numbers_left n (seven what r) out)
  unfolding numbers_told numbers_left front
  seven-given h k = (rw (eq-eqb n 0 h, le-ltb (length out) 7 k), rw (eq-eqb n 0 h, le-ltb (length out) 7 k) (sets-eq (seven what r) out 0 k))
