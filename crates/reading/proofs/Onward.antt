-- Each event moves on in the text (`next_onward`), so the bound on the number of events never cuts a reading off: a reading is its first step and the reading
-- from there (`reading_step`). What that asks of a cursor, `Standing` (specs/Standing.antt), holds at the start and behind each event.
-- Assumes nothing.
use Prim.Native.Nat.{ℕ, zero, suc, ◌+◌, ◌-◌, ◌<◌, ◌≤◌}
use mathlib.Core.Path.{◌≡◌, refl, sym, ◌∙◌}
use mathlib.Core.List.{List}
use mathlib.Core.Bool.{true≢false}
use native.Mathlib.Omega.{arith}
use lib.ListN.{length}
use Rattle.std.specs.Prelude.{Some, None, Ok, Err}
use Rattle.numbers.specs.declared.Edition.{Edition}
use Rattle.reading_cursors.specs.declared.places.Place.{Place}
use Rattle.reading_cursors.specs.declared.Cursor.{Cursor}
use Rattle.reading_cursors.specs.declared.Event.{Event}
use Rattle.reading_cursors.specs.Moves.{Step, stepped, start}
use Rattle.reading.specs.Scripts.{next}
use Rattle.reading.specs.Events.{Reading, on_step, reading_within, reading_from, reading}
use Rattle.reading.specs.Standing.{Fresh, Standing}
use Rattle.reading.proofs.Steps.{Onward, Fits, goes, next_fits}

-- no more is asked than that the cursor is fresh
pub fresh-onward : (s : List ℕ) (c : Cursor) {d : Cursor} {e : Event} → Fresh c → next s c ≡ stepped e d → Onward s c d
fresh-onward s c {d} {e} f h = go (rw h at (next_fits s c))
  where
    go : Fits s c (stepped e d) → Onward s c d
    go (goes k) = k f

pub next_onward : {s : List ℕ} {c d : Cursor} {e : Event} → Standing s c → next s c ≡ stepped e d → Onward s c d
next_onward {s} {c} k h = fresh-onward s c k.fresh h

-- ---- the cursors of a reading of s
pub start_stands : (edition : Edition) (place : Place) (s : List ℕ) → Standing s (start edition place)
unfolding start
start_stands edition place s = record { fresh = λ _. refl; within = omega arith; inside = λ _. omega arith }

pub next_stands : {s : List ℕ} {c d : Cursor} {e : Event} → Standing s c → next s c ≡ stepped e d → Standing s d
next_stands k h =
    let o = next_onward k h in
    record { fresh = λ b. absurd (true≢false (sym b ∙ o.begun)); within = o.within; inside = o.inside }

-- ---- the bound
same_step : (t : Step) (f g : Cursor → Reading) → ((e : Event) (d : Cursor) → t ≡ stepped e d → f d ≡ g d) → on_step t f ≡ on_step t g
same_step (Ok (Some (e, d))) f g h = rw (h e d refl)
same_step (Ok None) f g h = refl
same_step (Err r) f g h = refl

module _ (s : List ℕ) where
  -- the first of n + 1 events
  turn : (n : ℕ) {c : Cursor} → Standing s c → (f : Cursor → Reading) → ((d : Cursor) → Standing s d → c.at < d.at → reading_within n s d ≡ f d)
      → reading_within (suc n) s c ≡ on_step (next s c) f
  unfolding reading_within
  turn n {c} k f more =
      same_step (next s c) (λ d. reading_within n s d) f (λ e d h. more d (next_stands k h) (next_onward k h).onward)

  -- n events are enough from c on
  abbrev Enough : ℕ → Cursor → Type 0
  Enough n c = length s + 2 - c.at ≤ n

  same_within : (n m : ℕ) {c : Cursor} → Standing s c → Enough n c → Enough m c → reading_within n s c ≡ reading_within m s c
  unfolding reading_within
  same_within zero m k a b = absurd (omega (arith, k.within))
  same_within (suc n) zero k a b = absurd (omega (arith, k.within))
  same_within (suc n) (suc m) k a b = turn n k (λ d. reading_within m s d) (λ d j l. same_within n m j (omega arith) (omega arith))

pub reading_step : {s : List ℕ} {c : Cursor} → Standing s c → reading_from s c ≡ on_step (next s c) (λ d. reading_from s d)
unfolding reading_from
reading_step {s} {c} k =
    let n : ℕ = length s + 1 - c.at in
    let z : length s + 2 - c.at ≡ suc n = omega (arith, k.within) in
    rw z (turn s n k (λ d. reading_from s d) (λ d j l. same_within s n (length s + 2 - d.at) j (omega arith) (omega arith)))

pub reading-starts : (edition : Edition) (place : Place) (s : List ℕ) → reading edition place s ≡ on_step (next s (start edition place)) (λ d. reading_from s d)
unfolding reading
reading-starts edition place s = reading_step (start_stands edition place s)
