-- The digits that stand at a place, and the turns of `number_at`: the digits that are left decide. Assumes nothing.
use Prim.Native.Nat.{ℕ, zero, suc, ◌+◌, ◌-◌, ◌*◌, ◌<◌, ◌≤◌}
use mathlib.Core.Path.{◌≡◌, refl, sym, ◌∙◌}
use mathlib.Core.List.{List, [], ◌∷◌}
use mathlib.Core.Bool.{Bool, true, false, cond, not}
use native.Mathlib.Decide.{dec_lt}
use native.Mathlib.Omega.{arith}
use borrow.Author.Tests.{le-ltb, leb-true, lt-ltb}
use mir.Syntax.{w64}
use mir.Val.{Fits}
use lib.Dec.{leb, ltb}
use lib.ListN.{length, get_or, take, drop, length-drop, drop_of_length-le}
use Rattle.std.specs.Char.{is_ascii_digit}
use Rattle.std.specs.List.{position, position_or_len}
use Rattle.std.specs.Option.{unwrap_or}
use Rattle.std.specs.Prelude.{Option, Some, None}
use Rattle.std.proofs.lemmas.List.Sums.{prefix_len-le-length}
use Rattle.lists.proofs.Tests.{both}
use Rattle.linker_script.proofs.Searches.{drop_next}
use Rattle.desk_commands.specs.Parts.{digit, digits, number_at, number_limit, number_of, other, worth}

-- ---- the digits that a text begins with
prefix : (l : List ℕ) → take (position_or_len other l) l ≡ digits l
unfolding digits digit
prefix [] = refl
prefix (b ∷ l) = go (is_ascii_digit b) refl (prefix l)
  where
    go : (v : Bool) → is_ascii_digit b ≡ v → take (position_or_len other l) l ≡ digits l → take (position_or_len other (b ∷ l)) (b ∷ l) ≡ digits (b ∷ l)
    go true e f =
        let z : 1 + position_or_len other l ≡ suc (position_or_len other l) = omega arith in
        rw (e, z, f)
    go false e f = rw e

-- the first place that passes, or the length
place : (p : ℕ → Bool) (l : List ℕ) → unwrap_or (position p l) (length l) ≡ position_or_len p l
place p l = go (dec_lt (position_or_len p l) (length l))
  where
    go : Dec (position_or_len p l < length l)
        → unwrap_or (cond (ltb (position_or_len p l) (length l)) (Some (position_or_len p l)) None) (length l) ≡ position_or_len p l
    go (yes h) = rw (lt-ltb (position_or_len p l) (length l) h)
    go (no h) =
        let w : position_or_len p l ≤ length l = prefix_len-le-length (λ x. not (p x)) l in
        rw (le-ltb (position_or_len p l) (length l) (omega arith)) (omega arith)

pub digits_stand : (l : List ℕ) (f : Option ℕ) (n : ℕ) → f ≡ position other l → n ≡ unwrap_or f (length l) → take n l ≡ digits l
digits_stand l f n e h =
    let z : n ≡ position_or_len other l = h ∙ rw e (place other l) in
    rw z (prefix l)

-- ---- a digit among them
within : (l : List ℕ) → length (digits l) ≤ length l
unfolding digits
within [] = omega arith
within (b ∷ l) = go (digit b) (within l)
  where
    go : (v : Bool) → length (digits l) ≤ length l → length (cond v (b ∷ digits l) []) ≤ length (b ∷ l)
    go true h = omega arith
    go false h = omega arith

each : (l : List ℕ) (i : ℕ) → i < length (digits l) → digit (get_or (digits l) i 0) ≡ true
unfolding digits
each [] i h = absurd (omega arith)
each (b ∷ l) i h = go (digit b) refl i h (each l)
  where
    go : (v : Bool) → digit b ≡ v → (j : ℕ) → j < length (cond v (b ∷ digits l) []) → ((k : ℕ) → k < length (digits l) → digit (get_or (digits l) k 0) ≡ true)
        → digit (get_or (cond v (b ∷ digits l) []) j 0) ≡ true
    go true e zero k on = e
    go true e (suc j) k on = on j (omega arith)
    go false e j k on = absurd (omega arith)

pub digit_low : (l ds : List ℕ) (i : ℕ) → ds ≡ digits l → i < length ds → 48 ≤ get_or ds i 0
unfolding digit
digit_low l ds i e h =
    let t : digit (get_or ds i 0) ≡ true = rw e (each l i (rw (← e) h)) in
    leb-true 48 (get_or ds i 0) (both (leb 48 (get_or ds i 0)) (leb (get_or ds i 0) 57) t).0

pub end_fits : (l : List ℕ) (at : ℕ) (ds : List ℕ) → ds ≡ digits (drop at l) → 0 < length ds → Fits w64 (length l) → Fits w64 (at + length ds)
end_fits l at ds e h n =
    let k : length ds ≤ length (drop at l) = rw e (within (drop at l)) in
    omega (arith, length-drop at l)

-- ---- what digits are worth
pub worth_next : (n : ℕ) (ds : List ℕ) (i : ℕ) → i < length ds → worth n (drop i ds) ≡ worth (n * 10 + (get_or ds i 0 - 48)) (drop (i + 1) ds)
unfolding worth
worth_next n ds i h = rw (drop_next ds i h)

least : (n : ℕ) (ds : List ℕ) → n ≤ worth n ds
unfolding worth
least n [] = omega arith
least n (d ∷ ds) = omega (arith, least (n * 10 + (d - 48)) ds)

-- ---- the exits
module _ (l : List ℕ) (at : ℕ) (ds : List ℕ) (e : ds ≡ digits (drop at l)) where
  pub no_digit : length ds ≡ 0 → None ≡ number_at l at
  unfolding number_at number_of
  no_digit h = rw (← e) (go ds h)
    where
      go : (xs : List ℕ) → length xs ≡ 0 → None ≡ number_of at xs
      go [] k = refl
      go (x ∷ xs) k = absurd (omega arith)

  over : number_limit ≤ worth 0 ds → None ≡ number_at l at
  unfolding number_at number_of
  over h = rw (← e) (go ds h)
    where
      go : (xs : List ℕ) → number_limit ≤ worth 0 xs → None ≡ number_of at xs
      go [] k = refl
      go (x ∷ xs) k = rw (le-ltb (worth 0 (x ∷ xs)) number_limit k)

  module _ (n i : ℕ) (inv : worth n (drop i ds) ≡ worth 0 ds) where
    pub too_large : i < length ds → (n * 10 + (get_or ds i 0 - 48) < number_limit → ⊥) → None ≡ number_at l at
    too_large h k = over (omega (arith, least (n * 10 + (get_or ds i 0 - 48)) (drop (i + 1) ds), sym inv ∙ worth_next n ds i h))

    pub is_number : length ds ≤ i → 0 < length ds → n < number_limit → Some (record { value = n; end = at + length ds }) ≡ number_at l at
    unfolding number_at number_of worth
    is_number h k f = rw (← e) (go ds k value)
      where
        value : n ≡ worth 0 ds
        value = rw (drop_of_length-le ds h) at inv

        go : (xs : List ℕ) → 0 < length xs → n ≡ worth 0 xs → Some (record { value = n; end = at + length xs }) ≡ number_of at xs
        go [] k v = absurd (omega arith)
        go (x ∷ xs) k v = rw (← v, lt-ltb n number_limit f)
