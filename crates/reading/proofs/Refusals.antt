-- The reader refuses with 1, 2, 3 or 4 only (`next_refuses`, `reading-refuses`), at a place of the text (`standing-refuses`), and with 1 exactly where the text
-- is over its limit at the place at which its reading starts (`too_long_exactly`).
-- Assumes nothing.
use Prim.Native.Nat.{ℕ, zero, suc, ◌+◌, ◌-◌, ◌≤◌}
use mathlib.Core.Path.{◌≡◌, refl, sym}
use mathlib.Core.List.{List}
use mathlib.Core.Bool.{Bool, true, false, ◌||◌, or-true, true≢false}
use native.Mathlib.Omega.{arith}
use borrow.Author.Tests.{eqb-true, lt-ltb}
use lib.Dec.{eqb}
use lib.ListN.{length}
use Rattle.numbers.specs.Limits.{script_limit, token_limit}
use Rattle.numbers.specs.declared.Refusal.{Refusal}
use Rattle.numbers.specs.declared.Refusal.TheVariants as no
use Rattle.numbers.specs.Refusals.{too_long}
use Rattle.numbers.specs.Saying.{number}
use Rattle.std.specs.Prelude.{Some, None, Ok, Err}
use Rattle.numbers.specs.declared.Edition.{Edition}
use Rattle.reading_cursors.specs.declared.places.Place.TheVariants as place
use Rattle.reading_cursors.specs.declared.places.Place.{Place}
use Rattle.reading_cursors.specs.declared.Cursor.{Cursor}
use Rattle.reading_cursors.specs.Moves.{Step, finished, refused_at, start}
use Rattle.reading_cursors.specs.Places.{behind_symbol}
use Rattle.reading.specs.Scripts.{start_script, step_at, next}
use Rattle.reading.specs.Events.{refused, on_step, reading_within, reading_from, reading}
use Rattle.reading.specs.Rules.{Over, script, list, symbol, bare}
use Rattle.reading.specs.Standing.{Standing}
use Rattle.reading.proofs.Bounds.{of_grammar}
use Rattle.reading.proofs.Steps.{Reason, long, grammar, Fits, refused as refuses, next_fits}

-- 1, 2, 3 or 4
abbrev pub of_reader : ℕ → Bool
of_reader n = eqb n too_long || of_grammar n

module _ (s : List ℕ) (c : Cursor) where
  pub refusal : {n : Refusal} {p : ℕ} → next s c ≡ refused_at n p → Reason s c n p
  refusal {n} {p} h = go (rw h at (next_fits s c))
    where
      go : Fits s c (refused_at n p) → Reason s c n p
      go (refuses r) = r

  pub next_refuses : {n : Refusal} {p : ℕ} → next s c ≡ refused_at n p → (of_reader (number n) ≡ true) × (c.at ≤ length s → p ≤ length s)
  next_refuses h = go (refusal h)
    where
      go : {n : Refusal} {p : ℕ} → Reason s c n p → (of_reader (number n) ≡ true) × (c.at ≤ length s → p ≤ length s)
      go (long o) = (refl, λ _. omega arith)
      go {n} (grammar k l) = (rw k (or-true (eqb (number n) too_long)), l)

  too_long-only : (p : ℕ) → next s c ≡ refused_at no.TooLong p → Over s c.place
  too_long-only p h = go refl (refusal h)
    where
      go : {n : Refusal} {p : ℕ} → n ≡ no.TooLong → Reason s c n p → Over s c.place
      go z (long o) = o
      go z (grammar k l) = absurd (true≢false (sym (rw z at k)))

  too_long-always : Over s c.place → next s c ≡ refused_at no.TooLong 0
  unfolding next step_at start_script
  too_long-always o = go c.place refl o
    where
      go : (x : Place) → c.place ≡ x → Over s x → next s c ≡ refused_at no.TooLong 0
      go place z (script h) = rw (z, lt-ltb script_limit (length s) h)
      go place z (list h) = rw (z, lt-ltb script_limit (length s) h)
      go place z (symbol h) = rw (z, lt-ltb token_limit (length s) h)
      go place z (bare h) = rw (z, lt-ltb token_limit (length s) h)

  pub too_long_exactly : ((p : ℕ) → next s c ≡ refused_at no.TooLong p → Over s c.place) × (Over s c.place → next s c ≡ refused_at no.TooLong 0)
  too_long_exactly = (too_long-only, too_long-always)

-- so of a whole reading
module _ (s : List ℕ) (n p : ℕ) where
  within-refuses : (m : ℕ) (c : Cursor) → (reading_within m s c).outcome ≡ refused n p → of_reader n ≡ true
  unfolding reading_within
  within-refuses zero c h = absurd (true≢false (cc))
  within-refuses (suc m) c h = go (next s c) refl h (within-refuses m)
    where
      go : (t : Step) → next s c ≡ t → (on_step t (λ d. reading_within m s d)).outcome ≡ refused n p
          → ((d : Cursor) → (reading_within m s d).outcome ≡ refused n p → of_reader n ≡ true) → of_reader n ≡ true
      go (Ok (Some (e, d))) z k more = more d k
      go (Ok None) z k more = absurd (true≢false (cc))
      go (Err r) z k more =
          let e : number r.refusal ≡ n = cc in
          rw (← e) (next_refuses s c z).0

  pub reading-refuses : (edition : Edition) (place : Place) → (reading edition place s).outcome ≡ refused n p → of_reader n ≡ true
  unfolding reading reading_from
  reading-refuses edition place h = within-refuses (length s + 2 - (start edition place).at) (start edition place) h

-- ---- a refusal, at a cursor of a reading
small : (n : ℕ) → of_reader n ≡ true → n ≤ 4
small n h = go (eqb n 1) (eqb n 2) (eqb n 3) (eqb n 4) refl refl refl refl h
  where
    go : (a b c d : Bool) → eqb n 1 ≡ a → eqb n 2 ≡ b → eqb n 3 ≡ c → eqb n 4 ≡ d → of_reader n ≡ true → n ≤ 4
    go true b c d x y z w h = omega (arith, eqb-true n 1 x)
    go false true c d x y z w h = omega (arith, eqb-true n 2 y)
    go false false true d x y z w h = omega (arith, eqb-true n 3 z)
    go false false false true x y z w h = omega (arith, eqb-true n 4 w)
    go false false false false x y z w h = absurd (true≢false (sym (rw (x, y, z, w) at h)))

behind_ends : (s : List ℕ) (c : Cursor) → c.place ≡ behind_symbol → next s c ≡ finished
unfolding next step_at
behind_ends s c e = rw e

-- its number is small, and its place one of the text
pub standing-refuses : {s : List ℕ} {c : Cursor} → Standing s c → {n : Refusal} {p : ℕ} → next s c ≡ refused_at n p → (number n ≤ 4) × (p ≤ length s)
standing-refuses {s} {c} k {n} {p} h = (small (number n) (next_refuses s c h).0, (next_refuses s c h).1 (go c.place refl))
  where
    go : (x : Place) → c.place ≡ x → c.at ≤ length s
    go place.BehindSymbol e =
        let q = behind_ends s c e in
        let z : ◌≡◌ {A = ℕ} 0 1 = cc in
        absurd (omega arith)
    go place.AtScript e = k.inside (rw e)
    go place.AtNode e = k.inside (rw e)
    go place.AtBody e = k.inside (rw e)
    go place.InBody e = k.inside (rw e)
    go place.InBodyExtern e = k.inside (rw e)
    go place.InSole e = k.inside (rw e)
    go place.InSoleExtern e = k.inside (rw e)
    go place.AtList e = k.inside (rw e)
    go place.InList e = k.inside (rw e)
    go place.InListExtern e = k.inside (rw e)
    go place.AtSymbol e = k.inside (rw e)
    go place.InSymbolExtern e = k.inside (rw e)
    go place.AtBare e = k.inside (rw e)
    go place.InBareExtern e = k.inside (rw e)
