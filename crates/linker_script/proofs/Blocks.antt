-- The search by blocks of 16 bytes: the lowest bit of a block is its first place. Assumes nothing.
use Prim.Native.Nat.{ℕ, zero, suc, ◌+◌, ◌-◌, ◌*◌, ◌/◌, ◌%◌, ◌^◌, ◌<◌, ◌≤◌}
use mathlib.Core.Path.{◌≡◌, refl, sym, ◌∙◌}
use mathlib.Core.List.{List}
use mathlib.Core.Bool.{Bool, true, false, cond}
use native.Mathlib.Decide.{dec_le}
use native.Mathlib.Nat.{add-zero, zero-add, suc-add, pow-suc}
use native.Mathlib.Omega.{arith}
use mir.Syntax.{w64}
use mir.Val.{Fits, bool_byte}
use borrow.Author.Tests.{le-leb, lt-leb, leb-true}
use lib.Count.{count_trailing_zeros, trailing_le, under}
use lib.Dec.{eqb, leb}
use lib.ListN.{length, get_or}
use lib.Pow.{pow_mono}
use Rattle.std.specs.Prelude.{Some}
use Rattle.linker_script.specs.Blocks.{bits}
use Rattle.linker_script.specs.Finding.{first_from, is}
use Rattle.linker_script.proofs.Searches.{first_here, first_on}

-- ---- whether 16 bytes stand from a place on
module _ (n at : ℕ) where
  pub block_within : at < n → leb 16 (n - at) ≡ leb (at + 16) n
  block_within h = go (dec_le (at + 16) n)
    where
      go : Dec (at + 16 ≤ n) → leb 16 (n - at) ≡ leb (at + 16) n
      go (yes k) = le-leb 16 (n - at) (omega arith) ∙ sym (le-leb (at + 16) n k)
      go (no k) = lt-leb 16 (n - at) (omega arith) ∙ sym (lt-leb (at + 16) n (omega arith))

  pub block_beyond : n ≤ at → false ≡ leb (at + 16) n
  block_beyond h = sym (lt-leb (at + 16) n (omega arith))

  pub has_within : (b : Bool) → b ≡ leb (at + 16) n → b ≡ true → at + 16 ≤ n
  has_within b e h = leb-true (at + 16) n (sym e ∙ h)

-- ---- a byte's bit
mark-few : (b : Bool) → cond b 1 0 ≤ 1
mark-few true = omega arith
mark-few false = omega arith

pub mark_byte : (b : Bool) → (bool_byte b ≤ 1) × (bool_byte b ≡ cond b 1 0)
mark_byte true = (omega arith, refl)
mark_byte false = (omega arith, refl)

-- ---- the zeros below a number's lowest bit
pub zeros_fit : (b : ℕ) → Fits w64 (count_trailing_zeros 32 b)
zeros_fit b = omega (arith, trailing_le 32 b)

-- one bit more below
zeros-below : (f b m : ℕ) → m ≤ 1 → count_trailing_zeros (suc f) (2 * b + m) ≡ under m (count_trailing_zeros f b)
unfolding count_trailing_zeros
zeros-below f b m h =
    let e : (2 * b + m) % 2 ≡ m = omega arith in
    let d : (2 * b + m) / 2 ≡ b = omega arith in
    rw (e, d)

module _ (x : ℕ) (s : List ℕ) where
  -- ---- the bits of n bytes
  bits-join : (n m c p : ℕ) → bits x s c (n + m) p ≡ bits x s (bits x s c m (p + n)) n p
  unfolding bits
  bits-join zero m c p = rw (zero-add, add-zero)
  bits-join (suc n) m c p =
      let z : p + 1 + n ≡ p + suc n = omega arith in
      rw (suc-add, bits-join n m c (p + 1), z)

  bits_above : (c p : ℕ) → bits x s c 8 p ≡ bits x s 0 8 p + 256 * c
  unfolding bits
  bits_above c p = omega arith

  bits-block : (p : ℕ) → bits x s 0 8 p + 256 * bits x s 0 8 (p + 8) + 65536 ≡ bits x s 1 16 p
  bits-block p =
      let a = bits_above (bits x s 1 8 (p + 8)) p in
      let b = bits_above 1 (p + 8) in
      let j = bits-join 8 8 1 p in
      omega (arith, a, b, j)

-- ---- k is how far the first x of the n bytes from p on is; from n on there is none
pub record Place (x : ℕ) (s : List ℕ) (p n k : ℕ) : Type 0 where
  pub here : k < n → first_from (is x) s p ≡ Some (p + k)
  pub none : n ≤ k → first_from (is x) s p ≡ first_from (is x) s (p + n)

module _ {x : ℕ} {s : List ℕ} where
  -- one byte more before
  place_on : {n k p : ℕ} → p < length s → (b : Bool) → eqb (get_or s p 0) x ≡ b → Place x s (p + 1) n k → Place x s p (suc n) (under (cond b 1 0) k)
  place_on {p = p} h true e next = record { here = λ q. rw add-zero (first_here (is x) s p h e); none = λ q. absurd (omega arith) }
  place_on {n} {k} {p} h false e next =
      let z : p + suc k ≡ p + 1 + k = omega arith in
      let w : p + suc n ≡ p + 1 + n = omega arith in
      let on = first_on (is x) s p h e in
      record { here = λ q. rw z (on ∙ next.here (omega arith)); none = λ q. rw w (on ∙ next.none (omega arith)) }

  -- it is the lowest bit
  lowest-place : (n f c p : ℕ) → n ≤ f → p + n ≤ length s → Place x s p n (count_trailing_zeros f (bits x s c n p))
  unfolding bits
  lowest-place zero f c p g h = record { here = λ q. absurd (omega arith); none = λ q. rw add-zero }
  lowest-place (suc n) zero c p g h = absurd (omega arith)
  lowest-place (suc n) (suc f) c p g h =
      let b = eqb (get_or s p 0) x in
      rw (zeros-below f (bits x s c n (p + 1)) (cond b 1 0) (mark-few b))
      (place_on (omega arith) b refl (lowest-place n f c (p + 1) (omega arith) (omega arith)))

  pub block_place : {p : ℕ} → p + 16 ≤ length s → {a b : ℕ} → a ≡ bits x s 0 8 p → b ≡ bits x s 0 8 (p + 8)
      → Place x s p 16 (count_trailing_zeros 32 (a + 256 * b + 65536))
  block_place {p} h d e = rw (d, e, bits-block x s p) (lowest-place 16 32 1 p (omega arith) h)

-- ---- the loop of `eight_bits`: the bits of the bytes from i on
pub record Eight (x : ℕ) (s : List ℕ) (at low i : ℕ) : Type 0 where
  pub within : i ≤ 8
  pub small : low < 2 ^ (8 - i)
  pub few : 2 ^ (8 - i) ≤ 256
  pub same : low ≡ bits x s 0 (8 - i) (at + i)

module _ {x : ℕ} {s : List ℕ} {at : ℕ} where
  pub eight_none : Eight x s at 0 8
  unfolding bits
  eight_none = record { within = omega arith; small = omega arith; few = omega arith; same = refl }

  module _ {low i : ℕ} (known : Eight x s at low i) where
    pub eight_on : 0 < i → (m : ℕ) → m ≤ 1 → m ≡ cond (eqb (get_or s (at + (i - 1)) 0) x) 1 0 → Eight x s at (2 * low + m) (i - 1)
    unfolding bits
    eight_on h m few e =
        let k : 8 - (i - 1) ≡ suc (8 - i) = omega (arith, known.within) in
        let z : at + (i - 1) + 1 ≡ at + i = omega arith in
        record {
          within = omega (arith, known.within);
          small = rw (k, pow-suc) (omega (arith, known.small));
          few = pow_mono {i = 8 - (i - 1)} {j = 8} (omega arith);
          same = rw (k, z, ← known.same, ← e);
        }

    pub eight_all : i ≤ 0 → (low < 256) × (low ≡ bits x s 0 8 at)
    eight_all h =
        let z : i ≡ 0 = omega arith in
        (omega (arith, known.small, known.few), rw (z, add-zero) at known.same)

-- ---- the loop of `find` over blocks: what is found from i on decides
module _ (s : List ℕ) (x at i : ℕ) (inv : first_from (is x) s at ≡ first_from (is x) s i) (k : ℕ) where
  pub block_here : (k < 16 → first_from (is x) s i ≡ Some (i + k)) → k < 16 → Some (i + k) ≡ first_from (is x) s at
  block_here e h = sym (inv ∙ e h)

  pub block_on : (16 ≤ k → first_from (is x) s i ≡ first_from (is x) s (i + 16)) → 16 ≤ k → first_from (is x) s at ≡ first_from (is x) s (i + 16)
  block_on e h = inv ∙ e h
