-- The forms of a character in bytes: which bytes have one, and that `starts` answers a character just where they have.
-- Assumes nothing.
use Prim.Native.Nat.{ℕ, ◌<◌, ◌≤◌}
use mathlib.Core.Path.{◌≡◌, refl}
use mathlib.Core.Bool.{Bool, true, false, cond, ◌&&◌}
use native.Mathlib.Decide.{dec_lt}
use native.Mathlib.Omega.{arith}
use borrow.Author.Tests.{lt-ltb, le-ltb, le-leb, ltb-true, leb-true}
use lib.Dec.{ltb, leb}
use Rattle.lists.specs.Pieces.{Piece}
use Rattle.lists.proofs.Tests.{both}
use Rattle.utf8.specs.Utf8.{scalar, character, none, when, tail, bits_two, bits_three, bits_four, two, three, four, starts}

pub record Tail (b : ℕ) : Type 0 where
  pub from : 0x80 ≤ b
  pub to : b < 0xC0

-- v in two bytes, in three, in four
pub record Two (a b v : ℕ) : Type 0 where
  pub from : 0xC2 ≤ a
  pub to : a < 0xE0
  pub second : Tail b
  pub bits : v ≡ bits_two a b

pub record Three (a b c v : ℕ) : Type 0 where
  pub from : 0xE0 ≤ a
  pub to : a < 0xF0
  pub second : Tail b
  pub third : Tail c
  pub bits : v ≡ bits_three a b c
  pub low : 0x800 ≤ v
  pub is : scalar v ≡ true

pub record Four (a b c d v : ℕ) : Type 0 where
  pub from : 0xF0 ≤ a
  pub to : a < 0xF5
  pub second : Tail b
  pub third : Tail c
  pub fourth : Tail d
  pub bits : v ≡ bits_four a b c d
  pub low : 0x10000 ≤ v
  pub high : v ≤ 0x10FFFF

-- ---- where they have a form, it is read
pub starts-one : (a b c d : ℕ) → a < 0x80 → starts a b c d ≡ character a 0
unfolding starts
starts-one a b c d h = rw (lt-ltb a 0x80 h)

pub tail-true : {b : ℕ} → Tail b → tail b ≡ true
unfolding tail
tail-true {b} t = rw (le-leb 0x80 b t.from, lt-ltb b 0xC0 t.to)

pub starts_two : {a b : ℕ} (c d : ℕ) {v : ℕ} → Two a b v → starts a b c d ≡ character v 1
unfolding starts two when
starts_two {a} c d t =
    let p : 0x80 ≤ a = omega arith in
    search (le-ltb, lt-ltb, tail-true, ← t.bits)

pub starts_three : {a b c : ℕ} (d : ℕ) {v : ℕ} → Three a b c v → starts a b c d ≡ character v 2
unfolding starts three when
starts_three {a} d t =
    let p : 0x80 ≤ a = omega arith in
    let q : 0xC2 ≤ a = omega arith in
    search (le-ltb, lt-ltb, tail-true, le-leb, ← t.bits, t.is)

pub starts_four : {a b c d v : ℕ} → Four a b c d v → starts a b c d ≡ character v 3
unfolding starts four when
starts_four {a} t =
    let p : 0x80 ≤ a = omega arith in
    let q : 0xC2 ≤ a = omega arith in
    let r : 0xE0 ≤ a = omega arith in
    search (le-ltb, lt-ltb, tail-true, le-leb, ← t.bits)

-- ---- and the other way: what holds of `none` and of each character in a form holds of what is read
pub below : {A : Type 0} (P : A → Type 0) (a k : ℕ) {p q : A} → (a < k → P p) → (k ≤ a → P q) → P (cond (ltb a k) p q)
below P a k {p} {q} f g = go (dec_lt a k)
  where
    go : Dec (a < k) → P (cond (ltb a k) p q)
    go (yes h) = rw (lt-ltb a k h) (f h)
    go (no h) =
        let l : k ≤ a = omega arith in
        rw (le-ltb a k l) (g l)

pub tail_is : (b : ℕ) → tail b ≡ true → Tail b
unfolding tail
tail_is b h =
    let t = both (leb 0x80 b) (ltb b 0xC0) h in
    record { from = leb-true 0x80 b t.0; to = ltb-true b 0xC0 t.1 }

module _ (P : Piece ℕ → Type 0) (otherwise : P none) where
  each-when : (t : Bool) {p : Piece ℕ} → (t ≡ true → P p) → P (when t p)
  unfolding when
  each-when true f = f refl
  each-when false f = otherwise

  each_both : (t u : Bool) {p : Piece ℕ} → (t ≡ true → u ≡ true → P p) → P (when (t && u) p)
  unfolding when
  each_both true u f = each-when u (f refl)
  each_both false u f = otherwise

  each_two : {a b : ℕ} → 0xC2 ≤ a → a < 0xE0 → ((v : ℕ) → Two a b v → P (character v 1)) → P (two a b)
  unfolding two
  each_two {a} {b} l h f = each-when (tail b) (λ t. f (bits_two a b) (search tail_is))

  each_three : {a b c : ℕ} → 0xE0 ≤ a → a < 0xF0 → ((v : ℕ) → Three a b c v → P (character v 2)) → P (three a b c)
  unfolding three
  each_three {a} {b} {c} l h f =
      let v = bits_three a b c in
      each-when (tail b) (λ t. each-when (tail c) (λ u. each_both (leb 0x800 v) (scalar v) (λ m s. f v (search (tail_is, leb-true)))))

  each_four : {a b c d : ℕ} → 0xF0 ≤ a → a < 0xF5 → ((v : ℕ) → Four a b c d v → P (character v 3)) → P (four a b c d)
  unfolding four
  each_four {a} {b} {c} {d} l h f =
      let v = bits_four a b c d in
      each-when (tail b) (λ t. each-when (tail c) (λ u. each-when (tail d) (λ w.
      each_both (leb 0x10000 v) (leb v 0x10FFFF) (λ m n. f v (search (tail_is, leb-true))))))

  pub starts-each : {a b c d : ℕ} → (a < 0x80 → P (character a 0))
      → ((v : ℕ) → Two a b v → P (character v 1))
      → ((v : ℕ) → Three a b c v → P (character v 2))
      → ((v : ℕ) → Four a b c d v → P (character v 3))
      → P (starts a b c d)
  unfolding starts
  starts-each {a} f g h k =
      below P a 0x80 f (λ l₁. below P a 0xC2 (λ _. otherwise)
      (λ l₂. below P a 0xE0 (λ m. each_two l₂ m g)
      (λ l₃. below P a 0xF0 (λ m. each_three l₃ m h)
      (λ l₄. below P a 0xF5 (λ m. each_four l₄ m k) (λ _. otherwise)))))
