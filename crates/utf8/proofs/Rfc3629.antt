-- RFC 3629 both ways: the encoding of character numbers is UTF-8 and reads back as them; what is UTF-8 is the encoding of the
-- characters that it reads as, each a character number. Assumes nothing.
use Prim.Native.Nat.{ℕ, zero, suc, ◌+◌, ◌*◌, ◌/◌, ◌%◌, ◌<◌, ◌≤◌}
use mathlib.Core.Path.{◌≡◌, refl, sym, ap, ◌∙◌}
use mathlib.Core.List.{List, [], ◌∷◌, ◌++◌}
use mathlib.Core.Bool.{true, ◌||◌, false≢true}
use native.Mathlib.Nat.{le_refl}
use native.Mathlib.Omega.{arith}
use borrow.Author.Tests.{lt-ltb, le-ltb, le-leb, leb-true}
use lib.ListN.{length, get_or, drop, length-drop}
use lib.Dec.{ltb, leb}
use Rattle.lists.specs.Each.{every}
use Rattle.lists.specs.Pieces.{Piece}
use Rattle.lists.proofs.PiecesLaws.{pieces-cons, sound-cons}
use Rattle.lists.proofs.Tests.{both}
use Rattle.utf8.specs.Utf8.{scalar, scalars, encode, encoding, character, none, bits_four, read, chars, utf8}
use Rattle.utf8.proofs.Walk.{chars-nil, utf8_nil}
use Rattle.utf8.proofs.Forms.{Tail, Two, Three, Four, starts-one, starts_two, starts_three, starts_four, starts-each, below}

-- ---- a character's encoding
-- t is the character c, and s behind it
record First (c : ℕ) (t s : List ℕ) : Type 0 where
  is : chars t ≡ c ∷ chars s
  good : utf8 t ≡ utf8 s

first : {c : ℕ} (m : ℕ) {a : ℕ} {t : List ℕ} → read a t ≡ character c m → First c (a ∷ t) (drop m t)
unfolding chars utf8 character
first m {a} {t} e = record { is = pieces-cons read a t ∙ rw e; good = sound-cons read a t ∙ rw e }

-- the number from its four digits
join_four : (x y z w p q c : ℕ) → p ≡ x * 0x40 + y → q ≡ p * 0x40 + z → c ≡ q * 0x40 + w → c ≡ x * 0x40000 + y * 0x1000 + z * 0x40 + w
join_four x y z w p q c e f g = omega arith

digits_four : (c : ℕ) → c ≤ 0x10FFFF → c ≡ bits_four (0xF0 + c / 0x40000) (0x80 + c / 0x1000 % 0x40) (0x80 + c / 0x40 % 0x40) (0x80 + c % 0x40)
digits_four c h = join_four _ _ _ _ (c / 0x1000) (c / 0x40) c (omega arith) (omega arith) (omega arith)

module _ (c : ℕ) where
  to_two : 0x80 ≤ c → c < 0x800 → Two (0xC0 + c / 0x40) (0x80 + c % 0x40) c
  to_two l h = omega arith

  to_three : 0x800 ≤ c → c < 0x10000 → scalar c ≡ true → Three (0xE0 + c / 0x1000) (0x80 + c / 0x40 % 0x40) (0x80 + c % 0x40) c
  to_three l h s = search arith

  to_four : 0x10000 ≤ c → c ≤ 0x10FFFF → Four (0xF0 + c / 0x40000) (0x80 + c / 0x1000 % 0x40) (0x80 + c / 0x40 % 0x40) (0x80 + c % 0x40) c
  to_four l h = search (digits_four, arith)

scalar-high : (c : ℕ) → scalar c ≡ true → c ≤ 0x10FFFF
unfolding scalar
scalar-high c s = leb-true c 0x10FFFF (both (leb c 0x10FFFF) (ltb c 0xD800 || ltb 0xDFFF c) s).0

encode_first : (c : ℕ) (s : List ℕ) → scalar c ≡ true → First c (encode c ++ s) s
unfolding encode read
encode_first c s i =
    below Is c 0x80 (λ h. first 0 (starts-one c _ _ _ h))
    (λ k. below Is c 0x800 (λ h. first 1 (starts_two _ _ (to_two c k h)))
    (λ l. below Is c 0x10000 (λ h. first 2 (starts_three _ (to_three c l h i)))
    (λ m. first 3 (starts_four (to_four c m (scalar-high c i))))))
  where
    Is : List ℕ → Type 0
    Is t = First c (t ++ s) s

-- ---- the encoding is UTF-8, and reads back
pub encoding-utf8 : (cs : List ℕ) → scalars cs ≡ true → utf8 (encoding cs) ≡ true
unfolding scalars every encoding
encoding-utf8 [] h = utf8_nil
encoding-utf8 (c ∷ cs) h =
    let s = both (scalar c) (scalars cs) h in
    (encode_first c (encoding cs) s.0).good ∙ encoding-utf8 cs s.1

pub encoding-chars : (cs : List ℕ) → scalars cs ≡ true → chars (encoding cs) ≡ cs
unfolding scalars every encoding
encoding-chars [] h = chars-nil
encoding-chars (c ∷ cs) h =
    let s = both (scalar c) (scalars cs) h in
    (encode_first c (encoding cs) s.0).is ∙ ap (λ (l : List ℕ). c ∷ l) (encoding-chars cs s.1)

-- ---- a character that is read
record Back (a : ℕ) (s : List ℕ) (p : Piece ℕ) : Type 0 where
  same : a ∷ s ≡ encode p.what ++ drop p.more s
  is : scalar p.what ≡ true

-- its number is encoded as the bytes that it was read from
from_one : (c : ℕ) → c < 0x80 → encode c ≡ c ∷ []
unfolding encode
from_one c h = rw (lt-ltb c 0x80 h)

from_two : {a b v : ℕ} → Two a b v → encode v ≡ a ∷ b ∷ []
unfolding encode
from_two {a} {b} {v} t =
    let l : 0x80 ≤ v = omega arith in
    let h : v < 0x800 = omega arith in
    let p : 0xC0 + v / 0x40 ≡ a = omega arith in
    let q : 0x80 + v % 0x40 ≡ b = omega arith in
    simp (le-ltb, lt-ltb, p, q)

from_three : {a b c v : ℕ} → Three a b c v → encode v ≡ a ∷ b ∷ c ∷ []
unfolding encode
from_three {a} {b} {c} {v} t =
    let k : 0x80 ≤ v = omega arith in
    let l : 0x800 ≤ v = omega arith in
    let h : v < 0x10000 = omega arith in
    let p : 0xE0 + v / 0x1000 ≡ a = omega arith in
    let q : 0x80 + v / 0x40 % 0x40 ≡ b = omega arith in
    let r : 0x80 + v % 0x40 ≡ c = omega arith in
    simp (le-ltb, lt-ltb, p, q, r)

from_four : {a b c d v : ℕ} → Four a b c d v → encode v ≡ a ∷ b ∷ c ∷ d ∷ []
unfolding encode
from_four {a} {b} {c} {d} {v} t =
    let k : 0x80 ≤ v = omega arith in
    let l : 0x800 ≤ v = omega arith in
    let h : 0x10000 ≤ v = omega arith in
    let p : 0xF0 + v / 0x40000 ≡ a = omega arith in
    let q : 0x80 + v / 0x1000 % 0x40 ≡ b = omega arith in
    let r : 0x80 + v / 0x40 % 0x40 ≡ c = omega arith in
    let s : 0x80 + v % 0x40 ≡ d = omega arith in
    simp (le-ltb, p, q, r, s)

-- a byte that is a tail is there
with_one : {a : ℕ} {s : List ℕ} → Tail (get_or s 0 0) → a ∷ s ≡ a ∷ get_or s 0 0 ∷ drop 1 s
with_one {s = []} t = absurd (omega arith)
with_one {s = b ∷ s} t = refl

with_two : {a : ℕ} {s : List ℕ} → Tail (get_or s 0 0) → Tail (get_or s 1 0) → a ∷ s ≡ a ∷ get_or s 0 0 ∷ get_or s 1 0 ∷ drop 2 s
with_two {s = []} t u = absurd (omega arith)
with_two {a} {s = b ∷ s} t u = ap (λ (l : List ℕ). a ∷ l) (with_one u)

with_three : {a : ℕ} {s : List ℕ} → Tail (get_or s 0 0) → Tail (get_or s 1 0) → Tail (get_or s 2 0)
    → a ∷ s ≡ a ∷ get_or s 0 0 ∷ get_or s 1 0 ∷ get_or s 2 0 ∷ drop 3 s
with_three {s = []} t u v = absurd (omega arith)
with_three {a} {s = b ∷ s} t u v = ap (λ (l : List ℕ). a ∷ l) (with_two u v)

scalar-low : (c : ℕ) → c < 0xD800 → scalar c ≡ true
unfolding scalar
scalar-low c h =
    let k : c ≤ 0x10FFFF = omega arith in
    simp le-leb

scalar_far : (c : ℕ) → 0x10000 ≤ c → c ≤ 0x10FFFF → scalar c ≡ true
unfolding scalar
scalar_far c l h =
    let k : 0xD800 ≤ c = omega arith in
    let m : 0xDFFF < c = omega arith in
    simp (le-leb, le-ltb)

read_back : {a : ℕ} {s : List ℕ} → (read a s).good ≡ true → Back a s (read a s)
unfolding read character none
read_back {a} {s} =
    starts-each (λ (p : Piece ℕ). p.good ≡ true → Back a s p) (λ h. absurd (false≢true h))
    (λ l _. record { same = rw (from_one a l); is = scalar-low a (omega arith) })
    (λ v t _. record { same = rw (from_two t) (with_one t.second); is = scalar-low _ (omega arith) })
    (λ v t _. record { same = rw (from_three t) (with_two t.second t.third); is = t.is })
    (λ v t _. record { same = rw (from_four t) (with_three t.second t.third t.fourth); is = scalar_far _ t.low t.high })

-- ---- what is UTF-8 is the encoding of what it reads as
record Whole (s : List ℕ) : Type 0 where
  are : scalars (chars s) ≡ true
  same : encoding (chars s) ≡ s

whole-nil : Whole []
unfolding scalars every encoding
whole-nil = record { are = rw chars-nil; same = rw chars-nil }

-- by a bound of the length
whole : (n : ℕ) {s : List ℕ} → length s ≤ n → utf8 s ≡ true → Whole s
unfolding chars utf8 scalars every encoding
whole zero {s = []} l h = whole-nil
whole zero {s = a ∷ s} l h = absurd (omega arith)
whole (suc n) {s = []} l h = whole-nil
whole (suc n) {s = a ∷ s} l h =
    let g = both (read a s).good (utf8 (drop (read a s).more s)) (sym (sound-cons read a s) ∙ h) in
    let b : Back a s (read a s) = read_back g.0 in
    let r : Whole (drop (read a s).more s) = whole n (rw length-drop (omega arith)) g.1 in
    record { are = rw (pieces-cons, b.is) r.are; same = rw (pieces-cons, r.same) (sym b.same) }

pub chars-scalars : (s : List ℕ) → utf8 s ≡ true → scalars (chars s) ≡ true
chars-scalars s h = (whole (length s) (le_refl (length s)) h).are

pub chars-encoding : (s : List ℕ) → utf8 s ≡ true → encoding (chars s) ≡ s
chars-encoding s h = (whole (length s) (le_refl (length s)) h).same
