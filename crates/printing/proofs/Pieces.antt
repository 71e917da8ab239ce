-- Pieces that are put into a buffer side by side are one piece; and what each function puts there. Assumes nothing.
use Prim.Native.Nat.{ℕ, ◌+◌, ◌≤◌}
use mathlib.Core.Path.{◌≡◌, sym, ap, ◌∙◌}
use mathlib.Core.List.{List, [], ◌∷◌, ◌++◌, append_assoc}
use native.Mathlib.Nat.{add-zero, le_refl, zero-add}
use native.Mathlib.Omega.{arith}
use lib.ListN.{length, take, drop, length-append}
use lib.Seq.{drop-drop, drop-paste, length-paste, paste, paste-zero, take-length, take-paste}
use Rattle.numbers.specs.Signs.{line_feed, space}
use Rattle.lists.specs.Front.{front}
use Rattle.lists.specs.Texts.{codes}
pub use Rattle.printing.specs.Printing.{Begins, Puts}
use Rattle.printing.specs.Printing.{decimal, numbered, refused_fields, spaced}
use Rattle.printing.proofs.Digits.{few-digits}

-- a copy of a whole text puts it
pub pasted : (d : List ℕ) (at : ℕ) (xs : List ℕ) → paste d at xs (length xs) ≡ take at d ++ front xs (drop at d)
unfolding front
pasted d at xs = rw (take-length, drop-drop) (append_assoc (take at d) xs (drop (at + length xs) d))

-- no text is put anywhere
pub puts-nothing : (d : List ℕ) (at : ℕ) → Puts d at [] d at
puts-nothing d at = (sym (add-zero at), paste-zero d at [] ∙ pasted d at [])

pub puts-long : (d : List ℕ) (at : ℕ) (xs : List ℕ) {l : List ℕ} {r : ℕ} → at + length xs ≤ length d → Puts d at xs l r → length l ≡ length d
puts-long d at xs room p = ap length (p.1 ∙ sym (pasted d at xs)) ∙ length-paste d at xs (length xs) room (le_refl (length xs))

pub puts-both : (d : List ℕ) (at : ℕ) (xs ys : List ℕ) {d₁ d₂ : List ℕ} {e r : ℕ} → at + length xs + length ys ≤ length d
    → Puts d at xs d₁ e → Puts d₁ e ys d₂ r → Puts d at (xs ++ ys) d₂ r
puts-both d at xs ys {d₁} {d₂} {e} {r} room p q =
    (omega (arith, p.0, q.0, length-append xs ys), q.1 ∙ sym (pasted d₁ e ys) ∙ lists ∙ pasted d at (xs ++ ys))
  where
    first : d₁ ≡ paste d at xs (length xs)
    first = p.1 ∙ sym (pasted d at xs)

    head : take e d₁ ≡ take at d ++ xs
    head = rw (p.0, first) (take-paste d at xs (length xs) (omega arith) (le_refl (length xs)) ∙ rw take-length)

    tail : drop (e + length ys) d₁ ≡ drop (at + length (xs ++ ys)) d
    tail =
        let z : at + length xs + length ys ≡ at + length (xs ++ ys) = omega (arith, length-append xs ys) in
        sym (drop-drop (length ys) e d₁)
        ∙ rw (p.0, first) (ap (λ (l : List ℕ). drop (length ys) l) (drop-paste d at xs (length xs) (omega arith) (le_refl (length xs)))
        ∙ drop-drop (length ys) (at + length xs) d
        ∙ ap (λ (n : ℕ). drop n d) z)

    lists : paste d₁ e ys (length ys) ≡ paste d at (xs ++ ys) (length (xs ++ ys))
    lists =
        rw (head, tail, take-length ys, take-length (xs ++ ys))
        (ap (λ (l : List ℕ). l ++ drop (at + length (xs ++ ys)) d) (append_assoc (take at d) xs ys))

-- ---- a number and what stands behind it
module _ (d : List ℕ) (at n : ℕ) {d₁ d₂ : List ℕ} {e r : ℕ} where
  pub index-put : (ys : List ℕ) → at + 12 ≤ length d → length ys ≤ 2 → Puts d at (decimal n) d₁ e → Puts d₁ e ys d₂ r → Puts d at (decimal n ++ ys) d₂ r
  index-put ys room few p q = puts-both d at (decimal n) ys (omega (arith, few-digits n)) p q

abbrev pub line_end : List ℕ
line_end = line_feed ∷ []

-- at a buffer's start
pub begins : (d xs : List ℕ) {l : List ℕ} {r : ℕ} → Puts d 0 xs l r → Begins d xs l r
begins d xs p = (p.0 ∙ zero-add (length xs), p.1)

pub put_first : (d xs : List ℕ) {l : List ℕ} {r : ℕ} → Begins d xs l r → Puts d 0 xs l r
put_first d xs p = (p.0 ∙ sym (zero-add (length xs)), p.1)

-- ---- a word, a blank and a number; the same as a line
module _ (d : List ℕ) (n : ℕ) {d₁ d₂ d₃ : List ℕ} {a b r : ℕ} where
  pub spaced-put : (at : ℕ) (word : List ℕ) → at + length word + 11 ≤ length d
      → Puts d at word d₁ a → Puts d₁ a (space ∷ []) d₂ b → Puts d₂ b (decimal n) d₃ r → Puts d at (spaced word n) d₃ r
  unfolding spaced
  spaced-put at word room p q s =
      let w : a ≡ at + length word = p.0 in
      let x : length d₁ ≡ length d = puts-long d at word (omega arith) p in
      let f = few-digits n in
      let t : Puts d₁ a (space ∷ decimal n) d₃ r = puts-both d₁ a (space ∷ []) (decimal n) (omega arith) q s in
      puts-both d at word (space ∷ decimal n) (omega arith) p t

pub few-spaced : (word : List ℕ) (n : ℕ) → length (spaced word n) ≤ length word + 11
unfolding spaced
few-spaced word n = omega (arith, length-append word (space ∷ decimal n), few-digits n)

pub spaced-ends : (d : List ℕ) (at : ℕ) (word : List ℕ) (n : ℕ) {l : List ℕ} {r : ℕ} → Puts d at (spaced word n) l r → r ≤ at + length word + 11
spaced-ends d at word n p = omega (arith, p.0, few-spaced word n)

pub few-numbered : (word : List ℕ) (n : ℕ) → length (numbered word n) ≤ length word + 12
unfolding numbered
few-numbered word n = omega (arith, length-append (spaced word n) line_end, few-spaced word n)

pub few-refused : (n : ℕ) → length (refused_fields n) ≤ 12
unfolding refused_fields codes
few-refused n = few-spaced (codes "!") n

module _ (d : List ℕ) (n : ℕ) {d₁ d₂ : List ℕ} {e r : ℕ} where
  pub numbered-put : (word : List ℕ) → length word + 12 ≤ length d → Puts d 0 (spaced word n) d₁ e → Puts d₁ e line_end d₂ r → Begins d (numbered word n) d₂ r
  unfolding numbered
  numbered-put word room p q = begins d (numbered word n) (puts-both d 0 (spaced word n) line_end (omega (arith, few-spaced word n)) p q)
