-- Numbers shown one behind the other: how many bytes they take, the turns of `put_numbers` and `put_byte_numbers`, and a buffer's line. Assumes nothing.
use Prim.Native.Nat.{ℕ, zero, suc, ◌+◌, ◌*◌, ◌/◌, ◌%◌, ◌<◌, ◌≤◌}
use mathlib.Core.Path.{◌≡◌, refl, sym, ap, subst, ◌∙◌}
use mathlib.Core.Bool.{Bool, true, false, cond}
use mathlib.Core.List.{List, [], ◌∷◌, ◌++◌, append_assoc, append-nil}
use native.Mathlib.Numerals.{add-one}
use native.Mathlib.Omega.{arith}
use borrow.Author.Tests.{lt-ltb}
use mir.Syntax.{w8}
use mir.Val.{Fits}
use lib.Dec.{ltb}
use lib.ListN.{length, take, get_or, length-append}
use lib.Seq.{take-suc, take_all}
use native.Mathlib.Nat.{le_refl}
use Rattle.printing.specs.Printing.{Puts, decimal, spaced, spelled}
use Rattle.printing.proofs.Pieces.{few-spaced, line_end, puts-both, puts-long, puts-nothing}
use Rattle.printing_book.specs.Shown.{buffer_shown, numbers_shown}
use Rattle.printing_book.proofs.Pieces.{behind, text-placed}

-- ---- a byte has three digits at most
one_more : (j n m : ℕ) → length (spelled j (n / 10)) ≤ m → length (spelled (suc j) n) ≤ suc m
unfolding spelled
one_more j n m h = go (ltb n 10)
  where
    go : (v : Bool) → length (cond v ((48 + n) ∷ []) (spelled j (n / 10) ++ (48 + n % 10) ∷ [])) ≤ suc m
    go true = omega arith
    go false = simp length-append (omega arith)

one-digit : (j n : ℕ) → n < 10 → length (spelled (suc j) n) ≤ 1
unfolding spelled
one-digit j n h = rw (lt-ltb n 10 h) (omega arith)

three_digits : (n : ℕ) → n < 1000 → length (decimal n) ≤ 3
unfolding decimal
three_digits n h = one_more 9 n 2 (one_more 8 (n / 10) 1 (one-digit 7 (n / 10 / 10) (omega arith)))

pub few_byte : (n : ℕ) → Fits w8 n → length (spaced [] n) ≤ 4
unfolding spaced
few_byte n f = let g : n < 256 = f.fits in omega (arith, three_digits n (omega arith))

-- ---- how many bytes numbers take, and bytes
pub few-numbers : (k : ℕ) (l : List ℕ) → length (numbers_shown (take k l)) ≤ 11 * k
unfolding numbers_shown
few-numbers zero l = omega arith
few-numbers (suc k) [] = omega arith
few-numbers (suc k) (n ∷ l) = omega (arith, length-append (spaced [] n) (numbers_shown (take k l)), few-spaced [] n, few-numbers k l)

abbrev pub Bytes : List ℕ → Type 0
Bytes l = (i : ℕ) → Fits w8 (get_or l i 0)

pub few_bytes : (k : ℕ) (l : List ℕ) → Bytes l → length (numbers_shown (take k l)) ≤ 4 * k
unfolding numbers_shown
few_bytes zero l f = omega arith
few_bytes (suc k) [] f = omega arith
few_bytes (suc k) (n ∷ l) f =
    omega (arith, length-append (spaced [] n) (numbers_shown (take k l)), few_byte n (f 0), few_bytes k l (λ i. f (suc i)))

-- the same of all of them
pub all_numbers : (l : List ℕ) → length (numbers_shown l) ≤ 11 * length l
all_numbers l = rw (take_all (length l) l (le_refl (length l))) at (few-numbers (length l) l)

pub all_bytes : (l : List ℕ) → Bytes l → length (numbers_shown l) ≤ 4 * length l
all_bytes l f = rw (take_all (length l) l (le_refl (length l))) at (few_bytes (length l) l f)

numbers-append : (xs ys : List ℕ) → numbers_shown (xs ++ ys) ≡ numbers_shown xs ++ numbers_shown ys
unfolding numbers_shown
numbers-append [] ys = refl
numbers-append (n ∷ xs) ys = simp (numbers-append xs ys, append_assoc)

next_number : (l : List ℕ) (i : ℕ) → i < length l → numbers_shown (take (i + 1) l) ≡ numbers_shown (take i l) ++ spaced [] (get_or l i 0)
unfolding numbers_shown
next_number l i h =
    rw (add-one, take-suc l i 0 h)
    (numbers-append (take i l) (get_or l i 0 ∷ []) ∙ ap (λ (m : List ℕ). numbers_shown (take i l) ++ m) (append-nil (spaced [] (get_or l i 0))))

-- ---- the loops: the numbers before i stand
pub record Numbered (d : List ℕ) (at : ℕ) (l : List ℕ) (n : ℕ) (out : List ℕ) (end i : ℕ) : Type 0 where
  pub within : i ≤ n
  pub long : length out ≡ length d
  pub put : Puts d at (numbers_shown (take i l)) out end

module _ {d : List ℕ} {at : ℕ} {l : List ℕ} {n : ℕ} where
  pub numbers_start : Numbered d at l n d at 0
  unfolding numbers_shown
  numbers_start = record { within = omega arith; long = refl; put = puts-nothing d at }

  module _ {out : List ℕ} {end i : ℕ} (inv : Numbered d at l n out end i) where
    pub numbers_end : n ≤ i → Puts d at (numbers_shown (take n l)) out end
    numbers_end h =
        let e : i ≡ n = omega (arith, inv.within) in
        subst (λ (k : ℕ). Puts d at (numbers_shown (take k l)) out end) e inv.put

    pub numbers_all : n ≡ length l → n ≤ i → Puts d at (numbers_shown l) out end
    numbers_all e h = rw (e, take_all (length l) l (le_refl (length l))) at (numbers_end h)

    module _ (h : i < n) where
      -- the room for one more
      pub number-room : at + 11 * n ≤ length d → end + 0 + 11 ≤ length out
      number-room room = omega (arith, inv.put.0, inv.long, few-numbers i l)

      pub byte_room : Bytes l → at + 4 * n + 8 ≤ length d → end + 0 + 11 ≤ length out
      byte_room f room = omega (arith, inv.put.0, inv.long, few_bytes i l f)

      pub numbers_more : n ≤ length l → end + 0 + 11 ≤ length out → {out' : List ℕ} {r : ℕ} → Puts out end (spaced [] (get_or l i 0)) out' r
          → Numbered d at l n out' r (i + 1)
      numbers_more k room {out'} {r} p =
          let x = get_or l i 0 in
          let f = few-spaced [] x in
          record {
            within = omega arith;
            long = puts-long out end (spaced [] x) (omega arith) p ∙ inv.long;
            put = subst (λ (m : List ℕ). Puts d at m out' r) (sym (next_number l i (omega arith)))
                (puts-both d at (numbers_shown (take i l)) (spaced [] x) (omega (arith, inv.put.0, inv.long)) inv.put p);
          }

-- ---- a buffer as a line
module _ (d : List ℕ) (at : ℕ) (word xs : List ℕ) {d₁ d₂ d₃ : List ℕ} {a b r : ℕ} where
  pub buffer_put : at + length word + length (numbers_shown xs) + 1 ≤ length d
      → Puts d at word d₁ a → Puts d₁ a (numbers_shown xs) d₂ b → Puts d₂ b line_end d₃ r → Puts d at (buffer_shown word xs) d₃ r
  unfolding buffer_shown
  buffer_put room p₁ p₂ p₃ =
      let q₁ = text-placed d at word (omega arith) p₁ in
      let q₂ = text-placed d₁ a (numbers_shown xs) (omega arith) p₂ in
      let q₃ = text-placed d₂ b line_end (omega arith) p₃ in
      (behind q₁ (behind q₂ q₃)).put

module _ (word : List ℕ) (k : ℕ) (l : List ℕ) where
  long_buffer : length (buffer_shown word (take k l)) ≡ length word + (length (numbers_shown (take k l)) + 1)
  unfolding buffer_shown
  long_buffer = simp length-append

  pub few_buffer : length (buffer_shown word (take k l)) ≤ length word + 11 * k + 1
  few_buffer = omega (arith, long_buffer, few-numbers k l)

  pub few_byte_buffer : Bytes l → length (buffer_shown word (take k l)) ≤ length word + 4 * k + 1
  few_byte_buffer f = omega (arith, long_buffer, few_bytes k l f)

  pub all_buffer : length (buffer_shown word l) ≤ length word + 11 * length l + 1
  unfolding buffer_shown
  all_buffer = simp length-append (omega (arith, all_numbers l))

  pub all_byte_buffer : Bytes l → length (buffer_shown word l) ≤ length word + 4 * length l + 1
  unfolding buffer_shown
  all_byte_buffer f = simp length-append (omega (arith, all_bytes l f))
