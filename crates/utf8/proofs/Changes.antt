-- A change of a text, byte after byte: at each place, of some kind Q, a byte is dropped or another is put. It goes as well over characters, and commutes
-- with reading them, where it looks at ASCII alone: a byte that is none is kept, the place behind it is one where the bytes that go on with its character
-- change nothing and nothing is dropped, and what is put for ASCII is ASCII.
-- Assumes nothing.
use Prim.Native.Nat.{ℕ, zero, suc, ◌<◌, ◌≤◌}
use mathlib.Core.Path.{◌≡◌, refl, sym, ◌∙◌}
use mathlib.Core.List.{List, [], ◌∷◌}
use mathlib.Core.Bool.{Bool, true, false, cond}
use native.Mathlib.Decide.{dec_lt}
use native.Mathlib.Nat.{le_refl}
use native.Mathlib.Omega.{arith}
use lib.ListN.{length, drop, length-drop}
use Rattle.utf8.specs.Utf8.{tail, read, chars, utf8}
use Rattle.utf8.proofs.Walk.{chars-nil, chars-cons, utf8-cons, chars_cons_ascii, utf8_cons_ascii}
use Rattle.utf8.proofs.Ascii.{tails, tails-cons, tails_none, tail-high, read-high, TailBlind, blind_chars, blind_utf8}

-- the place behind a byte, whether it is dropped, and what is put for it
pub record Change (Q : Type 0) : Type 0 where
  pub next : Q → ℕ → Q
  pub drops : Q → ℕ → Bool
  pub puts : Q → ℕ → ℕ

unfoldable pub changed : {Q : Type 0} → Change Q → Q → List ℕ → List ℕ
changed C q [] = []
changed C q (c ∷ s) = cond (C.drops q c) (changed C (C.next q c) s) (C.puts q c ∷ changed C (C.next q c) s)

pub record AsciiOnly {Q : Type 0} (C : Change Q) : Type 0 where
  pub low : (q : Q) (c : ℕ) → c < 128 → C.puts q c < 128
  pub high : (q : Q) (c : ℕ) → 128 ≤ c → C.puts q c ≡ c
  pub kept : (q : Q) (c : ℕ) → 128 ≤ c → C.drops q c ≡ false
  pub alike : (q : Q) (c d : ℕ) → 128 ≤ c → 128 ≤ d → C.next q c ≡ C.next q d
  pub steady : (q : Q) (c d : ℕ) → 128 ≤ c → 128 ≤ d → C.next (C.next q c) d ≡ C.next q c
  pub held : (q : Q) (c d : ℕ) → 128 ≤ c → C.drops (C.next q c) d ≡ false

not_tail : (c : ℕ) → c < 128 → tail c ≡ false
not_tail c l = go (tail c) refl
  where
    go : (t : Bool) → tail c ≡ t → tail c ≡ false
    go true e = absurd (omega (arith, tail-high e))
    go false e = e

module _ {Q : Type 0} {C : Change Q} (A : AsciiOnly C) where
  -- what is no ASCII is kept
  changed-high : (q : Q) (c : ℕ) (s : List ℕ) → 128 ≤ c → changed C q (c ∷ s) ≡ c ∷ changed C (C.next q c) s
  unfolding changed
  changed-high q c s h = rw (A.kept q c h, A.high q c h)

  -- and the tails behind it stay as they are
  module _ (q : Q) (a : ℕ) (h : 128 ≤ a) where
    changed-tails : (s : List ℕ) → tails (changed C (C.next q a) s) ≡ tails s
    unfolding changed
    changed-tails [] = refl
    changed-tails (c ∷ s) = rw (A.held q a c h) (go (tail c) refl (dec_lt c 128) (changed-tails s))
      where
        go : (t : Bool) → tail c ≡ t → Dec (c < 128) → tails (changed C (C.next q a) s) ≡ tails s
            → tails (C.puts (C.next q a) c ∷ changed C (C.next (C.next q a) c) s) ≡ tails (c ∷ s)
        go t e (yes l) k =
            let u : tail (C.puts (C.next q a) c) ≡ false = not_tail (C.puts (C.next q a) c) (A.low (C.next q a) c l) in
            tails_none (C.puts (C.next q a) c) (changed C (C.next (C.next q a) c) s) u ∙ sym (tails_none c s (not_tail c l))
        go true e (no l) k = rw (A.high (C.next q a) c (omega arith), A.steady q a c h (omega arith), tails-cons c s e, tails-cons, k) refl
        go false e (no l) k = rw (A.high (C.next q a) c (omega arith), tails_none c s e, tails_none) refl

    changed_blind : TailBlind (changed C (C.next q a))
    changed_blind = record {
      keeps = λ b s t. changed-high (C.next q a) b s (tail-high t) ∙ rw (A.steady q a b h (tail-high t));
      same = changed-tails;
    }

  record Read (q : Q) (s : List ℕ) : Type 0 where
    are : chars (changed C q s) ≡ changed C q (chars s)
    good : utf8 (changed C q s) ≡ utf8 s

  module _ (q : Q) where
    read-nil : Read q []
    unfolding changed
    read-nil = record { are = rw chars-nil; good = refl }

    module _ (a : ℕ) (s : List ℕ) where
      read_low : a < 128 → Read (C.next q a) s → Read q (a ∷ s)
      unfolding changed
      read_low h k = record { are = rw (chars_cons_ascii a s h) (are_as (C.drops q a)); good = rw (utf8_cons_ascii a s h) (good_as (C.drops q a)) }
        where
          l : C.puts q a < 128
          l = A.low q a h

          are_as : (d : Bool) → chars (cond d (changed C (C.next q a) s) (C.puts q a ∷ changed C (C.next q a) s))
              ≡ cond d (changed C (C.next q a) (chars s)) (C.puts q a ∷ changed C (C.next q a) (chars s))
          are_as true = k.are
          are_as false = rw (chars_cons_ascii (C.puts q a) (changed C (C.next q a) s) l, k.are)

          good_as : (d : Bool) → utf8 (cond d (changed C (C.next q a) s) (C.puts q a ∷ changed C (C.next q a) s)) ≡ utf8 s
          good_as true = k.good
          good_as false = rw (utf8_cons_ascii (C.puts q a) (changed C (C.next q a) s) l, k.good)

      read-high-one : 128 ≤ a → Read (C.next q a) (drop (read a s).more s) → Read q (a ∷ s)
      read-high-one h k =
          let l : 128 ≤ (read a s).what = read-high a s h in
          let n : C.next q (read a s).what ≡ C.next q a = A.alike q (read a s).what a l h in
          let b : TailBlind (changed C (C.next q a)) = changed_blind q a h in
          record {
            are = rw (changed-high q a s h) (blind_chars b a s
                ∙ rw (k.are, chars-cons a s, changed-high q (read a s).what (chars (drop (read a s).more s)) l, n));
            good = rw (changed-high q a s h) (blind_utf8 b a s ∙ rw (k.good, utf8-cons a s));
          }

  -- by a bound of the length
  read-within : (n : ℕ) (q : Q) (s : List ℕ) → length s ≤ n → Read q s
  read-within zero q [] h = read-nil q
  read-within zero q (a ∷ s) h = absurd (omega arith)
  read-within (suc n) q [] h = read-nil q
  read-within (suc n) q (a ∷ s) h = go (dec_lt a 128) (λ p t. read-within n p t)
    where
      go : Dec (a < 128) → ((p : Q) (t : List ℕ) → length t ≤ n → Read p t) → Read q (a ∷ s)
      go (yes l) k = read_low q a s l (k (C.next q a) s (omega arith))
      go (no l) k = read-high-one q a s (omega arith) (k (C.next q a) (drop (read a s).more s) (rw length-drop (omega arith)))

  module _ (q : Q) (s : List ℕ) where
    -- the characters of the changed bytes are the characters, changed
    pub chars-changed : chars (changed C q s) ≡ changed C q (chars s)
    chars-changed = (read-within (length s) q s (le_refl (length s))).are

    -- and the changed bytes are UTF-8 where the bytes are
    pub utf8-changed : utf8 (changed C q s) ≡ utf8 s
    utf8-changed = (read-within (length s) q s (le_refl (length s))).good
