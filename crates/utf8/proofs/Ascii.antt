-- What the tails of a text say of its characters: a character is read from its first byte and the tails (80 to BF) behind it, and from nothing else. So a
-- change of a text that leaves tails alone, as one of ASCII bytes does, changes its characters in the same way.
-- Assumes nothing.
use Prim.Native.Nat.{ℕ, zero, suc, ◌+◌, ◌<◌, ◌≤◌}
use mathlib.Core.Path.{◌≡◌, refl, sym, ap, ◌∙◌}
use mathlib.Core.List.{List, [], ◌∷◌}
use mathlib.Core.Bool.{Bool, true, false, cond, ◌&&◌}
use native.Mathlib.Omega.{arith}
use lib.ListN.{length, get_or, drop, length-drop}
use Rattle.lists.specs.Pieces.{Piece}
use Rattle.lists.proofs.PiecesLaws.{pieces-cons, sound-cons}
use Rattle.utf8.specs.Utf8.{character, none, when, tail, two, three, four, starts, read, chars, utf8}
use Rattle.utf8.specs.At.{character_at}
use Rattle.utf8.specs.declared.Character.{Character}
use Rattle.utf8.proofs.Forms.{Tail, starts-each, tail_is, tail-true}
use Rattle.utf8.proofs.Walk.{within}

-- the tails at the front of a text
unfoldable pub tails : List ℕ → List ℕ
tails [] = []
tails (b ∷ s) = cond (tail b) (b ∷ tails s) []

pub tails-nil : tails [] ≡ []
unfolding tails
tails-nil = refl

pub tails-cons : (b : ℕ) (s : List ℕ) → tail b ≡ true → tails (b ∷ s) ≡ b ∷ tails s
unfolding tails
tails-cons b s t = rw t

pub tails_none : (b : ℕ) (s : List ℕ) → tail b ≡ false → tails (b ∷ s) ≡ []
unfolding tails
tails_none b s t = rw t

pub tail-high : {b : ℕ} → tail b ≡ true → 128 ≤ b
tail-high {b} t = (tail_is b t).from

-- ---- a character is read from the tails behind its first byte
tail-zero : tail 0 ≡ false
unfolding tail
tail-zero = refl

module _ (a b c d : ℕ) where
  cut-one : tail b ≡ false → starts a b c d ≡ starts a 0 0 0
  unfolding starts two three four when
  cut-one h = rw (h, tail-zero)

  cut_two : tail c ≡ false → starts a b c d ≡ starts a b 0 0
  unfolding starts two three four when
  cut_two h = simp (h, tail-zero)

  cut_three : tail d ≡ false → starts a b c d ≡ starts a b c 0
  unfolding starts two three four when
  cut_three h = simp (h, tail-zero)

-- the byte at the front of tails is the text's, or 0 where the text has no tail there
third-tail : (a b c : ℕ) (s : List ℕ) → starts a b c (get_or s 0 0) ≡ starts a b c (get_or (tails s) 0 0)
third-tail a b c [] = rw (tails-nil)
third-tail a b c (d ∷ s) = go (tail d) refl
  where
    go : (t : Bool) → tail d ≡ t → starts a b c d ≡ starts a b c (get_or (tails (d ∷ s)) 0 0)
    go true h = rw (tails-cons d s h)
    go false h = rw (tails_none d s h) (cut_three a b c d h)

second-tail : (a b : ℕ) (s : List ℕ) → starts a b (get_or s 0 0) (get_or s 1 0) ≡ starts a b (get_or (tails s) 0 0) (get_or (tails s) 1 0)
second-tail a b [] = rw (tails-nil)
second-tail a b (c ∷ s) = go (tail c) refl
  where
    go : (t : Bool) → tail c ≡ t → starts a b c (get_or s 0 0) ≡ starts a b (get_or (tails (c ∷ s)) 0 0) (get_or (tails (c ∷ s)) 1 0)
    go true h = rw (tails-cons c s h) (third-tail a b c s)
    go false h = rw (tails_none c s h) (cut_two a b c (get_or s 0 0) h)

pub read-tails : (a : ℕ) (s : List ℕ) → read a s ≡ read a (tails s)
unfolding read
read-tails a [] = rw (tails-nil)
read-tails a (b ∷ s) = go (tail b) refl
  where
    go : (t : Bool) → tail b ≡ t
        → starts a b (get_or s 0 0) (get_or s 1 0) ≡ starts a (get_or (tails (b ∷ s)) 0 0) (get_or (tails (b ∷ s)) 1 0) (get_or (tails (b ∷ s)) 2 0)
    go true h = rw (tails-cons b s h) (second-tail a b s)
    go false h = rw (tails_none b s h) (cut-one a b (get_or s 0 0) (get_or s 1 0) h)

-- ---- it takes tails only, and as a number it is no ASCII
one-tail : (s : List ℕ) → Tail (get_or s 0 0) → 1 ≤ length (tails s)
one-tail [] t = absurd (omega arith)
one-tail (b ∷ s) t = rw (tails-cons b s (tail-true t)) (omega arith)

two_tails : (s : List ℕ) → Tail (get_or s 0 0) → Tail (get_or s 1 0) → 2 ≤ length (tails s)
two_tails [] t u = absurd (omega arith)
two_tails (b ∷ s) t u = rw (tails-cons b s (tail-true t)) (omega (arith, one-tail s u))

three_tails : (s : List ℕ) → Tail (get_or s 0 0) → Tail (get_or s 1 0) → Tail (get_or s 2 0) → 3 ≤ length (tails s)
three_tails [] t u v = absurd (omega arith)
three_tails (b ∷ s) t u v = rw (tails-cons b s (tail-true t)) (omega (arith, two_tails s u v))

pub read_more : (a : ℕ) (s : List ℕ) → (read a s).more ≤ length (tails s)
unfolding read character none
read_more a s =
    starts-each (λ (p : Piece ℕ). p.more ≤ length (tails s)) (omega arith)
    (λ h. omega arith) (λ v t. one-tail s t.second) (λ v t. two_tails s t.second t.third) (λ v t. three_tails s t.second t.third t.fourth)

pub read-high : (a : ℕ) (s : List ℕ) → 128 ≤ a → 128 ≤ (read a s).what
unfolding read character none
read-high a s l =
    starts-each (λ (p : Piece ℕ). 128 ≤ p.what) (omega arith)
    (λ h. omega arith) (λ v t. omega arith) (λ v t. omega arith) (λ v t. omega arith)

pub tails-few : (s : List ℕ) → length (tails s) ≤ length s
unfolding tails
tails-few [] = omega arith
tails-few (b ∷ s) = go (tail b) (tails-few s)
  where
    go : (t : Bool) → length (tails s) ≤ length s → length (cond t (b ∷ tails s) []) ≤ length (b ∷ s)
    go true h = omega arith
    go false h = omega arith

-- so the place behind a character lies within the text
module _ (s : List ℕ) (at : ℕ) (f : Character) (e : f ≡ character_at s at) (h : at < length s) where
  pub walk-within : f.next ≤ length s
  walk-within =
      rw (e ∙ within s at h)
      (omega (arith, read_more (get_or s at 0) (drop (at + 1) s), tails-few (drop (at + 1) s), length-drop (at + 1) s))

-- ---- a change that leaves tails alone
pub record TailBlind (f : List ℕ → List ℕ) : Type 0 where
  pub keeps : (b : ℕ) (s : List ℕ) → tail b ≡ true → f (b ∷ s) ≡ b ∷ f s
  pub same : (s : List ℕ) → tails (f s) ≡ tails s

module _ {f : List ℕ → List ℕ} (k : TailBlind f) where
  blind_drop : (n : ℕ) (s : List ℕ) → n ≤ length (tails s) → drop n (f s) ≡ f (drop n s)
  blind_drop zero s h = refl
  blind_drop (suc n) [] h = absurd (omega (arith, rw tails-nil at h))
  blind_drop (suc n) (b ∷ s) h = go (tail b) refl (blind_drop n s)
    where
      go : (t : Bool) → tail b ≡ t → (n ≤ length (tails s) → drop n (f s) ≡ f (drop n s)) → drop (suc n) (f (b ∷ s)) ≡ f (drop (suc n) (b ∷ s))
      go true e d = rw (k.keeps b s e) (d (omega (arith, rw (tails-cons b s e) at h)))
      go false e d = absurd (omega (arith, rw (tails_none b s e) at h))

  pub blind_length : (n : ℕ) (s : List ℕ) → n ≤ length (tails s) → length (f s) ≡ n + length (f (drop n s))
  blind_length n s h = omega (arith, length-drop n (f s), ap length (blind_drop n s h), tails-few (f s), ap length (k.same s))

  pub blind_read : (a : ℕ) (s : List ℕ) → read a (f s) ≡ read a s
  blind_read a s = read-tails a (f s) ∙ rw (k.same s) (sym (read-tails a s))

  pub blind_chars : (a : ℕ) (s : List ℕ) → chars (a ∷ f s) ≡ (read a s).what ∷ chars (f (drop (read a s).more s))
  unfolding chars
  blind_chars a s = pieces-cons read a (f s) ∙ rw (blind_read a s, blind_drop (read a s).more s (read_more a s))

  pub blind_utf8 : (a : ℕ) (s : List ℕ) → utf8 (a ∷ f s) ≡ (read a s).good && utf8 (f (drop (read a s).more s))
  unfolding utf8
  blind_utf8 a s = sound-cons read a (f s) ∙ rw (blind_read a s, blind_drop (read a s).more s (read_more a s))
