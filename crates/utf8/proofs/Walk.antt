-- A walk over the characters of a text: what `character_at` says, at a place within the text, of the characters from there on;
-- that they end with the text; and ASCII, which needs no look at what follows. Assumes nothing.
use Prim.Native.Nat.{ℕ, ◌+◌, ◌<◌, ◌≤◌}
use mathlib.Core.Path.{◌≡◌, ap, ◌∙◌}
use mathlib.Core.List.{List, [], ◌∷◌}
use mathlib.Core.Bool.{true, ◌&&◌}
use native.Mathlib.Numerals.{add-one}
use native.Mathlib.Omega.{arith}
use borrow.Author.Tests.{lt-ltb}
use lib.ListN.{length, get_or, drop}
use lib.Seq.{drop-cons}
use Rattle.lists.specs.Pieces.{piece_at}
use Rattle.lists.proofs.PiecesLaws.{pieces-nil, sound-nil, pieces-cons, sound-cons, pieces_at, sound_at, pieces_end, sound_end, pieces-few}
use Rattle.utf8.specs.Utf8.{character, read, chars, utf8}
use Rattle.utf8.specs.At.{placed, character_at}
use Rattle.utf8.specs.declared.Character.{Character}
use Rattle.utf8.proofs.Forms.{starts-one}

pub within : (s : List ℕ) (at : ℕ) → at < length s → character_at s at ≡ placed at (piece_at read 0 s at)
unfolding character_at
within s at h = rw (lt-ltb at (length s) h)

-- f is the character at the place `at`, which lies in the text: the rest is read behind it
pub record Walked (s : List ℕ) (at : ℕ) (f : Character) : Type 0 where
  pub onward : at < f.next
  pub reads : chars (drop at s) ≡ f.number ∷ chars (drop f.next s)
  pub sound : utf8 (drop at s) ≡ f.good && utf8 (drop f.next s)

pub walked : {s : List ℕ} {at : ℕ} {f : Character} → f ≡ character_at s at → at < length s → Walked s at f
unfolding chars utf8
walked {s} {at} e h =
    let here = e ∙ within s at h in
    record { onward = omega (arith, ap (λ (x : Character). x.next) here); reads = rw here (pieces_at read 0 s at h); sound = rw here (sound_at read 0 s at h) }

-- ---- the end
pub chars-nil : chars [] ≡ []
unfolding chars
chars-nil = pieces-nil read

pub utf8_nil : utf8 [] ≡ true
unfolding utf8
utf8_nil = sound-nil read

module _ (s : List ℕ) (at : ℕ) (h : length s ≤ at) where
  pub chars_end : chars (drop at s) ≡ []
  unfolding chars
  chars_end = pieces_end read s at h

  pub utf8_end : utf8 (drop at s) ≡ true
  unfolding utf8
  utf8_end = sound_end read s at h

pub chars-few : (s : List ℕ) → length (chars s) ≤ length s
unfolding chars
chars-few s = pieces-few read s

-- ---- one character more
pub chars-cons : (a : ℕ) (s : List ℕ) → chars (a ∷ s) ≡ (read a s).what ∷ chars (drop (read a s).more s)
unfolding chars
chars-cons a s = pieces-cons read a s

pub utf8-cons : (a : ℕ) (s : List ℕ) → utf8 (a ∷ s) ≡ (read a s).good && utf8 (drop (read a s).more s)
unfolding utf8
utf8-cons a s = sound-cons read a s

-- ---- ASCII
pub read_ascii : (c : ℕ) (s : List ℕ) → c < 128 → read c s ≡ character c 0
unfolding read
read_ascii c s h = starts-one c _ _ _ h

module _ (c : ℕ) (s : List ℕ) (h : c < 128) where
  pub chars_cons_ascii : chars (c ∷ s) ≡ c ∷ chars s
  unfolding character
  chars_cons_ascii = chars-cons c s ∙ rw (read_ascii c s h)

  pub utf8_cons_ascii : utf8 (c ∷ s) ≡ utf8 s
  unfolding character
  utf8_cons_ascii = utf8-cons c s ∙ rw (read_ascii c s h)

module _ (s : List ℕ) (at : ℕ) (h : at < length s) (l : get_or s at 0 < 128) where
  pub ascii_at : chars (drop at s) ≡ get_or s at 0 ∷ chars (drop (at + 1) s)
  ascii_at = rw (add-one, drop-cons s at 0 h) (chars_cons_ascii _ _ l)

  pub utf8_ascii_at : utf8 (drop at s) ≡ utf8 (drop (at + 1) s)
  utf8_ascii_at = rw (add-one, drop-cons s at 0 h) (utf8_cons_ascii _ _ l)
