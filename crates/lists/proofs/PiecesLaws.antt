-- How the pieces of a list go on behind its first piece, also from a position of the list on. Assumes nothing.
use Prim.Native.Nat.{ℕ, zero, suc, ◌+◌, ◌<◌, ◌≤◌}
use mathlib.Core.Path.{◌≡◌, refl}
use mathlib.Core.List.{List, [], ◌∷◌}
use mathlib.Core.Bool.{true, ◌&&◌}
use lib.ListN.{length, drop, drop_of_length-le}
use lib.Seq.{drop-cons, drop-drop}
use native.Mathlib.Nat.{add_assoc}
use native.Mathlib.Numerals.{add-one}
use native.Mathlib.Omega.{arith}
use Rattle.lists.specs.Pieces.{Reader, piece_at, pieces, pieces_past, sound, sound_past}

module _ {A B : Type 0} (read : Reader A B) where
  pub pieces_past-drop : (k : ℕ) (s : List A) → pieces_past read k s ≡ pieces read (drop k s)
  unfolding pieces pieces_past
  pieces_past-drop zero s = refl
  pieces_past-drop (suc k) [] = refl
  pieces_past-drop (suc k) (a ∷ s) = pieces_past-drop k s

  pub sound_past-drop : (k : ℕ) (s : List A) → sound_past read k s ≡ sound read (drop k s)
  unfolding sound sound_past
  sound_past-drop zero s = refl
  sound_past-drop (suc k) [] = refl
  sound_past-drop (suc k) (a ∷ s) = sound_past-drop k s

  pub pieces-nil : pieces read [] ≡ []
  unfolding pieces pieces_past
  pieces-nil = refl

  pub sound-nil : sound read [] ≡ true
  unfolding sound sound_past
  sound-nil = refl

  pub pieces-cons : (a : A) (s : List A) → pieces read (a ∷ s) ≡ (read a s).what ∷ pieces read (drop (read a s).more s)
  unfolding pieces pieces_past
  pieces-cons a s = rw (pieces_past-drop (read a s).more s)

  pub sound-cons : (a : A) (s : List A) → sound read (a ∷ s) ≡ (read a s).good && sound read (drop (read a s).more s)
  unfolding sound sound_past
  sound-cons a s = rw (sound_past-drop (read a s).more s)

  pieces_past-few : (k : ℕ) (s : List A) → length (pieces_past read k s) ≤ length s
  unfolding pieces_past
  pieces_past-few k [] = omega arith
  pieces_past-few zero (a ∷ s) = omega (arith, pieces_past-few (read a s).more s)
  pieces_past-few (suc k) (a ∷ s) = omega (arith, pieces_past-few k s)

  pub pieces-few : (s : List A) → length (pieces read s) ≤ length s
  unfolding pieces
  pieces-few s = pieces_past-few 0 s

-- ---- from a position on
module _ {A B : Type 0} (read : Reader A B) (d : A) (s : List A) (at : ℕ) where
  pub pieces_at : at < length s → pieces read (drop at s) ≡ (piece_at read d s at).what ∷ pieces read (drop (at + (1 + (piece_at read d s at).more)) s)
  pieces_at h = rw (drop-cons s at d h, ← add-one at, pieces-cons, drop-drop, add_assoc)

  pub sound_at : at < length s → sound read (drop at s) ≡ (piece_at read d s at).good && sound read (drop (at + (1 + (piece_at read d s at).more)) s)
  sound_at h = rw (drop-cons s at d h, ← add-one at, sound-cons, drop-drop, add_assoc)

module _ {A B : Type 0} (read : Reader A B) (s : List A) (at : ℕ) where
  pub pieces_end : length s ≤ at → pieces read (drop at s) ≡ []
  pieces_end h = rw (drop_of_length-le s h) (pieces-nil read)

  pub sound_end : length s ≤ at → sound read (drop at s) ≡ true
  sound_end h = rw (drop_of_length-le s h) (sound-nil read)
