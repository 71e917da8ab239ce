-- What is read from a place of a text on: the pieces of its characters, that there is none past the end, and that an ASCII character is its byte.
-- Assumes nothing.
use Prim.Native.Nat.{ℕ, ◌<◌, ◌≤◌}
use mathlib.Core.Path.{◌≡◌}
use mathlib.Core.List.{List, ◌∷◌}
use native.Mathlib.Decide.{dec_lt}
use native.Mathlib.Omega.{arith}
use borrow.Author.Tests.{le-ltb}
use lib.ListN.{length, drop}
use Rattle.lists.specs.Pieces.{Reader, pieces}
use Rattle.lists.proofs.PiecesLaws.{pieces-cons}
use Rattle.utf8.specs.Utf8.{character, read, chars}
use Rattle.utf8.specs.At.{character_at}
use Rattle.utf8.specs.declared.Character.{Character}
use Rattle.utf8.proofs.Walk.{Walked, read_ascii}
use Rattle.utf8.proofs.Ascii.{read-high}

-- the piece that starts with f, and those behind it
pub walk-pieces : {s : List ℕ} {at : ℕ} {f : Character} → Walked s at f → {B : Type 0} (r : Reader ℕ B) → pieces r (chars (drop at s))
    ≡ (r f.number (chars (drop f.next s))).what ∷ pieces r (drop (r f.number (chars (drop f.next s))).more (chars (drop f.next s)))
walk-pieces {s} {f = f} w r = rw w.reads (pieces-cons r f.number (chars (drop f.next s)))

-- past the end there is nothing but U+FFFD
pub number-within : (s : List ℕ) {at : ℕ} {f : Character} → f ≡ character_at s at → (f.number ≡ 0xFFFD → ⊥) → at < length s
unfolding character_at
number-within s {at} e n = go (dec_lt at (length s))
  where
    go : Dec (at < length s) → at < length s
    go (yes h) = h
    go (no h) =
        let l : length s ≤ at = omega arith in
        absurd (n (rw (e, le-ltb at (length s) l)))

pub ascii_byte : (a : ℕ) (s : List ℕ) → (read a s).what < 128 → (read a s).what ≡ a
unfolding character
ascii_byte a s h = go (dec_lt a 128)
  where
    go : Dec (a < 128) → (read a s).what ≡ a
    go (yes l) = rw (read_ascii a s l)
    go (no l) = omega (arith, read-high a s (omega arith))
