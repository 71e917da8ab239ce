-- A list read from the left, piece by piece: the bytes of a text as characters, the characters of a pattern as elements, those of a bracket as members.
-- A reader says of a first item, with the items behind it, what the piece is that starts there, how many items more it takes, and whether it is well formed.
-- It answers at every item, so that a list always has pieces; whether each of them is well formed is asked apart.
-- Assumes nothing.
use Rattle.std.specs.Prelude.{ℕ, zero, suc, ◌+◌, List, [], ◌∷◌, Bool, true, ◌&&◌, get_or, drop}

pub record Piece (B : Type 0) : Type 0 where
  pub what : B
  pub more : ℕ
  pub good : Bool

-- a well formed piece that takes k items more
abbrev pub piece : {B : Type 0} → B → ℕ → Piece B
piece b k = record { what = b; more = k; good = true }

abbrev pub Reader : Type 0 → Type 0 → Type 0
Reader A B = A → List A → Piece B

-- the pieces of s behind its first k items
unfoldable pub pieces_past : {A B : Type 0} → Reader A B → ℕ → List A → List B
pieces_past read k [] = []
pieces_past read (suc k) (a ∷ s) = pieces_past read k s
pieces_past read zero (a ∷ s) = (read a s).what ∷ pieces_past read (read a s).more s

-- the pieces of s
unfoldable pub pieces : {A B : Type 0} → Reader A B → List A → List B
pieces read s = pieces_past read 0 s

-- whether each piece of s behind its first k items is well formed
unfoldable pub sound_past : {A B : Type 0} → Reader A B → ℕ → List A → Bool
sound_past read k [] = true
sound_past read (suc k) (a ∷ s) = sound_past read k s
sound_past read zero (a ∷ s) = (read a s).good && sound_past read (read a s).more s

-- whether each piece of s is well formed
unfoldable pub sound : {A B : Type 0} → Reader A B → List A → Bool
sound read s = sound_past read 0 s

-- the piece that starts at a position within s; `d` stands for an item past the end
abbrev pub piece_at : {A B : Type 0} → Reader A B → A → List A → ℕ → Piece B
piece_at read d s at = read (get_or s at d) (drop (at + 1) s)
