-- The cursors at which a reading of a text can stand: those at its start and behind each of its events are such (proofs/Onward.antt). At them each event
-- moves on, and a refusal's place is one of the text. What specs/Refusing.antt says of a step asks none of this: it holds at every cursor.
-- Assumes nothing.
use Rattle.std.specs.Prelude.{ℕ, ◌+◌, ◌≤◌, ◌≡◌, List, true, false, length}
use Rattle.reading_cursors.specs.declared.Cursor.{Cursor}
use Rattle.reading_cursors.specs.Places.{is_behind}
use Rattle.reading.specs.Rules.{symbol_start}

-- a text of `add_symbol` is read from its first byte, wherever the cursor stands: at its start it stands there
abbrev pub Fresh : Cursor → Type 0
Fresh c = symbol_start c.place ≡ true → c.at ≡ 0

-- past the text it stands only where nothing more is read
pub record Standing (s : List ℕ) (c : Cursor) : Type 0 where
  pub fresh : Fresh c
  pub within : c.at ≤ length s + 1
  pub inside : is_behind c.place ≡ false → c.at ≤ length s
