-- What the code answers at a place of a text. Assumes nothing.
use Rattle.std.specs.Prelude.{ℕ, ◌+◌, List, false, cond, length, ltb}
use Rattle.lists.specs.Pieces.{Piece, piece_at}
use Rattle.utf8.specs.Utf8.{read}
use Rattle.utf8.specs.declared.Character.{Character}

-- a piece that starts at a place, with the place behind it
abbrev pub placed : ℕ → Piece ℕ → Character
placed at p = record { number = p.what; next = at + (1 + p.more); good = p.good }

-- at the end, and past it, there is nothing: U+FFFD, and no place further on
abbrev pub nothing : ℕ → Character
nothing at = record { number = 0xFFFD; next = at; good = false }

unfoldable pub character_at : List ℕ → ℕ → Character
character_at s at = cond (ltb at (length s)) (placed at (piece_at read 0 s at)) (nothing at)
