-- A part of a text, and the place behind a word of it. Assumes nothing.
use Rattle.std.specs.Prelude.{ℕ, ◌+◌, List, length, take, drop}

-- the part of the text s that starts at p and has n bytes
abbrev pub part : List ℕ → ℕ → ℕ → List ℕ
part s p n = take n (drop p s)

-- the place behind a word that stands at p
abbrev pub behind : List ℕ → ℕ → ℕ
behind word p = p + length word
