-- The answers to the symbols' lines of verlist's input, as 01 has them. Assumes nothing.
use Rattle.std.specs.Prelude.{ℕ, List, [], ◌∷◌, ◌++◌, Option}
use Rattle.book.specs.Books.{Book}
use Rattle.printing_symbols.specs.Lines.{symbol_answered}

-- the answers to lines, one behind the other
unfoldable pub answers : Option Book → List (List ℕ) → List ℕ
answers w [] = []
answers w (t ∷ ts) = symbol_answered w t ++ answers w ts
