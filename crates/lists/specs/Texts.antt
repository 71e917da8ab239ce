-- Quoted texts as lists of character numbers: the words that the desk reads, what is printed, and tables of known points. Assumes nothing.
use Rattle.std.specs.Prelude.{ℕ, List, [], ◌∷◌}
use Prim.Native.Char.{code}
use Prim.Native.String.{String, [] as none, ◌∷◌ as ◌then◌}

unfoldable pub codes : String → List ℕ
codes none = []
codes (c then s) = code c ∷ codes s
