-- Line and column of a place in a text, for a person: both from 1 on, the column in bytes. What is refused is told so on standard error, and `why` tells the
-- place of a line. Assumes nothing.
use Rattle.std.specs.Prelude.{ℕ, zero, suc, ◌+◌, List, [], ◌∷◌, cond, eqb}
use Rattle.numbers.specs.Signs.{line_feed}
use Rattle.input.specs.declared.positions.Position.{Position}

abbrev pub start : Position
start = record { line = 1; column = 1 }

-- behind a byte
abbrev pub past : Position → ℕ → Position
past q b = cond (eqb b line_feed) (record { line = q.line + 1; column = 1 }) (record { line = q.line; column = q.column + 1 })

-- p bytes into a text, from q on; behind its last byte no further
unfoldable pub position_from : Position → ℕ → List ℕ → Position
position_from q zero s = q
position_from q (suc p) [] = q
position_from q (suc p) (b ∷ s) = position_from (past q b) p s

unfoldable pub position : List ℕ → ℕ → Position
position s p = position_from start p s
