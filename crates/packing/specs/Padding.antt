-- A buffer of a given room that holds a list at its front and zeros behind it. Bytes and rows of numbers are both lists of numbers. Assumes nothing.
use Rattle.std.specs.Prelude.{ℕ, ◌-◌, List, ◌++◌, Bool, eqb, length, replicate}
use Rattle.lists.specs.Each.{every}

abbrev pub zeros : ℕ → List ℕ
zeros n = replicate n 0

-- a buffer that is cleared
abbrev pub zeroed : List ℕ → List ℕ
zeroed l = zeros (length l)

-- "the rest is zero"
unfoldable pub pad : ℕ → List ℕ → List ℕ
pad room xs = xs ++ zeros (room - length xs)

unfoldable pub all_zero : List ℕ → Bool
all_zero l = every (λ x. eqb x 0) l
