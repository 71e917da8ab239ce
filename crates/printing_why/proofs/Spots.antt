-- Line and column of a place p (`position` of input) are p + 1 at most, and so they fit where the place's offset does. Assumes nothing.
use Prim.Native.Nat.{ℕ, zero, suc, ◌+◌, ◌-◌, ◌≤◌}
use mathlib.Core.Path.{◌≡◌, ap}
use mathlib.Core.List.{List, [], ◌∷◌}
use mathlib.Core.Bool.{Bool, true, false, cond}
use native.Mathlib.Omega.{arith}
use mir.Syntax.{w32}
use mir.Val.{Fits}
use lib.Dec.{eqb}
use Rattle.numbers.specs.Signs.{line_feed}
use Rattle.input.specs.declared.positions.Position.{Position}
use Rattle.input.specs.Positions.{past, position, position_from, start}

-- both are m at most
record Near (m : ℕ) (q : Position) : Type 0 where
  pub line : q.line ≤ m
  pub column : q.column ≤ m

near-past : (m : ℕ) (q : Position) (b : ℕ) → 1 ≤ m → Near m q → Near (m + 1) (past q b)
near-past m q b h k = go (eqb b line_feed)
  where
    go : (v : Bool) → Near (m + 1) (cond v (record { line = q.line + 1; column = 1 }) (record { line = q.line; column = q.column + 1 }))
    go true = record { line = omega (arith, k.line); column = omega arith }
    go false = record { line = omega (arith, k.line); column = omega (arith, k.column) }

near-later : (m k : ℕ) (q : Position) → m ≤ k → Near m q → Near k q
near-later m k q h z = record { line = omega (arith, z.line); column = omega (arith, z.column) }

near-from : (s : List ℕ) (p m : ℕ) (q : Position) → 1 ≤ m → Near m q → Near (m + p) (position_from q p s)
unfolding position_from
near-from s zero m q h k = near-later m (m + 0) q (omega arith) k
near-from [] (suc p) m q h k = near-later m (m + suc p) q (omega arith) k
near-from (b ∷ s) (suc p) m q h k =
    near-later (m + 1 + p) (m + suc p) (position_from (past q b) p s) (omega arith) (near-from s p (m + 1) (past q b) (omega arith) (near-past m q b h k))

near : (s : List ℕ) (p : ℕ) → Near (p + 1) (position s p)
unfolding position
near s p =
    let k : Near 1 start = record { line = omega arith; column = omega arith } in
    near-later (1 + p) (p + 1) (position_from start p s) (omega arith) (near-from s p 1 start (omega arith) k)

-- ---- of the place before an offset
module _ (s : List ℕ) (o : ℕ) (f : Fits w32 o) (q : Position) (e : q ≡ position s (o - 1)) where
  pub line-fits : Fits w32 q.line
  line-fits = omega (arith, (near s (o - 1)).line, ap (λ (q : Position). q.line) e)

  pub column_fits : Fits w32 q.column
  column_fits = omega (arith, (near s (o - 1)).column, ap (λ (q : Position). q.column) e)
