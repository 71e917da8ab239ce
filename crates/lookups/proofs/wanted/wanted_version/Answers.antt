-- `wanted_version` meets its contract, by the laws of LastNamed. Assumes nothing.
use Rattle.std.proofs.Common.{◌≡◌, length}
use native.Mathlib.Omega.{arith}
use Rattle.lookups.proofs.LastNamed.{wanted-empty, wanted-known}
use Rattle.lookups.proofs.wanted.wanted_version.Goals as goal

pub returns-then-is_empty : goal.returns-then-is_empty
returns-then-is_empty c = let e : length c.args.wanted.now ≡ 0 = grind (arith, c.if-is_empty.ensures) in search (wanted-empty, e)

pub returns : goal.returns
returns c = wanted-known _ _ (λ e. grind (arith, c.if-is_empty.ensures)) _ c.known_version.ensures
