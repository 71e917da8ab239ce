-- How long the shortest scripts of a name and of a parent are (specs/Sanity.antt). Assumes nothing.
use Prim.Native.Nat.{ℕ, ◌+◌, ◌*◌}
use mathlib.Core.Path.{◌≡◌, ◌∙◌}
use mathlib.Core.List.{List, []}
use native.Mathlib.Omega.{arith}
use lib.ListN.{length, length-append}
use Rattle.book.specs.Sanity.{name_script, parent_script, spelled}

pub spelled-length : (t u : List ℕ) → length (spelled t u) ≡ length t + length u + 3
spelled-length t u = simp length-append (omega arith)

pub name-length : (t : List ℕ) → length (name_script t) ≡ length t + 3
name-length t = spelled-length t [] ∙ omega arith

pub parent-length : (t u : List ℕ) → length (parent_script t u) ≡ 2 * length u + length t + 6
parent-length t u = length-append (spelled u []) (spelled t u) ∙ omega (arith, spelled-length u [], spelled-length t u)
