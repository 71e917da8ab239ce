-- `longer` meets its contract. Its exit is stated of plain lists and numbers. Assumes nothing.
use Prim.Native.Nat.{ℕ, ◌+◌, ◌<◌}
use mathlib.Core.Path.{◌≡◌, ◌∙◌}
use mathlib.Core.List.{List}
use native.Mathlib.Nat.{add_assoc, add-zero}
use lib.ListN.{length, get_or}
use lib.Seq.{get_or-drop}
use Rattle.utf8.specs.Utf8.{starts, read}
use Rattle.utf8.specs.At.{placed, character_at}
use Rattle.utf8.specs.declared.Character.{Character}
use Rattle.utf8.proofs.Walk.{within}
use Rattle.utf8.proofs.longer.Goals as goal

at_many : (s : List ℕ) (at : ℕ) → at < length s → (r : Character) (a : ℕ) → a ≡ get_or s at 0
    → (b c d : ℕ) → b ≡ get_or s (at + 1) 0 → c ≡ get_or s (at + 2) 0 → d ≡ get_or s (at + 3) 0
    → r ≡ placed at (starts a b c d) → r ≡ character_at s at
unfolding read
at_many s at h r a i b c d j k l e = e ∙ simp (within s at h, get_or-drop, add_assoc, add-zero, i, j, k, l)

pub returns : goal.returns
returns c = search at_many
