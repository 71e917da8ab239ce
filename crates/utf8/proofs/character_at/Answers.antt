-- `character_at` meets its contract. Each exit is stated of plain lists and numbers. Assumes nothing.
use Prim.Native.Nat.{ℕ, ◌<◌, ◌≤◌}
use mathlib.Core.Path.{◌≡◌, ◌∙◌}
use mathlib.Core.List.{List}
use borrow.Author.Tests.{le-ltb}
use lib.ListN.{length, get_or}
use Rattle.utf8.specs.Utf8.{character}
use Rattle.utf8.specs.At.{placed, nothing, character_at}
use Rattle.utf8.specs.declared.Character.{Character}
use Rattle.utf8.proofs.Walk.{within, read_ascii}
use Rattle.utf8.proofs.character_at.Goals as goal

at_end : (s : List ℕ) (at : ℕ) → length s ≤ at → nothing at ≡ character_at s at
unfolding character_at
at_end s at h = rw (le-ltb at (length s) h)

at_ascii : (s : List ℕ) (at : ℕ) → at < length s → (r : Character) (a : ℕ) → a ≡ get_or s at 0 → a < 0x80 → r ≡ placed at (character a 0)
    → r ≡ character_at s at
at_ascii s at h r a i l e = e ∙ rw (within s at h, ← i, read_ascii a _ l)

pub returns-then-s-at : goal.returns-then-s-at
returns-then-s-at c = search at_end

pub returns-then-a-lt128 : goal.returns-then-a-lt128
returns-then-a-lt128 c = search at_ascii
