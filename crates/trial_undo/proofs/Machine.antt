-- The types of counts and of what undo makes of them, and their machine values and a slice's, for the walks of `undo` and `undo_lent`. Assumes nothing.
use Prim.Native.Nat.{ℕ}
use mathlib.Core.List.{List}
use lib.ListN.{length}
use mir.Syntax.{w32}
use mir.Val.{Val, vint, vstruct, vnil, vcons}
use denote.RattleType.{RattleType}
use denote.Ref.{Bor}
use denote.Slice.{slice_val}
use Rattle.book.specs.declared.Counts.{Counts}
use Rattle.book.specs.contracts.Counts as T
use Rattle.trial_undo.specs.declared.Undone.{Undone}
use Rattle.trial_undo.specs.contracts.Undone as U

abbrev pub R : RattleType
R = T.the_row

abbrev pub Q : RattleType
Q = U.the_row

abbrev pub mach : Counts → Val
mach h =
    vstruct
    (vcons (vint w32 h.kind)
    (vcons (vint w32 h.nodes)
    (vcons (vint w32 h.names) (vcons (vint w32 h.lines) (vcons (vint w32 h.pool) (vcons (vint w32 h.edits) vnil))))))

abbrev pub whole_mach : Undone → Val
whole_mach u = vstruct (vcons (mach u.counts) (vcons (vint w32 u.number) vnil))

abbrev pub slice : Bor (List ℕ) → Val
slice x = slice_val x.ref_ptr (length x.now)

-- five slices, and their machine values
abbrev pub Slices : Type 0
Slices = Bor (List ℕ) × (Bor (List ℕ) × (Bor (List ℕ) × (Bor (List ℕ) × (Bor (List ℕ) × Unit {0}))))

abbrev pub Values : Type 0
Values = List Val × (List Val × (List Val × (List Val × (List Val × Unit {0}))))
