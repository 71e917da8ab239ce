-- What is put for an edit that is done: edit by edit. o is the buffer that was lent for it, l what it is then, and k how many bytes were put. Assumes nothing.
use Prim.Native.Nat.{ℕ, ◌-◌}
use mathlib.Core.Path.{◌≡◌}
use mathlib.Core.List.{List}
use mathlib.Core.Bool.{Bool}
use Rattle.lists.specs.Texts.{codes}
use Rattle.book.specs.declared.Counts.{Counts}
use Rattle.printing.specs.Printing.{numbered}
use Rattle.printing.proofs.Pieces.{Begins, Puts, begins}
use Rattle.desk_commands.specs.declared.Edit.{Edit}
use Rattle.desk_commands.specs.declared.Edit.TheVariants as edit
use Rattle.desk.specs.Edits.{done_said}

module _ (c d : Counts) (e : Edit) (o l : List ℕ) (k : ℕ) where
  pub add-said : (node section language at : ℕ) → e ≡ edit.Add node section language at → Begins o (numbered (codes "added") c.lines) l k
      → Begins o (done_said c d e) l k
  unfolding done_said
  add-said node section language at g p = rw g p

  pub strike-said : (line : ℕ) → e ≡ edit.Strike line → Begins o (numbered (codes "struck") line) l k → Begins o (done_said c d e) l k
  unfolding done_said
  strike-said line g p = rw g p

  pub undo-said : (t : List ℕ) → e ≡ edit.Undo → Puts o 0 t l k → t ≡ done_said c d edit.Undo → Begins o (done_said c d e) l k
  undo-said t g p i = rw (g, ← i) (begins o t p)

  pub settle-said : e ≡ edit.Settle → Begins o (numbered (codes "settled") d.lines) l k → Begins o (done_said c d e) l k
  unfolding done_said
  settle-said g p = rw g p

  pub symbol-said : (at : ℕ) (bare : Bool) (n : ℕ) → e ≡ edit.Symbol at bare → n ≡ d.lines - c.lines → Begins o (numbered (codes "added") n) l k
      → Begins o (done_said c d e) l k
  unfolding done_said
  symbol-said at bare n g i p = rw (g, ← i) p
