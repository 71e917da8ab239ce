-- An edit is made as what it asks: edit by edit. a is what it answered, b' what is left of the buffers b. Assumes nothing.
use Prim.Native.Nat.{ℕ}
use mathlib.Core.Path.{◌≡◌}
use mathlib.Core.List.{List}
use mathlib.Core.Bool.{Bool}
use Rattle.std.specs.Prelude.{Option, Result}
use lib.ListN.{drop}
use Rattle.book.specs.declared.Counts.{Counts}
use Rattle.book.specs.Books.{Book}
use Rattle.book.specs.Layout.{Buffers}
use Rattle.trial.specs.Changes.{Leaves}
use Rattle.trial.specs.Symbols.{symbol_asked}
use Rattle.trial.specs.Trial.{add_asked, settle_asked, strike_asked, undo_asked}
use Rattle.desk_commands.specs.declared.Edit.{Edit}
use Rattle.desk_commands.specs.declared.Edit.TheVariants as edit
use Rattle.desk.specs.Edits.{edit_asked}

module _ (b b' : Buffers) (w : Option Book) (t : List ℕ) (e : Edit) (a : Result Counts ℕ) where
  pub add_made : (node section language at : ℕ) (u : List ℕ) → e ≡ edit.Add node section language at → u ≡ drop at t
      → Leaves b (add_asked b w node section language u) a b' → Leaves b (edit_asked b w t e) a b'
  unfolding edit_asked
  add_made node section language at u g i p = rw (g, ← i) p

  pub strike_made : (line : ℕ) → e ≡ edit.Strike line → Leaves b (strike_asked b w line) a b' → Leaves b (edit_asked b w t e) a b'
  unfolding edit_asked
  strike_made line g p = rw g p

  pub undo_made : e ≡ edit.Undo → Leaves b (undo_asked w) a b' → Leaves b (edit_asked b w t e) a b'
  unfolding edit_asked
  undo_made g p = rw g p

  pub settle_made : e ≡ edit.Settle → Leaves b (settle_asked w) a b' → Leaves b (edit_asked b w t e) a b'
  unfolding edit_asked
  settle_made g p = rw g p

  pub symbol_made : (at : ℕ) (bare : Bool) (u : List ℕ) → e ≡ edit.Symbol at bare → u ≡ drop at t → Leaves b (symbol_asked b w u bare) a b'
      → Leaves b (edit_asked b w t e) a b'
  unfolding edit_asked
  symbol_made at bare u g i p = rw (g, ← i) p
