-- Each call of a history leads from desk to desk, and so does a history. Assumes nothing.
use mathlib.Core.Path.{◌≡◌}
use mathlib.Core.List.{List, [], ◌∷◌}
use mathlib.Core.Bool.{false, cond}
use lib.Dec.{eqb}
use Rattle.book.specs.Books.{Book, book_frame, edition_of, rust}
use Rattle.book.specs.Layout.{Buffers}
use Rattle.histories.specs.Histories.{Call, adds, adds_symbol, strikes, undoes, settles, Lent, Desk, answer, change, follow, history, leads, lent_after, run}
use Rattle.histories.proofs.Calls.{Held, Leads, add-leads, held_on, rooms, seen, settle-leads, strike-leads, undo-leads}
use Rattle.histories.proofs.SymbolLines.{symbol-leads}

module _ (b : Buffers) (w : Book) (k : eqb w.kind rust ≡ false) where
  pub change-leads : (d : Desk) (x : Lent) → Held b w d x → (c : Call) → Leads b w (follow (edition_of (book_frame w)) d c) (change x c)
  unfolding change follow
  change-leads d x h (adds node section language s) =
      rw (seen b w d x h) (add-leads x.buffers b (rooms b w d x h) w k d h.edits h.sound node section language s)
  change-leads d x h (strikes i) = rw (seen b w d x h) (strike-leads x.buffers b (rooms b w d x h) w k d h.edits h.sound i)
  change-leads d x h undoes = rw (seen b w d x h) (undo-leads b w d.moment h.sound.trail)
  change-leads d x h settles = rw (seen b w d x h) (settle-leads x.buffers b (rooms b w d x h) w k d h.edits h.sound)
  change-leads d x h (adds_symbol s bare) = rw (seen b w d x h) (symbol-leads x.buffers b (rooms b w d x h) w k s bare d h.edits h.sound)

  pub held_after : (d : Desk) (x : Lent) → Held b w d x → (c : Call)
      → Held b w (cond (eqb (answer x c) 0) (follow (edition_of (book_frame w)) d c) d) (lent_after x c)
  unfolding answer lent_after
  held_after d x h c = held_on b w d x h (follow (edition_of (book_frame w)) d c) (change x c) (change-leads d x h c)

  pub held-run : (cs : List Call) (d : Desk) (x : Lent) → Held b w d x → Held b w (leads (edition_of (book_frame w)) d (history x cs)) (run x cs)
  unfolding leads history run
  held-run [] d x h = h
  held-run (c ∷ cs) d x h = held-run cs (cond (eqb (answer x c) 0) (follow (edition_of (book_frame w)) d c) d) (lent_after x c) (held_after d x h c)
