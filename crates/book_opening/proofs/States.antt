-- A book in buffers while its text is read: where it starts, and the counts and the layout at its end. Assumes nothing.
use Prim.Native.Nat.{ℕ, suc, ◌-◌, ◌≤◌}
use mathlib.Core.Path.{◌≡◌, refl, ap, ◌∙◌}
use mathlib.Core.List.{List, [], ◌∷◌}
use mathlib.Core.Bool.{true, false}
use native.Mathlib.Omega.{arith}
use lib.ListN.{length}
use Rattle.packing.specs.Padding.{pad, zeros}
use Rattle.lists.specs.Each.{every}
use Rattle.packing.specs.Tables.{packed, rows}
use Rattle.packing.proofs.PaddingLaws.{pad-nil}
use Rattle.packing.proofs.Packings.{packs-from}
use Rattle.reading_cursors.specs.declared.places.Place.{Place}
use Rattle.book.specs.declared.Counts.{Counts}
use Rattle.book.specs.Books.{frame_with, no_node, regular}
use Rattle.book.specs.Layout.{counts_of, laid_out, line_form, node_form, node_width}
use Rattle.book.specs.View.{book_of}
use Rattle.book.proofs.Forms.{line_laws, node_laws}
use Rattle.book_building.specs.declared.Progress.{Progress}
use Rattle.book_building.specs.State.{Clear, building, built, four}
use Rattle.book_building.proofs.States.{State, is_state, state_is}
use Rattle.book_opening.specs.Opening.{finished, kind_of, nothing_yet}

-- ---- nothing is there but node 0, in cleared buffers
abbrev pub none_yet : Progress
none_yet = record { nodes = 1; names = 0; lines = 0; pool = 0; inside = false; mixed = false; starred = false }

zero_row : (n : List ℕ) → n ≡ zeros (length n) → 3 ≤ length n → n ≡ pad (length n) (0 ∷ 0 ∷ 0 ∷ [])
unfolding pad
zero_row n e h = e ∙ go (length n) h
  where
    go : (k : ℕ) → 3 ≤ k → zeros k ≡ pad k (0 ∷ 0 ∷ 0 ∷ [])
    go k j = let z : k ≡ suc (suc (suc (k - 3))) = omega arith in ap zeros z

module _ (n m l q : List ℕ) (a : Clear n) (b : Clear m) (c : Clear l) (d : Clear q) (h : node_width ≤ length n) where
  pub starts : State none_yet n m l q (no_node ∷ []) []
  unfolding node_form line_form rows packed every
  starts = record {
    few = record { some = omega arith; names = omega arith; nodes = omega arith; lines = omega arith; pool = omega arith };
    nodes = packs-from node_laws (length n) (length m) refl refl refl (zero_row n a h) (b ∙ pad-nil (length m)) h (omega arith);
    lines = packs-from (line_laws (frame_with regular 1)) (length l) (length q) refl refl refl
        (c ∙ pad-nil (length l)) (d ∙ pad-nil (length q)) (omega arith) (omega arith);
  }

  pub starts-built : (building none_yet (four n m l q) ≡ nothing_yet) × (built none_yet (four n m l q) ≡ true)
  unfolding nothing_yet
  starts-built = state_is none_yet n m l q (no_node ∷ []) [] starts

-- ---- the end
module _ (place : Place) (g : Progress) (n m l q : List ℕ) (e : built g (four n m l q) ≡ true) where
  pub finished-counts : (r : Counts)
      → r ≡ record {
        kind = kind_of place g.nodes g.starred g.mixed;
        nodes = g.nodes;
        names = g.names;
        lines = g.lines;
        pool = g.pool;
        edits = 0;
      }
      → r ≡ counts_of (finished place (building g (four n m l q)))
  unfolding counts_of building book_of
  finished-counts r k =
      let t = is_state g n m l q e in
      k ∙ (λ i. record {
        kind = kind_of place (t.nodes.count i) g.starred g.mixed;
        nodes = t.nodes.count i;
        names = t.nodes.total i;
        lines = t.lines.count i;
        pool = t.lines.total i;
        edits = 0;
      })

  pub finished-layout : four n m l q ≡ laid_out (four n m l q) (finished place (building g (four n m l q)))
  unfolding laid_out building book_of pad rows
  finished-layout =
      let t = is_state g n m l q e in
      λ i. record { nodes = t.nodes.lined i; names = t.nodes.pooled i; lines = t.lines.lined i; pool = t.lines.pooled i; journal = [] }
