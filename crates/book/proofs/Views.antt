-- Layout and view (specs/Layout.antt, specs/View.antt): what is laid out is the layout of the book that it gives, a book that fits is laid out and viewed
-- again, and what is viewed is the layout of a book that fits. Assumes nothing.
use Prim.Native.Nat.{ℕ, ◌≤◌}
use mathlib.Core.Path.{◌≡◌, refl, sym, ap, ap₂, subst, ◌∙◌}
use mathlib.Core.List.{List, [], ◌∷◌}
use mathlib.Core.Bool.{Bool, true, false, cond}
use Rattle.std.specs.Prelude.{Some, None}
use native.Mathlib.Omega.{arith}
use borrow.Author.Tests.{leb-true, le-leb}
use lib.Dec.{leb}
use lib.ListN.{length}
use Rattle.numbers.specs.Limits.{edit_limit, line_limit, node_limit, pool_limit}
use Rattle.lists.proofs.Tests.{both}
use Rattle.packing.specs.Padding.{pad}
use Rattle.lists.specs.Each.{every}
use Rattle.packing.specs.Tables.{packed, packs, rows}
use Rattle.packing.proofs.PaddingLaws.{length-pad}
use Rattle.packing.proofs.TableLaws.{length-rows}
use Rattle.packing.proofs.Packings.{Packs, packs_is, is_packs, packs-from, packs-rooms}
use Rattle.book.specs.declared.Counts.{Counts}
use Rattle.book.specs.Books.{Node, Edit, Book, book_frame, frame_with}
use Rattle.book.specs.Layout.{node_form, line_form, edit_form, Buffers, laid_out, counts_of, frame_of}
use Rattle.book.specs.Sanity.{edit_ok, line_ok, sane}
use Rattle.book.specs.View.{any_node, within_limits, laid, book_of, holds, view, Fits}
use Rattle.book.proofs.Forms.{node_laws, line_laws, edit_laws}

-- ---- the limits, as numbers
pub record Within (c : Counts) : Type 0 where
  pub nodes : c.nodes ≤ node_limit
  pub lines : c.lines ≤ line_limit
  pub pool : c.pool ≤ pool_limit
  pub edits : c.edits ≤ edit_limit

pub within_is : (c : Counts) → within_limits c ≡ true → Within c
unfolding within_limits
within_is c e =
    let x = both (leb c.nodes node_limit) _ e in
    let y = both (leb c.lines line_limit) _ x.1 in
    let z = both (leb c.pool pool_limit) _ y.1 in
    record { nodes = leb-true _ _ x.0; lines = leb-true _ _ y.0; pool = leb-true _ _ z.0; edits = leb-true _ _ z.1 }

pub is_within : (c : Counts) → Within c → within_limits c ≡ true
unfolding within_limits
is_within c w = rw (le-leb _ _ w.nodes, le-leb _ _ w.lines, le-leb _ _ w.pool) (le-leb _ _ w.edits)

-- ---- the layout of a book: three packings, within the limits
pub record Layout (c : Counts) (b : Buffers) (w : Book) : Type 0 where
  pub kind : c.kind ≡ w.kind
  pub limits : Within c
  pub nodes : Packs node_form any_node c.nodes c.names b.nodes b.names w.nodes
  pub lines : Packs line_form (line_ok (frame_of c)) c.lines c.pool b.lines b.pool w.lines
  pub edits : Packs edit_form edit_ok c.edits 0 b.journal [] w.edits

pub every-node : (xs : List Node) → every any_node xs ≡ true
unfolding every
every-node [] = refl
every-node (x ∷ xs) = every-node xs

pub no_bytes : (es : List Edit) → packed edit_form es ≡ []
unfolding packed edit_form
no_bytes [] = refl
no_bytes (e ∷ es) = no_bytes es

-- what passes the test `laid` is the layout of the book that it gives
pub laid-packs : (c : Counts) (b : Buffers) → laid c b ≡ true → Layout c b (book_of c b)
unfolding laid book_of
laid-packs c b e =
    let x = both (within_limits c) _ e in
    let y = both (packs node_form any_node c.nodes c.names b.nodes b.names) _ x.1 in
    let z = both (packs line_form (line_ok (frame_of c)) c.lines c.pool b.lines b.pool) _ y.1 in
    record {
      kind = refl;
      limits = within_is c x.0;
      nodes = packs_is node_laws y.0;
      lines = packs_is (line_laws (frame_of c)) z.0;
      edits = packs_is edit_laws z.1;
    }

module _ {c : Counts} {b : Buffers} {w : Book} (t : Layout c b w) where
  -- a layout passes the test, and gives its book again
  pub laid_from : (laid c b ≡ true) × (book_of c b ≡ w)
  unfolding laid book_of
  laid_from =
      let n = is_packs node_laws t.nodes in
      let l = is_packs (line_laws (frame_of c)) t.lines in
      let e = is_packs edit_laws t.edits in (
        rw (is_within c t.limits, n.0, l.0) e.0,
        λ i. record { kind = t.kind i; nodes = n.1 i; lines = l.1 i; edits = e.1 i },
      )

  -- its counts and its buffers are those of its book, which fits
  pub layout-counts : c ≡ counts_of w
  unfolding counts_of
  layout-counts = λ i. record {
    kind = t.kind i;
    nodes = t.nodes.count i;
    names = t.nodes.total i;
    lines = t.lines.count i;
    pool = t.lines.total i;
    edits = t.edits.count i;
  }

  pub layout-buffers : b ≡ laid_out b w
  unfolding laid_out
  layout-buffers = λ i. record {
    nodes = t.nodes.lined i;
    names = t.nodes.pooled i;
    lines = t.lines.lined i;
    pool = t.lines.pooled i;
    journal = t.edits.lined i;
  }

  pub layout-fits : Fits b w
  unfolding node_form line_form edit_form
  layout-fits = record {
    node_room = omega (arith, t.nodes.count, t.nodes.rowroom);
    name_room = omega (arith, t.nodes.total, t.nodes.byteroom);
    line_room = omega (arith, t.lines.count, t.lines.rowroom);
    pool_room = omega (arith, t.lines.total, t.lines.byteroom);
    edit_room = omega (arith, t.edits.count, t.edits.rowroom);
    few_nodes = omega (arith, t.nodes.count, t.limits.nodes);
    few_lines = omega (arith, t.lines.count, t.limits.lines);
    few_bytes = omega (arith, t.lines.total, t.limits.pool);
    few_edits = omega (arith, t.edits.count, t.limits.edits);
    lines_ok = ap₂ (λ (k n : ℕ). every (line_ok (frame_with k n)) w.lines) (sym t.kind) (sym t.nodes.count) ∙ t.lines.all;
    edits_ok = t.edits.all;
  }

module _ (c : Counts) (b : Buffers) (g : laid c b ≡ true) where
  pub laid-counts : c ≡ counts_of (book_of c b)
  laid-counts = layout-counts (laid-packs c b g)

  pub laid-buffers : b ≡ laid_out b (book_of c b)
  laid-buffers = layout-buffers (laid-packs c b g)

  pub laid-fits : Fits b (book_of c b)
  laid-fits = layout-fits (laid-packs c b g)

-- ---- buffers of the same lengths
pub record Rooms (b b' : Buffers) : Type 0 where
  pub nodes : length b.nodes ≡ length b'.nodes
  pub names : length b.names ≡ length b'.names
  pub lines : length b.lines ≡ length b'.lines
  pub pool : length b.pool ≡ length b'.pool
  pub journal : length b.journal ≡ length b'.journal

-- a layout depends on the lengths alone
pub laid_out_same : (b b' : Buffers) (w : Book) → Rooms b b' → laid_out b w ≡ laid_out b' w
unfolding laid_out
laid_out_same b b' w e = rw (e.nodes, e.names, e.lines, e.pool, e.journal)

pub fits_same : (b b' : Buffers) (w : Book) → Rooms b b' → Fits b w → Fits b' w
fits_same b b' w e f = record {
  node_room = rw (← e.nodes) f.node_room;
  name_room = rw (← e.names) f.name_room;
  line_room = rw (← e.lines) f.line_room;
  pool_room = rw (← e.pool) f.pool_room;
  edit_room = rw (← e.journal) f.edit_room;
  few_nodes = f.few_nodes;
  few_lines = f.few_lines;
  few_bytes = f.few_bytes;
  few_edits = f.few_edits;
  lines_ok = f.lines_ok;
  edits_ok = f.edits_ok;
}

-- ---- a book that fits
module _ (b : Buffers) (w : Book) (f : Fits b w) where
  pub fits-layout : Layout (counts_of w) (laid_out b w) w
  unfolding counts_of laid_out node_form line_form edit_form pad
  fits-layout = record {
    kind = refl;
    limits = record { nodes = f.few_nodes; lines = f.few_lines; pool = f.few_bytes; edits = f.few_edits };
    nodes = packs-rooms node_laws (length b.nodes) (length b.names) f.node_room f.name_room (every-node w.nodes);
    lines = packs-rooms (line_laws (book_frame w)) (length b.lines) (length b.pool) f.line_room f.pool_room f.lines_ok;
    edits = packs-from edit_laws (length b.journal) 0 refl
        (ap length (sym (no_bytes w.edits))) f.edits_ok refl (ap (pad 0) (sym (no_bytes w.edits))) f.edit_room (omega arith);
  }

  pub fits-laid : (laid (counts_of w) (laid_out b w) ≡ true) × (book_of (counts_of w) (laid_out b w) ≡ w)
  fits-laid = laid_from fits-layout

  -- the layout has the lengths of the buffers
  pub laid_out-rooms : Rooms (laid_out b w) b
  unfolding laid_out node_form line_form edit_form
  laid_out-rooms = record {
    nodes = length-pad _ (rows node_form 0 w.nodes) (rw (length-rows node_laws 0 w.nodes) f.node_room);
    names = length-pad _ (packed node_form w.nodes) f.name_room;
    lines = length-pad _ (rows line_form 0 w.lines) (rw (length-rows (line_laws (book_frame w)) 0 w.lines) f.line_room);
    pool = length-pad _ (packed line_form w.lines) f.pool_room;
    journal = length-pad _ (rows edit_form 0 w.edits) (rw (length-rows edit_laws 0 w.edits) f.edit_room);
  }

  -- a sane book that fits, laid out, is viewed again
  pub view_of_layout : sane w ≡ true → view (counts_of w) (laid_out b w) ≡ Some w
  unfolding view holds
  view_of_layout s = rw (fits-laid.0, fits-laid.1, s)

view_case : (c : Counts) (b : Buffers) (w : Book) (t : Bool) → holds c b ≡ t → cond t (Some (book_of c b)) None ≡ Some w
    → (holds c b ≡ true) × (book_of c b ≡ w)
view_case c b w true e q = (e, cc)
view_case c b w false e q = let z : ◌≡◌ {A = ℕ} 0 1 = cc in absurd (omega arith)

pub holds_of_view : (c : Counts) (b : Buffers) (w : Book) → view c b ≡ Some w → (holds c b ≡ true) × (book_of c b ≡ w)
unfolding view
holds_of_view c b w e = view_case c b w (holds c b) refl e

-- what is viewed is the layout of a sane book that fits
pub layout_of_view : (c : Counts) (b : Buffers) (w : Book) → view c b ≡ Some w → (c ≡ counts_of w) × (b ≡ laid_out b w) × Fits b w × (sane w ≡ true)
unfolding holds
layout_of_view c b w e =
    let h = holds_of_view c b w e in
    let g = both (laid c b) (sane (book_of c b)) h.0 in
    let t : Layout c b w = subst (Layout c b) h.1 (laid-packs c b g.0) in
    (layout-counts t, layout-buffers t, layout-fits t, ap sane (sym h.1) ∙ g.1)
