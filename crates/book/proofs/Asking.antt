-- The question that every function asks first, whether lent buffers and counts hold a book, and what a book that is held gives. The Bool that is named x is
-- what was answered, and the code asked whether it is not. Assumes nothing.
use Prim.Native.Nat.{◌≤◌}
use mathlib.Core.Path.{◌≡◌, sym, ◌∙◌}
use mathlib.Core.Bool.{Bool, true, false, not}
use Rattle.std.specs.Prelude.{Some, None}
use borrow.Author.Tests.{not-true, not-false}
use lib.ListN.{length}
use Rattle.numbers.specs.Limits.{node_limit}
use Rattle.lists.proofs.Tests.{both}
use Rattle.lists.specs.Each.{every}
use Rattle.packing.specs.Tables.{packs}
use Rattle.packing.proofs.Packings.{is_packs}
use Rattle.book.specs.declared.Counts.{Counts}
use Rattle.book.specs.Books.{Book, book_frame}
use Rattle.book.specs.Layout.{node_form, line_form, Buffers, frame_of}
use Rattle.book.specs.Sanity.{in_range, line_ok, sane}
use Rattle.book.specs.View.{any_node, laid, book_of, holds, view}
use Rattle.book.proofs.Forms.{node_laws, line_laws}
use Rattle.book.proofs.LineRows.{lines_in-range}
use Rattle.book.proofs.Views.{laid-packs, layout_of_view}

-- what a book that is held gives: what is viewed, its packings, how many nodes it has, and that it is sane
pub record Held (c : Counts) (b : Buffers) : Type 0 where
  pub viewed : view c b ≡ Some (book_of c b)
  pub nodes : packs node_form any_node c.nodes c.names b.nodes b.names ≡ true
  pub lines : packs line_form (line_ok (frame_of c)) c.lines c.pool b.lines b.pool ≡ true
  pub few : c.nodes ≤ node_limit
  pub count : length (book_of c b).nodes ≡ c.nodes
  pub good : sane (book_of c b) ≡ true

pub held-book : (c : Counts) (b : Buffers) → holds c b ≡ true → Held c b
unfolding view holds book_of
held-book c b e =
    let g = both (laid c b) (sane (book_of c b)) e in
    let t = laid-packs c b g.0 in
    record {
      viewed = rw (g.0, g.1);
      nodes = (is_packs node_laws t.nodes).0;
      lines = (is_packs (line_laws (frame_of c)) t.lines).0;
      few = t.limits.nodes;
      count = sym t.nodes.count;
      good = g.1;
    }

module _ (c : Counts) (b : Buffers) (x : Bool) (e : x ≡ holds c b) where
  -- no book
  pub asked_none : not x ≡ true → view c b ≡ None
  unfolding view
  asked_none h = rw (← e, not-true x h)

  -- a book
  pub asked-held : not x ≡ false → Held c b
  asked-held h = held-book c b (sym e ∙ not-false x h)

-- the lines of a book that is viewed are in range
pub viewed-in_range : (c : Counts) (b : Buffers) (w : Book) → view c b ≡ Some w → every (in_range (length w.nodes)) w.lines ≡ true
viewed-in_range c b w e = lines_in-range (book_frame w) w.lines (layout_of_view c b w e).2.lines_ok
