-- A book in buffers while its text is read (specs/State.antt): what `built` says, as numbers and packings, and the other way round. Assumes nothing.
use Prim.Native.Nat.{ℕ, ◌*◌, ◌≤◌, ◌<◌}
use mathlib.Core.Path.{◌≡◌, refl, ap}
use mathlib.Core.List.{List, []}
use mathlib.Core.Bool.{true}
use native.Mathlib.Omega.{arith}
use borrow.Author.Tests.{le-leb, leb-true, lt-ltb, ltb-true}
use lib.Dec.{leb, ltb}
use Rattle.numbers.specs.Limits.{line_limit, node_limit, pool_limit, script_limit}
use Rattle.lists.proofs.Tests.{both}
use Rattle.packing.specs.Padding.{pad}
use Rattle.lists.specs.Each.{every}
use Rattle.packing.specs.Tables.{packed, rows, things}
use Rattle.packing.proofs.Packings.{Packs}
use Rattle.book.specs.Books.{Node, Line, Book, regular}
use Rattle.book.specs.Layout.{edit_form, five, frame_of, line_form, node_form}
use Rattle.book.specs.Sanity.{edit_ok, line_ok}
use Rattle.book.specs.View.{any_node, book_of}
use Rattle.book.proofs.Views.{Layout, laid_from, laid-packs}
use Rattle.book_building.specs.declared.Progress.{Progress}
use Rattle.book_building.specs.Building.{Building}
use Rattle.book_building.specs.State.{building, built, counts_so_far}

-- ---- what is there so far, as numbers and packings
pub record Few (g : Progress) : Type 0 where
  pub some : 0 < g.nodes
  pub names : g.names ≤ script_limit * g.nodes
  pub nodes : g.nodes ≤ node_limit
  pub lines : g.lines ≤ line_limit
  pub pool : g.pool ≤ pool_limit

pub record State (g : Progress) (n m l q : List ℕ) (xs : List Node) (ys : List Line) : Type 0 where
  pub few : Few g
  pub nodes : Packs node_form any_node g.nodes g.names n m xs
  pub lines : Packs line_form (line_ok (frame_of (counts_so_far g))) g.lines g.pool l q ys

-- the book so far
abbrev pub book_so_far : List Node → List Line → Progress → Building
book_so_far xs ys g = record { nodes = xs; lines = ys; inside = g.inside; mixed = g.mixed; starred = g.starred }

no_edits : Packs edit_form edit_ok 0 0 [] [] []
unfolding edit_form packed rows pad every
no_edits = record { count = refl; total = refl; lined = refl; pooled = refl; all = refl; rowroom = omega arith; byteroom = omega arith }

module _ (g : Progress) (n m l q : List ℕ) where
  abbrev pub nodes_of : List Node
  nodes_of = things node_form g.nodes n m

  abbrev pub lines_of : List Line
  lines_of = things line_form g.lines l q

  pub building_is : building g (five n m l q []) ≡ book_so_far nodes_of lines_of g
  unfolding building book_of
  building_is = refl

  pub is_state : built g (five n m l q []) ≡ true → State g n m l q nodes_of lines_of
  unfolding built book_of
  is_state e =
      let a = both (ltb 0 g.nodes) _ e in
      let b = both (leb g.names (script_limit * g.nodes)) _ a.1 in
      let t = laid-packs (counts_so_far g) (five n m l q []) b.1 in
      record {
        few = record {
          some = ltb-true _ _ a.0;
          names = leb-true _ _ b.0;
          nodes = t.limits.nodes;
          lines = t.limits.lines;
          pool = t.limits.pool;
        };
        nodes = t.nodes;
        lines = t.lines;
      }

  pub state_is : (xs : List Node) (ys : List Line) → State g n m l q xs ys
      → (building g (five n m l q []) ≡ book_so_far xs ys g) × (built g (five n m l q []) ≡ true)
  unfolding built building
  state_is xs ys s =
      let w : Book = record { kind = regular; nodes = xs; lines = ys; edits = [] } in
      let t : Layout (counts_so_far g) (five n m l q []) w = record {
        kind = refl;
        limits = record { nodes = s.few.nodes; lines = s.few.lines; pool = s.few.pool; edits = omega arith };
        nodes = s.nodes;
        lines = s.lines;
        edits = no_edits;
      } in
      let f = laid_from t in (
        ap (λ (v : Book). book_so_far v.nodes v.lines g) f.1,
        rw (lt-ltb 0 g.nodes s.few.some, le-leb g.names (script_limit * g.nodes) s.few.names) f.0,
      )
