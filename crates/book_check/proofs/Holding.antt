-- What each exit of the four functions that ask for a book answers of `within_limits`, `laid`, `kind_good` and `holds`, and what their callees ask.
-- A Bool that is named x, y or z is what a function answered of a test, and the code asked whether it is not. Assumes nothing.
use Prim.Native.Nat.{ℕ, ◌*◌, ◌≤◌, ◌<◌}
use mathlib.Core.Path.{◌≡◌, sym, ◌∙◌}
use mathlib.Core.List.{List, []}
use mathlib.Core.Bool.{Bool, true, false, not, and-false}
use borrow.Author.Tests.{le-leb, lt-leb, eq-eqb, ne_eqb, not-true, not-false}
use lib.Dec.{eqb, leb}
use lib.ListN.{length}
use Rattle.numbers.specs.Limits.{edit_limit, line_limit, node_limit, pool_limit}
use Rattle.packing.specs.Tables.{packs, things}
use Rattle.packing.proofs.Packings.{is_packs}
use Rattle.book.specs.declared.Counts.{Counts}
use Rattle.book.specs.declared.Frame.{Frame}
use Rattle.book.specs.Books.{regular, rust, export}
use Rattle.book.specs.Edits.{journal_fits}
use Rattle.book.specs.Layout.{node_form, line_form, line_width, edit_form, five, frame_of}
use Rattle.book.specs.Sanity.{edit_ok, line_ok, nodes_good, kind_good, some_star, sane}
use Rattle.book.specs.View.{any_node, within_limits, laid, book_of, holds}
use Rattle.book.proofs.Forms.{node_laws}
use Rattle.book.proofs.Views.{laid-packs}

fails : (x t : Bool) → x ≡ t → not x ≡ true → t ≡ false
fails x t e h = sym e ∙ not-true x h

passes : (x t : Bool) → x ≡ t → not x ≡ false → t ≡ true
passes x t e h = sym e ∙ not-false x h

-- ---- is_within_limits
module _ (c : Counts) where
  pub nodes-over : node_limit < c.nodes → false ≡ within_limits c
  unfolding within_limits
  nodes-over h = rw (lt-leb c.nodes node_limit h)

  pub lines-over : line_limit < c.lines → false ≡ within_limits c
  unfolding within_limits
  lines-over h = simp (lt-leb c.lines line_limit h, and-false)

  pub pool-over : pool_limit < c.pool → false ≡ within_limits c
  unfolding within_limits
  pool-over h = simp (lt-leb c.pool pool_limit h, and-false)

  pub edits_decide : c.nodes ≤ node_limit → c.lines ≤ line_limit → c.pool ≤ pool_limit → leb c.edits edit_limit ≡ within_limits c
  unfolding within_limits
  edits_decide g h i = rw (le-leb c.nodes node_limit g, le-leb c.lines line_limit h, le-leb c.pool pool_limit i)

-- ---- is_laid
module _ (c : Counts) (n m l p j : List ℕ) (x : Bool) (e : x ≡ within_limits c) where
  pub limits_fail : not x ≡ true → false ≡ laid c (five n m l p j)
  unfolding laid
  limits_fail h = rw (fails x _ e h)

  module _ (h : not x ≡ false) (y : Bool) (f : y ≡ packs node_form any_node c.nodes c.names n m) where
    pub nodes_fail : not y ≡ true → false ≡ laid c (five n m l p j)
    unfolding laid
    nodes_fail i = rw (passes x _ e h, fails y _ f i)

    module _ (i : not y ≡ false) (frame : Frame) (u : frame ≡ frame_of c) (z : Bool)
        (g : z ≡ packs line_form (line_ok frame) c.lines c.pool l p) where
      pub lines_fail : not z ≡ true → false ≡ laid c (five n m l p j)
      unfolding laid
      lines_fail k = rw (passes x _ e h, passes y _ f i, fails z _ (rw u at g) k)

      pub journal_decides : not z ≡ false → (r : Bool) → r ≡ packs edit_form edit_ok c.edits 0 j [] → r ≡ laid c (five n m l p j)
      unfolding laid
      journal_decides k r q = rw (passes x _ e h, passes y _ f i, passes z _ (rw u at g) k) q

-- ---- is_kind_good
module _ (c : Counts) (n m l p j : List ℕ) (g : laid c (five n m l p j) ≡ true) where
  nodes-count : length (book_of c (five n m l p j)).nodes ≡ c.nodes
  nodes-count = sym (laid-packs c (five n m l p j) g).nodes.count

  edits-count : length (book_of c (five n m l p j)).edits ≡ c.edits
  edits-count = sym (laid-packs c (five n m l p j) g).edits.count

  pub lines-room : line_width * c.lines ≤ length l
  unfolding line_form
  lines-room = (laid-packs c (five n m l p j) g).lines.rowroom

  pub journal-room : 2 * c.edits ≤ length j
  unfolding edit_form
  journal-room = (laid-packs c (five n m l p j) g).edits.rowroom

  pub regular-passes : c.kind ≡ regular → true ≡ kind_good (book_of c (five n m l p j))
  unfolding kind_good book_of
  regular-passes h = rw (eq-eqb c.kind regular h)

  module _ (h : c.kind ≡ regular → ⊥) where
    pub more_nodes : (c.nodes ≡ 1 → ⊥) → false ≡ kind_good (book_of c (five n m l p j))
    unfolding kind_good book_of
    more_nodes i = rw (ne_eqb c.kind regular h, nodes-count, ne_eqb c.nodes 1 i)

    pub rust-edited : c.kind ≡ rust → (c.edits ≡ 0 → ⊥) → false ≡ kind_good (book_of c (five n m l p j))
    unfolding kind_good book_of
    rust-edited k o =
        rw (ne_eqb c.kind regular h, nodes-count, eq-eqb c.kind rust k, edits-count, ne_eqb c.edits 0 o, and-false (eqb c.nodes 1))

    module _ (i : c.nodes ≡ 1) where
      pub star_decides : c.kind ≡ rust → c.edits ≡ 0 → (r : Bool) → r ≡ some_star (things line_form c.lines l p)
          → r ≡ kind_good (book_of c (five n m l p j))
      unfolding kind_good book_of
      star_decides k o r q = rw (ne_eqb c.kind regular h, nodes-count, eq-eqb c.nodes 1 i, eq-eqb c.kind rust k, edits-count, eq-eqb c.edits 0 o) q

      pub export_decides : (c.kind ≡ rust → ⊥) → eqb c.kind export ≡ kind_good (book_of c (five n m l p j))
      unfolding kind_good book_of
      export_decides k = rw (ne_eqb c.kind regular h, nodes-count, eq-eqb c.nodes 1 i, ne_eqb c.kind rust k)

-- ---- is_book
module _ (c : Counts) (n m l p j : List ℕ) (x : Bool) (e : x ≡ laid c (five n m l p j)) where
  pub laid-fails : not x ≡ true → false ≡ holds c (five n m l p j)
  unfolding holds
  laid-fails h = rw (fails x _ e h)

  module _ (h : not x ≡ false) where
    pub asks-laid : laid c (five n m l p j) ≡ true
    asks-laid = passes x _ e h

    pub asks-nodes : packs node_form any_node c.nodes c.names n m ≡ true
    asks-nodes = (is_packs node_laws (laid-packs c (five n m l p j) asks-laid).nodes).0

    pub asks-journal : (line_width * c.lines ≤ length l) × (2 * c.edits ≤ length j) × (c.lines ≤ line_limit)
    asks-journal = (lines-room c n m l p j asks-laid, journal-room c n m l p j asks-laid, (laid-packs c (five n m l p j) asks-laid).limits.lines)

    module _ (y : Bool) (f : y ≡ nodes_good (things node_form c.nodes n m)) where
      pub names_fail : not y ≡ true → false ≡ holds c (five n m l p j)
      unfolding holds sane book_of
      names_fail i = rw (asks-laid, fails y _ f i)

      module _ (i : not y ≡ false) (z : Bool) (g : z ≡ kind_good (book_of c (five n m l p j))) where
        pub kind-fails : not z ≡ true → false ≡ holds c (five n m l p j)
        unfolding holds sane book_of
        kind-fails k = rw (asks-laid, passes y _ f i, fails z _ g k)

        pub steps_decide : not z ≡ false → (r : Bool) → r ≡ journal_fits (things edit_form c.edits j []) (things line_form c.lines l p)
            → r ≡ holds c (five n m l p j)
        unfolding holds sane book_of
        steps_decide k r q = rw (asks-laid, passes y _ f i, passes z _ g k) q
