-- What is asked of a version book's nodes (specs/Questions.antt): each exit of the functions that answer it, how parents are counted row by row, and that
-- both counts of the Rust kind are 0. Assumes nothing.
use Prim.Native.Nat.{ℕ, zero, suc, ◌+◌, ◌*◌, ◌≤◌, ◌<◌}
use mathlib.Core.Path.{◌≡◌, refl, sym, ap, ◌∙◌}
use mathlib.Core.List.{List, [], ◌∷◌}
use mathlib.Core.Bool.{Bool, true, false, cond, not}
use Rattle.std.specs.Prelude.{Option, Some, None, Result, Ok, Err, ⊤}
use Rattle.numbers.specs.declared.Refusal.{Refusal}
use native.Mathlib.Numerals.{add-one}
use native.Mathlib.Omega.{arith}
use borrow.Author.Tests.{eqb-true, eq-eqb, ne_eqb, lt-ltb, le-ltb}
use lib.Dec.{eqb}
use lib.ListN.{length, drop, get_or, take, drop_of_length-le}
use lib.Seq.{drop-cons, get_or-drop}
use Rattle.numbers.specs.Limits.{node_limit}
use Rattle.numbers.specs.declared.Refusal.TheVariants as no
use Rattle.lists.proofs.Tests.{both}
use Rattle.packing.specs.Tables.{packed, things}
use Rattle.packing.proofs.Packings.{row_cell}
use Rattle.book.specs.declared.Counts.{Counts}
use Rattle.book.specs.Books.{Node, Book, export, no_node, rust}
use Rattle.book.specs.Layout.{Buffers, five, node_form}
use Rattle.book.specs.Sanity.{nodes_good, kind_good, sane}
use Rattle.book.specs.View.{book_of, holds, view}
use Rattle.book.proofs.Forms.{node_laws}
use Rattle.book.proofs.NodeRows.{nodes_packed, nodes-count, node_row}
use Rattle.book.proofs.Views.{layout_of_view}
use Rattle.book.proofs.Asking.{Held, asked_none, asked-held, held-book}
use Rattle.counting.specs.Questions.{version_count, parents_among, parent_count, counted, told_of, node_told, node_of, unasked}

-- ---- parents, row by row
-- neither names nor their bytes are asked
pub parents-told : (n : ℕ) (l m p : List ℕ) → parents_among (things node_form n l m) ≡ parents_among (things node_form n l p)
unfolding parents_among things node_form
parents-told zero l m p = refl
parents-told (suc n) l m p = ap (λ (k : ℕ). cond (eqb (get_or l 2 0) 0) 0 1 + k) (parents-told n (drop 3 l) (drop (get_or l 1 0) m) (drop (get_or l 1 0) p))

-- row i tells the parent of node i
parent-told : (n i : ℕ) (l m : List ℕ) → i < n → (get_or (things node_form n l m) i no_node).parent ≡ get_or l (3 * i + 2) 0
unfolding things node_form
parent-told zero i l m h = absurd (omega arith)
parent-told (suc n) zero l m h = refl
parent-told (suc n) (suc i) l m h =
    let e : 3 + (3 * i + 2) ≡ 3 * suc i + 2 = omega arith in
    parent-told n i (drop 3 l) (drop (get_or l 1 0) m) (omega arith) ∙ get_or-drop 3 l (3 * i + 2) 0 ∙ ap (λ (k : ℕ). get_or l k 0) e

rows-count : (n : ℕ) (l m : List ℕ) → length (things node_form n l m) ≡ n
unfolding things node_form
rows-count zero l m = refl
rows-count (suc n) l m = ap suc (rows-count n (drop 3 l) (drop (get_or l 1 0) m))

-- i rows are passed, and r of them tell a parent
pub record Counting (l : List ℕ) (n i r : ℕ) : Type 0 where
  pub few : r ≤ i
  pub goes : r + parents_among (drop i (things node_form n l [])) ≡ parents_among (things node_form n l [])

pub counting_starts : (l : List ℕ) (n : ℕ) → Counting l n 0 0
counting_starts l n = record { few = omega arith; goes = omega arith }

module _ (l : List ℕ) (n i r : ℕ) (z : Counting l n i r) where
  next_parent : i < n → parents_among (drop i (things node_form n l [])) ≡ cond (eqb (get_or l (3 * i + 2) 0) 0) 0 1 + parents_among (drop (i + 1) (things node_form n l []))
  unfolding parents_among
  next_parent h =
      let w : i < length (things node_form n l []) = omega (arith, rows-count n l []) in
      let e : get_or l (3 * i + 2) 0 ≡ (get_or (things node_form n l []) i no_node).parent = sym (parent-told n i l [] h) in
      rw (drop-cons (things node_form n l []) i no_node w, e, add-one)

  pub counting_more : i < n → (get_or l (3 * i + 2) 0 ≡ 0 → ⊥) → Counting l n (i + 1) (r + 1)
  counting_more h f =
      let e : parents_among (drop i (things node_form n l [])) ≡ 1 + parents_among (drop (i + 1) (things node_form n l [])) = next_parent h ∙ rw (ne_eqb _ _ f) in
      record { few = omega (arith, z.few); goes = omega (arith, e, z.goes) }

  pub counting_same : i < n → get_or l (3 * i + 2) 0 ≡ 0 → Counting l n (i + 1) r
  counting_same h f =
      let e : parents_among (drop i (things node_form n l [])) ≡ 0 + parents_among (drop (i + 1) (things node_form n l [])) = next_parent h ∙ rw (eq-eqb _ _ f) in
      record { few = omega (arith, z.few); goes = omega (arith, e, z.goes) }

  pub counting_ends : n ≤ i → r ≡ parents_among (things node_form n l [])
  unfolding parents_among
  counting_ends h =
      let e : parents_among (drop i (things node_form n l [])) ≡ 0 = rw (drop_of_length-le (things node_form n l []) {i = i} (omega (arith, rows-count n l []))) in
      omega (arith, e, z.goes)

-- ---- the exits of the questions; x is whether the buffers hold a book, and the code asked whether they do not
module _ (c : Counts) (n m l p j : List ℕ) where
  pub ask-no_book : (x : Bool) → x ≡ holds c (five n m l p j) → not x ≡ true → Err no.NoBook ≡ unasked (view c (five n m l p j))
  unfolding unasked
  ask-no_book x e h = rw (asked_none c (five n m l p j) x e h)

  module _ (x : Bool) (e : x ≡ holds c (five n m l p j)) (h : not x ≡ false) where
    viewed : view c (five n m l p j) ≡ Some (book_of c (five n m l p j))
    viewed = let z = asked-held c (five n m l p j) x e h in z.viewed

    pub ask-export : c.kind ≡ export → Err no.WrongKind ≡ unasked (view c (five n m l p j))
    unfolding unasked book_of
    ask-export k = rw (viewed, eq-eqb _ _ k)

    pub ask_done : (c.kind ≡ export → ⊥) → Ok tt ≡ unasked (view c (five n m l p j))
    unfolding unasked book_of
    ask_done k = rw (viewed, ne_eqb _ _ k)

-- a question that is refused
module _ (o : Option Book) (r : Result ⊤ Refusal) (y : r ≡ unasked o) (e : Refusal) (f : r ≡ Err e) where
  refused : unasked o ≡ Err e
  refused = sym y ∙ f

  pub count-refused : (g : Book → ℕ) → Err e ≡ counted g o
  unfolding counted unasked
  count-refused g = go o refused
    where
      told : (w : Book) (b : Bool) → cond b (Err no.WrongKind) (Ok (tt {0})) ≡ Err e → Err e ≡ cond b (Err no.WrongKind) (Ok (g w))
      told w true z = let q : e ≡ no.WrongKind = cc in ap Err q
      told w false z = cc

      go : (q : Option Book) → unasked q ≡ Err e → Err e ≡ counted g q
      go None z = let q : e ≡ no.NoBook = cc in ap Err q
      go (Some w) z = told w (eqb w.kind export) z

  pub node-refused : (i : ℕ) → Err e ≡ node_of i o
  unfolding node_of unasked
  node-refused i = go o refused
    where
      told : (w : Book) (b : Bool) → cond b (Err no.WrongKind) (Ok (tt {0})) ≡ Err e → Err e ≡ cond b (Err no.WrongKind) (node_told i w)
      told w true z = let q : e ≡ no.WrongKind = cc in ap Err q
      told w false z = cc

      go : (q : Option Book) → unasked q ≡ Err e → Err e ≡ node_of i q
      go None z = let q : e ≡ no.NoBook = cc in ap Err q
      go (Some w) z = told w (eqb w.kind export) z

-- one that is not
module _ (c : Counts) (n m l p j : List ℕ) (r : Result ⊤ Refusal) (y : r ≡ unasked (view c (five n m l p j))) (u : ⊤) (f : r ≡ Ok u) where
  allowed : unasked (view c (five n m l p j)) ≡ Ok u
  allowed = sym y ∙ f

  held-when : (b : Bool) → holds c (five n m l p j) ≡ b → holds c (five n m l p j) ≡ true
  unfolding view unasked
  held-when true e = e
  held-when false e = let z = allowed in let q : unasked None ≡ Ok u = rw e at z in cc

  held : Held c (five n m l p j)
  held = held-book c (five n m l p j) (held-when (holds c (five n m l p j)) refl)

  k : c.kind ≡ export → ⊥
  unfolding unasked book_of
  k q =
      let z = allowed in
      let w : unasked (Some (book_of c (five n m l p j))) ≡ Ok u = rw held.viewed at z in
      let v : cond (eqb c.kind export) (Err no.WrongKind) (Ok tt) ≡ Ok u = w in
      let t : Err no.WrongKind ≡ Ok u = rw (eq-eqb _ _ q) at v in
      cc

  counted_so : (f : Book → ℕ) (r : ℕ) → r ≡ f (book_of c (five n m l p j)) → Ok r ≡ counted f (view c (five n m l p j))
  unfolding counted book_of
  counted_so f r q = rw (held.viewed, ne_eqb _ _ k, q)

  pub one-node : c.nodes ≡ 1 → Ok 0 ≡ counted version_count (view c (five n m l p j))
  unfolding version_count
  one-node w = counted_so version_count 0 (rw (held.count, eq-eqb _ _ w))

  pub more_nodes : (c.nodes ≡ 1 → ⊥) → Ok c.nodes ≡ counted version_count (view c (five n m l p j))
  unfolding version_count
  more_nodes w = counted_so version_count c.nodes (rw (held.count, ne_eqb _ _ w))

  -- what counting parents asks, and what it answers
  pub asks-parents : (3 * c.nodes ≤ length n) × (c.nodes ≤ node_limit)
  unfolding node_form
  asks-parents = ((nodes_packed c.nodes c.names n m held.nodes).rowroom, held.few)

  pub parents-counted : (r : ℕ) → r ≡ parents_among (things node_form c.nodes n []) → Ok r ≡ counted parent_count (view c (five n m l p j))
  unfolding parent_count book_of
  parents-counted r q = counted_so parent_count r (q ∙ parents-told c.nodes n [] m)

  -- ---- the exits of a node's question
  pub node-missing : (i : ℕ) → c.nodes ≤ i → Err no.NoSuch ≡ node_of i (view c (five n m l p j))
  unfolding node_of node_told book_of
  node-missing i w = rw (held.viewed, ne_eqb _ _ k, held.count, le-ltb _ _ w)

  module _ (i : ℕ) (w : i < c.nodes) where
    -- its numbers lie within the rows
    node-within : 3 * i + 3 ≤ length n
    node-within = (node_row c.nodes c.names n m held.nodes i w).lies.within

    pub start_within : 3 * i < length n
    start_within = omega (arith, node-within)

    pub length-within : 3 * i + 1 < length n
    length-within = omega (arith, node-within)

    pub parent-within : 3 * i + 2 < length n
    parent-within = omega (arith, node-within)

    abbrev xs : List Node
    xs = things node_form c.nodes n m

    cell : (t : ℕ) → t < 3 → get_or n (3 * i + t) 0 ≡ get_or (length (packed node_form (take i xs)) ∷ length (get_or xs i no_node).name ∷ (get_or xs i no_node).parent ∷ []) t 0
    unfolding node_form
    cell t y =
        row_cell node_laws (nodes_packed c.nodes c.names n m held.nodes) i no_node
        (omega (arith, nodes-count c.nodes c.names n m held.nodes)) t y

    pub node-there : Ok (told_of (get_or n (3 * i) 0) (get_or n (3 * i + 1) 0) (get_or n (3 * i + 2) 0)) ≡ node_of i (view c (five n m l p j))
    unfolding node_of node_told book_of
    node-there =
        let z : 3 * i + 0 ≡ 3 * i = omega arith in
        let a : get_or n (3 * i) 0 ≡ length (packed node_form (take i xs)) = ap (λ (t : ℕ). get_or n t 0) (sym z) ∙ cell 0 (omega arith) in
        rw (held.viewed, ne_eqb _ _ k, held.count, lt-ltb _ _ w, a, cell 1 (omega arith), cell 2 (omega arith))

-- ---- "both counts are 0": of a book of the Rust kind
no_parents : (xs : List Node) → length xs ≡ 1 → nodes_good xs ≡ true → parents_among xs ≡ 0
unfolding nodes_good parents_among
no_parents [] h g = absurd (omega arith)
no_parents (x ∷ y ∷ xs) h g = absurd (omega arith)
no_parents (x ∷ []) h g =
    let b = both (eqb (length x.name) 0) _ g in
    let d = both (eqb x.parent 0) _ b.1 in
    rw d.0

module _ (c : Counts) (b : Buffers) (w : Book) (e : view c b ≡ Some w) (k : w.kind ≡ rust) where
  node_alone : (length w.nodes ≡ 1) × (nodes_good w.nodes ≡ true)
  unfolding sane kind_good
  node_alone =
      let g = both (nodes_good w.nodes) _ (layout_of_view c b w e).3 in
      let d = (both (kind_good w) _ g.1).0 in (
        eqb-true _ _ (both (eqb (length w.nodes) 1) _ (rw k at d)).0,
        g.0,
      )

  pub rust-versions : counted version_count (view c b) ≡ Ok 0
  unfolding counted version_count
  rust-versions = rw (e, k, node_alone.0)

  pub rust-parents : counted parent_count (view c b) ≡ Ok 0
  unfolding counted parent_count
  rust-parents = rw (e, k, no_parents w.nodes node_alone.0 node_alone.1)
