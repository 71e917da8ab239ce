-- The rows of nodes in a packing: what each tells, and the search for a name, row by row. Assumes nothing.
use Prim.Native.Nat.{ℕ, ◌+◌, ◌*◌, ◌≤◌, ◌<◌}
use mathlib.Core.Path.{◌≡◌, refl, sym, ap, ap₂, ◌∙◌}
use mathlib.Core.List.{List}
use mathlib.Core.Bool.{Bool, true, false}
use native.Mathlib.Numerals.{add-one}
use native.Mathlib.Omega.{arith}
use lib.ListN.{length, drop, get_or, take, drop_of_length-le}
use lib.Seq.{drop-cons}
use Rattle.lists.specs.Same.{same}
use Rattle.packing.specs.Tables.{packed, packs, things}
use Rattle.packing.proofs.Packings.{Packs, packs_is, row_cell, bytes_at, bytes-room}
use Rattle.std.specs.Prelude.{Some, None, Option}
use Rattle.book.specs.Books.{Node, first_named, found, no_node}
use Rattle.book.specs.Layout.{NodeLies, name_of_node, node_form, node_width}
use Rattle.book.specs.View.{any_node}
use Rattle.book.proofs.Forms.{node_laws}

-- ---- the search for a name
-- the first of that name, from node i on
abbrev pub named_from : List Node → List ℕ → ℕ → Option ℕ
named_from xs t i = first_named (drop i xs) i t

module _ (xs : List Node) (t : List ℕ) (i : ℕ) where
  -- node i has the name, or the search goes on
  pub named_here : i < length xs → same (get_or xs i no_node).name t ≡ true → named_from xs t i ≡ Some i
  unfolding first_named
  named_here h e = rw (drop-cons xs i no_node h, e)

  pub named_next : i < length xs → same (get_or xs i no_node).name t ≡ false → named_from xs t i ≡ named_from xs t (i + 1)
  unfolding first_named
  named_next h e = rw (drop-cons xs i no_node h, e, add-one)

  pub named_none : length xs ≤ i → named_from xs t i ≡ None
  unfolding first_named
  named_none h = rw (drop_of_length-le xs {i = i} h)

-- ---- what a row tells
-- what the row of node i tells: it lies within the rows, and its name within the names; its name and parent are those of node i
pub record Row (n : ℕ) (l m : List ℕ) (i : ℕ) : Type 0 where
  pub lies : NodeLies l m i
  pub name : name_of_node l m i ≡ (get_or (things node_form n l m) i no_node).name
  pub parent : get_or l (node_width * i + 2) 0 ≡ (get_or (things node_form n l m) i no_node).parent

module _ (n p : ℕ) (l m : List ℕ) (g : packs node_form any_node n p l m ≡ true) where
  pub nodes_packed : Packs node_form any_node n p l m (things node_form n l m)
  nodes_packed = packs_is node_laws g

  pub nodes-count : length (things node_form n l m) ≡ n
  nodes-count = sym nodes_packed.count

  pub node_row : (i : ℕ) → i < n → Row n l m i
  unfolding node_form
  node_row i h =
      let t = nodes_packed in
      let xs : List Node = things node_form n l m in
      let w : i < length xs = omega (arith, t.count) in
      let o : ℕ = length (packed node_form (take i xs)) in
      let a : get_or l (node_width * i + 0) 0 ≡ o = row_cell node_laws t i no_node w 0 (omega arith) in
      let z : node_width * i + 0 ≡ node_width * i = omega arith in
      let b : get_or l (node_width * i) 0 ≡ o = ap (λ (k : ℕ). get_or l k 0) (sym z) ∙ a in
      let c : get_or l (node_width * i + 1) 0 ≡ length (get_or xs i no_node).name = row_cell node_laws t i no_node w 1 (omega arith) in
      record {
        lies = record { within = omega (arith, t.rowroom); room = omega (arith, b, c, bytes-room t i no_node w) };
        name = ap₂ (λ (u v : ℕ). take u (drop v m)) c b ∙ bytes_at t i no_node w;
        parent = row_cell node_laws t i no_node w 2 (omega arith);
      }

-- ---- a walk through the rows
-- it stands at node i of n, whose rows and names are packed
pub record Walk (n p : ℕ) (l m : List ℕ) (i : ℕ) : Type 0 where
  pub packing : packs node_form any_node n p l m ≡ true
  pub whole : node_width * n ≤ length l
  pub within : i ≤ n

module _ {n p : ℕ} {l m : List ℕ} {i : ℕ} where
  pub walk-stands : packs node_form any_node n p l m ≡ true → i ≤ n → Walk n p l m i
  unfolding node_form
  walk-stands g h = record { packing = g; whole = omega (arith, (nodes_packed n p l m g).rowroom); within = h }

  module _ (z : Walk n p l m i) where
    pub walk-row : i < n → Row n l m i
    walk-row h = node_row n p l m z.packing i h

    pub walk_on : i < n → Walk n p l m (i + 1)
    walk_on h = record { packing = z.packing; whole = z.whole; within = omega arith }

    pub walk-count : length (things node_form n l m) ≡ n
    walk-count = nodes-count n p l m z.packing

-- ---- the search, row by row
-- it stands at node i
pub record Searching (n p : ℕ) (l m t : List ℕ) (i : ℕ) : Type 0 where
  pub walk : Walk n p l m i
  pub goes : first_named (things node_form n l m) 0 t ≡ named_from (things node_form n l m) t i

module _ {n p : ℕ} {l m t : List ℕ} where
  pub search_starts : packs node_form any_node n p l m ≡ true → Searching n p l m t 0
  search_starts g = record { walk = walk-stands g (omega arith); goes = refl }

  module _ {i : ℕ} (z : Searching n p l m t i) where
    module _ (h : i < n) where
      pub search_lies : NodeLies l m i
      search_lies = (walk-row z.walk h).lies

      module _ {s : List ℕ} (b : s ≡ name_of_node l m i) {r : Bool} (e : r ≡ same s t) where
        asked : r ≡ same (get_or (things node_form n l m) i no_node).name t
        asked = e ∙ ap (λ (u : List ℕ). same u t) (b ∙ (walk-row z.walk h).name)

        -- the node has the name
        pub search_found : r ≡ true → Some i ≡ found (first_named (things node_form n l m) 0 t)
        search_found y = rw (z.goes, named_here (things node_form n l m) t i (omega (arith, walk-count z.walk)) (sym asked ∙ y))

        -- it has another, and the search goes on
        pub search_more : r ≡ false → Searching n p l m t (i + 1)
        search_more y = record {
          walk = walk_on z.walk h;
          goes = z.goes ∙ named_next (things node_form n l m) t i (omega (arith, walk-count z.walk)) (sym asked ∙ y);
        }

    -- none has it
    pub search_ends : n ≤ i → None ≡ found (first_named (things node_form n l m) 0 t)
    search_ends h = rw (z.goes, named_none (things node_form n l m) t i (omega (arith, walk-count z.walk)))
