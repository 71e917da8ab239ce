-- What the events of nodes make of a book in buffers: a named node begins, where there is room for it, and ends, with its parent. The premises are what
-- take_node and take_parent of src/lib.rt learned. Assumes nothing.
use Prim.Native.Nat.{ℕ, ◌+◌, ◌-◌, ◌*◌, ◌≤◌, ◌<◌}
use mathlib.Core.Path.{◌≡◌, refl}
use mathlib.Core.List.{List, [], ◌∷◌, ◌++◌}
use mathlib.Core.Bool.{true}
use native.Mathlib.Omega.{arith}
use borrow.Author.Tests.{le-leb, leb-true, le-ltb, lt-ltb, ltb-true}
use lib.Dec.{ltb}
use lib.ListN.{length, get_or, set}
use lib.Seq.{paste}
use Rattle.numbers.specs.Limits.{node_limit, script_limit}
use Rattle.numbers.specs.Refusals.{no_room, unknown_parent}
use Rattle.lists.proofs.Tests.{both, fails}
use Rattle.lists.specs.Each.{every}
use Rattle.packing.specs.Tables.{things}
use Rattle.packing.proofs.Packings.{Packs, put_thing, set_thing}
use Rattle.std.specs.Prelude.{Option, Some, None}
use Rattle.book.specs.Books.{Node, Line, first_named, found, frame_with, no_node, regular}
use Rattle.book.specs.Layout.{five, line_form, node_form, node_width}
use Rattle.book.specs.Sanity.{in_range, line_ok}
use Rattle.book.specs.View.{any_node}
use Rattle.book.proofs.FirstNamed.{found_here, found_nowhere}
use Rattle.book.proofs.Forms.{node_laws}
use Rattle.book_rooms.specs.Rooms.{node_room, row_room}
use Rattle.book_building.specs.declared.Progress.{Progress}
use Rattle.book_building.specs.declared.Taking.TheVariants.{On, No}
use Rattle.book_building.specs.Building.{take_node, take_parent}
use Rattle.book_building.specs.State.{TookNode, TookParent, built}
use Rattle.book_building.proofs.States.{State, building_is, is_state, lines_of, nodes_of, state_is}

-- ---- one node more: the lines are as good as they were
ok_more : (n : ℕ) (x : Line) → line_ok (frame_with regular n) x ≡ true → line_ok (frame_with regular (n + 1)) x ≡ true
unfolding line_ok in_range
ok_more n x e =
    let a = both _ _ e in
    let b = both (ltb x.node n) _ a.0 in
    let h : x.node < n = ltb-true x.node n b.0 in
    rw (lt-ltb x.node (n + 1) (omega arith), b.1) a.1

pub every_more : (n : ℕ) (xs : List Line) → every (line_ok (frame_with regular n)) xs ≡ true → every (line_ok (frame_with regular (n + 1))) xs ≡ true
unfolding every
every_more n [] e = refl
every_more n (x ∷ xs) e =
    let a = both (line_ok (frame_with regular n) x) _ e in
    rw (ok_more n x a.0) (every_more n xs a.1)

pub lines_more : (n k p : ℕ) (l q : List ℕ) (ys : List Line) → Packs line_form (line_ok (frame_with regular n)) k p l q ys → Packs line_form (line_ok (frame_with regular (n + 1))) k p l q ys
lines_more n k p l q ys t = record {
  count = t.count;
  total = t.total;
  lined = t.lined;
  pooled = t.pooled;
  all = every_more n ys t.all;
  rowroom = t.rowroom;
  byteroom = t.byteroom;
}

-- ---- a named node begins
abbrev pub node_more : Progress → ℕ → Progress
node_more g k = record {
  nodes = g.nodes + 1;
  names = g.names + k;
  lines = g.lines;
  pool = g.pool;
  inside = g.inside;
  mixed = g.mixed;
  starred = g.starred;
}

-- room for its row and for k bytes of its name
pub record NodeRoom (g : Progress) (n m : List ℕ) (k : ℕ) : Type 0 where
  pub number : g.nodes < node_limit
  pub row : node_width * (g.nodes + 1) ≤ length n
  pub name : g.names + k ≤ length m

module _ (g : Progress) (p : ℕ) (name n m : List ℕ) where
  room_is : (l q : List ℕ) → built g (five n m l q []) ≡ true → node_room (five n m l q []) (nodes_of g n m l q) name ≡ true → NodeRoom g n m (length name)
  unfolding node_room
  room_is l q e r =
      let t = is_state g n m l q e in
      let a = both (row_room node_limit node_width n (length (nodes_of g n m l q))) _ r in
      let b = both (ltb (length (nodes_of g n m l q)) node_limit) _ a.0 in
      record {
        number = rw t.nodes.count (ltb-true _ _ b.0);
        row = rw t.nodes.count (leb-true _ _ b.1);
        name = rw t.nodes.total (leb-true _ _ a.1);
      }

  is_room : (l q : List ℕ) → built g (five n m l q []) ≡ true → NodeRoom g n m (length name) → node_room (five n m l q []) (nodes_of g n m l q) name ≡ true
  unfolding node_room
  is_room l q e r =
      let t = is_state g n m l q e in
      rw (← t.nodes.count, ← t.nodes.total, lt-ltb g.nodes node_limit r.number, le-leb (node_width * (g.nodes + 1)) (length n) r.row)
      (le-leb (g.names + length name) (length m) r.name)

  pub node-refused : (n' m' : List ℕ) → (NodeRoom g n m (length name) → ⊥) → TookNode g p name n m (No no_room p) n' m'
  unfolding take_node
  node-refused n' m' h l q e = rw (building_is g n m l q, fails (λ r. h (room_is l q e r)))

  pub node-added : (n' m' : List ℕ) → NodeRoom g n m (length name) → length name ≤ script_limit
      → n' ≡ paste n (node_width * g.nodes) (g.names ∷ length name ∷ 0 ∷ []) 3 → m' ≡ paste m g.names name (length name)
      → TookNode g p name n m (On (node_more g (length name))) n' m'
  unfolding take_node node_form
  node-added n' m' r h a b l q e =
      let t = is_state g n m l q e in
      let x : Node = record { name = name; parent = 0 } in
      let y : Packs node_form any_node (g.nodes + 1) (g.names + length name) n' m' (nodes_of g n m l q ++ (x ∷ []))
      = put_thing node_laws t.nodes x refl (omega (arith, r.row)) r.name a b in
      let z : State (node_more g (length name)) n' m' l q (nodes_of g n m l q ++ (x ∷ [])) (lines_of g n m l q) = record {
        few = record {
          some = omega arith;
          names = omega (arith, t.few.names);
          nodes = omega (arith, r.number);
          lines = t.few.lines;
          pool = t.few.pool;
        };
        nodes = y;
        lines = lines_more g.nodes g.lines g.pool l q (lines_of g n m l q) t.lines;
      } in
      let s = state_is (node_more g (length name)) n' m' l q (nodes_of g n m l q ++ (x ∷ [])) (lines_of g n m l q) z in (
        rw (building_is g n m l q, is_room l q e r, s.0),
        s.1,
      )

-- ---- a named node ends: r is what `first_named` answers
module _ (g : Progress) (p : ℕ) (n m : List ℕ) where
  pub parent_none : (t : List ℕ) → length t ≡ 0 → TookParent g p t n m (On g) n
  unfolding take_parent
  parent_none [] h l q e = (refl, e)
  parent_none (c ∷ t) h l q e = absurd (omega arith)

  module _ (o : Option ℕ) where
    -- no node has the name
    pub parent-unknown : (t n' : List ℕ) → (length t ≡ 0 → ⊥) → o ≡ found (first_named (things node_form g.nodes n m) 0 t) → o ≡ None
        → TookParent g p t n m (No unknown_parent p) n'
    unfolding take_parent
    parent-unknown [] n' f k v l q e = absurd (f refl)
    parent-unknown (c ∷ t) n' f k v l q e = rw (building_is g n m l q, found_nowhere o (first_named (things node_form g.nodes n m) 0 (c ∷ t)) k v)

  -- node r is the first that has it
  module _ (o : Option ℕ) (r : ℕ) (v : o ≡ Some r) where
    pub parent-refused : (t n' : List ℕ) → (length t ≡ 0 → ⊥) → o ≡ found (first_named (things node_form g.nodes n m) 0 t) → g.nodes - 1 ≤ r
        → TookParent g p t n m (No unknown_parent p) n'
    unfolding take_parent
    parent-refused [] n' f k h l q e = absurd (f refl)
    parent-refused (c ∷ t) n' f k h l q e =
        let s = is_state g n m l q e in
        rw (building_is g n m l q, found_here o (first_named (things node_form g.nodes n m) 0 (c ∷ t)) r k v, ← s.nodes.count, le-ltb r (g.nodes - 1) h)

    pub parent-set : (t n' : List ℕ) → (length t ≡ 0 → ⊥) → o ≡ found (first_named (things node_form g.nodes n m) 0 t) → r < g.nodes - 1
        → n' ≡ set n (node_width * (g.nodes - 1) + 2) r → TookParent g p t n m (On g) n'
    unfolding take_parent node_form
    parent-set [] n' f k h a l q e = absurd (f refl)
    parent-set (c ∷ t) n' f k h a l q e =
        let s = is_state g n m l q e in
        let xs : List Node = nodes_of g n m l q in
        let i : ℕ = g.nodes - 1 in
        let x : Node = record { name = (get_or xs i no_node).name; parent = r } in
        let w : i < length xs = omega (arith, s.nodes.count, s.few.some) in
        let y : Packs node_form any_node g.nodes g.names n' m (set xs i x)
        = set_thing node_laws s.nodes i no_node w 2 r x (omega arith) refl refl (λ o. refl) a in
        let z : State g n' m l q (set xs i x) (lines_of g n m l q) = record { few = s.few; nodes = y; lines = s.lines } in
        let u = state_is g n' m l q (set xs i x) (lines_of g n m l q) z in (
          rw (building_is g n m l q, found_here o (first_named (things node_form g.nodes n m) 0 (c ∷ t)) r k v, ← s.nodes.count, lt-ltb r (g.nodes - 1) h, u.0),
          u.1,
        )
