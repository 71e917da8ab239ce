-- What take_event of src/lib.rt answers, event by event, and what its parts ask. Assumes nothing.
use Prim.Native.Nat.{ℕ, ◌+◌, ◌-◌, ◌*◌, ◌≤◌, ◌<◌}
use mathlib.Core.Path.{◌≡◌, refl}
use mathlib.Core.List.{List, []}
use mathlib.Core.Bool.{true}
use native.Mathlib.Omega.{arith}
use lib.ListN.{length, take, drop, length-take, length-drop}
use Rattle.linker_script.specs.Parts.{part}
use Rattle.numbers.specs.Limits.{node_limit, script_limit}
use Rattle.numbers.specs.Marks.{cxx, local}
use Rattle.packing.specs.Tables.{packs}
use Rattle.packing.proofs.Packings.{is_packs}
use Rattle.reading_cursors.specs.declared.Event.{Event}
use Rattle.reading_cursors.specs.declared.Event.TheVariants.{Node, Body, Section, Extern, Closed, Line, Parent}
use Rattle.book.specs.Layout.{five, node_form}
use Rattle.book.specs.View.{any_node, book_of}
use Rattle.book.proofs.Forms.{node_laws}
use Rattle.book_rooms.specs.Rooms.{pool_room}
use Rattle.book_rooms.proofs.Putting.{room-both}
use Rattle.book_building.specs.declared.Progress.{Progress}
use Rattle.book_building.specs.declared.Taking.{Taking}
use Rattle.book_building.specs.declared.Taking.TheVariants.{On}
use Rattle.book_building.specs.Building.{take_event}
use Rattle.book_building.specs.State.{Took, TookLine, TookNode, TookParent, building, built, inside_block, outside_block}
use Rattle.book_building.proofs.States.{is_state}
use Rattle.book_building.specs.Events.{Lies}

-- ---- the part of the text that is handed over, from p to p + k
pub handed : (s : List ℕ) (p k : ℕ) → take (p + k - p) (drop p s) ≡ part s p k
handed s p k = let h : p + k - p ≡ k = omega arith in rw h

pub handed_few : (s : List ℕ) (p k : ℕ) → length s ≤ script_limit → length (take (p + k - p) (drop p s)) ≤ script_limit
handed_few s p k h = omega (arith, length-take (p + k - p) (drop p s), length-drop p s)

-- ---- each event
module _ (s : List ℕ) (g : Progress) (n m l q : List ℕ) (b : built g (five n m l q []) ≡ true) (e : Event) where
  -- what node_begins, node_ends and line_stands ask
  pub node-asks : (p k : ℕ) → length s ≤ script_limit → Lies s e → e ≡ Node p k
      → (p + k ≤ length s) × (length s ≤ script_limit) × (g.names ≤ length m) × (g.names ≤ script_limit * node_limit)
  node-asks p k h u z =
      let t = is_state g n m l q b in
      (rw z at u, h, t.nodes.byteroom, omega (arith, t.few.names, t.few.nodes))

  pub parent-asks : (p k : ℕ) → Lies s e → e ≡ Parent p k
      → (p + k ≤ length s) × (packs node_form any_node g.nodes g.names n m ≡ true) × (0 < g.nodes) × (g.nodes ≤ node_limit)
  parent-asks p k u z =
      let t = is_state g n m l q b in
      (rw z at u, (is_packs node_laws t.nodes).0, t.few.some, t.few.nodes)

  pub line-asks : (section language p k : ℕ) → length s ≤ script_limit → Lies s e → e ≡ Line section language p k
      → (p + k ≤ length s) × (g.pool ≤ pool_room q) × (0 < g.nodes) × (g.nodes ≤ node_limit) × (section ≤ local) × (language ≤ cxx) × (p < script_limit)
  line-asks section language p k i u z =
      let t = is_state g n m l q b in
      let h : (section ≤ local) × (language ≤ cxx) × (p + k ≤ length s) × (p ≤ length s - 1) = rw z at u in
      (h.2, room-both q g.pool t.lines.byteroom t.few.pool, t.few.some, t.few.nodes, h.0, h.1, omega (arith, h.3))

  -- what they answer
  pub took_node : (p k : ℕ) (r : Taking) (n' m' : List ℕ) → e ≡ Node p k → TookNode g p (part s p k) n m r n' m'
      → Took (take_event (five n m l q []) s (building g (five n m l q [])) e) r (five n' m' l q [])
  unfolding take_event
  took_node p k r n' m' z t = rw z (t l q b)

  pub took_parent : (p k : ℕ) (r : Taking) (n' : List ℕ) → e ≡ Parent p k → TookParent g p (part s p k) n m r n'
      → Took (take_event (five n m l q []) s (building g (five n m l q [])) e) r (five n' m l q [])
  unfolding take_event
  took_parent p k r n' z t = rw z (t l q b)

  pub took_line : (section language p k : ℕ) (r : Taking) (l' q' : List ℕ) → e ≡ Line section language p k
      → TookLine g p section language (part s p k) l q r l' q'
      → Took (take_event (five n m l q []) s (building g (five n m l q [])) e) r (five n m l' q' [])
  unfolding take_event
  took_line section language p k r l' q' z t = rw z (t n m b)

  pub took_body : e ≡ Body → Took (take_event (five n m l q []) s (building g (five n m l q [])) e) (On g) (five n m l q [])
  unfolding take_event
  took_body z = rw z (refl, b)

  pub took_section : (k : ℕ) → e ≡ Section k → Took (take_event (five n m l q []) s (building g (five n m l q [])) e) (On g) (five n m l q [])
  unfolding take_event
  took_section k z = rw z (refl, b)

  pub took_extern : (section language : ℕ) (h : Progress) → e ≡ Extern section language → h ≡ inside_block g section
      → Took (take_event (five n m l q []) s (building g (five n m l q [])) e) (On h) (five n m l q [])
  unfolding take_event building built book_of
  took_extern section language h z w = rw (z, w) (refl, b)

  pub took_closed : (h : Progress) → e ≡ Closed → h ≡ outside_block g
      → Took (take_event (five n m l q []) s (building g (five n m l q [])) e) (On h) (five n m l q [])
  unfolding take_event building built book_of
  took_closed h z w = rw (z, w) (refl, b)
