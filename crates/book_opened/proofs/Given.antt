-- The names and parents that 14 accepts are those that a reading gives (specs/Given.antt): the shortest script of each is read, and opens; and what an opening
-- gives is a book. Assumes nothing.
use Prim.Native.Nat.{ℕ, zero, suc, ◌+◌, ◌-◌, ◌*◌, ◌<◌, ◌≤◌}
use mathlib.Core.Path.{◌≡◌, refl, sym, ap, ◌∙◌}
use mathlib.Core.List.{List, [], ◌∷◌, ◌++◌, append_assoc}
use mathlib.Core.Bool.{true, false, not, true≢false}
use Rattle.std.specs.Prelude.{Option, Some, None}
use native.Mathlib.Nat.{add-zero, zero-add}
use native.Mathlib.Omega.{arith}
use borrow.Author.Tests.{ne_eqb, eqb-true, le-ltb, lt-ltb, le-leb, ltb-true, ltb-false, not-true}
use lib.Dec.{eqb, ltb}
use lib.ListN.{length, get_or, take, drop, length-append}
use lib.Seq.{drop_at, take_at}
use Rattle.linker_script.specs.Parts.{part}
use Rattle.linker_script.specs.Skip.{blank, skips}
use Rattle.numbers.specs.Editions.{reld}
use Rattle.numbers.specs.Limits.{over, script_limit}
use Rattle.numbers.specs.Signs.{closing_brace, opening_brace, semicolon}
use Rattle.lists.specs.Each.{every}
use Rattle.lists.specs.Same.{same}
use Rattle.lists.proofs.SameLaws.{same_refl}
use Rattle.lists.proofs.Tests.{both}
use Rattle.reading_tokens.specs.Tokens.{named}
use Rattle.reading_cursors.specs.Places.{at_script}
use Rattle.reading.specs.Events.{reading, reading_from}
use Rattle.reading.proofs.WholeNodes.{Whole, drop_behind, end_reads, node-reads, script-reads}
use Rattle.packing.specs.Tables.{packed}
use Rattle.book.specs.Books.{Book, first_named, no_node}
use Rattle.book.specs.Books as book
use Rattle.book.specs.Layout.{Buffers, five, node_form}
use Rattle.book.specs.Sanity.{is_number, name_at, name_good, name_script, named_good, no_semicolon, nodes_good, parent_good, parent_script, sane, spelled}
use Rattle.book.proofs.Spelling.{name-length, parent-length, spelled-length}
use Rattle.book_rooms.specs.Rooms.{node_room}
use Rattle.book_building.specs.Building.{Building, on, take_event, take_node, take_parent, with_node, with_parent}
use Rattle.book_opening.specs.Opening.{as_script, build, build_reading, finished, nothing_yet, opening, opens}
use Rattle.book_opened.specs.Given.{Given, NameGiven, NameScriptRead, ParentGiven, ParentScriptRead, ParentStands}
use Rattle.book_opened.proofs.Nodes.{NameRead, earlier, fresh, parent-told}
use Rattle.book_opened.proofs.Opened.{opened-viewable}

-- ---- what the tests say
-- of a name
name-parts : (t : List ℕ) → name_good t ≡ true → NameRead t × (length t + 3 ≤ script_limit)
unfolding name_good
name-parts t e =
    let a = both (ltb 0 (length t)) _ e in
    let b = both (not (over script_limit (name_script t))) _ a.1 in
    let d = both (every named t) _ b.1 in (
      record { some = ltb-true 0 (length t) a.0; bytes = d.0; free = not-true (skips t 0) d.1 },
      omega (arith, name-length t, ltb-false script_limit (length (name_script t)) (not-true (over script_limit (name_script t)) b.0)),
    )

-- of a parent
record ParentParts (all : List book.Node) (i p : ℕ) : Type 0 where
  earlier : p < i
  short : length (parent_script (name_at all i) (name_at all p)) ≤ script_limit
  first : first_named all 0 (name_at all p) ≡ Some p
  free : every no_semicolon (name_at all p) ≡ true

number_told : (p : ℕ) (a : Option ℕ) → is_number p a ≡ true → a ≡ Some p
number_told p (Some i) e = ap (λ (k : ℕ). Some k) (eqb-true i p e)
number_told p None e = absurd (true≢false (sym e))

parent-parts : (all : List book.Node) (i p : ℕ) → 0 < p → parent_good all i p ≡ true → ParentParts all i p
unfolding parent_good
parent-parts all i p h e =
    let a = both (ltb p i) _ (rw (ne_eqb p 0 (λ z. omega arith)) at e) in
    let b = both (not (over script_limit (parent_script (name_at all i) (name_at all p)))) _ a.1 in
    let d = both (is_number p (first_named all 0 (name_at all p))) _ b.1 in
    record {
      earlier = ltb-true p i a.0;
      short = ltb-false script_limit _ (not-true (over script_limit (parent_script (name_at all i) (name_at all p))) b.0);
      first = number_told p _ d.0;
      free = d.1;
    }

-- of each node
named-each : (all : List book.Node) (k : ℕ) (xs : List book.Node) → named_good all k xs ≡ true → (j : ℕ) → j < length xs
    → (name_good (name_at xs j) ≡ true) × (parent_good all (k + j) (get_or xs j no_node).parent ≡ true)
unfolding named_good
named-each all k [] e j h = absurd (omega arith)
named-each all k (x ∷ xs) e zero h =
    let a = both (name_good x.name) _ e in
    (a.0, rw (add-zero k) (both (parent_good all k x.parent) _ a.1).0)
named-each all k (x ∷ xs) e (suc j) h =
    let a = both (name_good x.name) _ e in
    let z : k + suc j ≡ k + 1 + j = omega arith in
    rw z (named-each all (k + 1) xs (both (parent_good all k x.parent) _ a.1).1 j (omega arith))

nodes-each : (xs : List book.Node) → nodes_good xs ≡ true → (i : ℕ) → 0 < i → i < length xs
    → (name_good (name_at xs i) ≡ true) × (parent_good xs i (get_or xs i no_node).parent ≡ true)
unfolding nodes_good
nodes-each [] e i h k = absurd (omega arith)
nodes-each (x ∷ xs) e zero h k = absurd (omega arith)
nodes-each (x ∷ xs) e (suc i) h k =
    let a = both (eqb (length x.name) 0) _ e in
    let z : 1 + i ≡ suc i = omega arith in
    rw z at (named-each (x ∷ xs) 1 xs (both (eqb x.parent 0) _ a.1).1 i (omega arith))

base_alone : (xs : List book.Node) → nodes_good xs ≡ true → (get_or xs 0 no_node).parent ≡ 0
unfolding nodes_good
base_alone [] e = refl
base_alone (x ∷ xs) e = eqb-true x.parent 0 (both (eqb x.parent 0) _ (both (eqb (length x.name) 0) _ e).1).0

-- `;` is no byte that `no_semicolon` passes
no_such : (b : ℕ) → no_semicolon b ≡ true → eqb b semicolon ≡ false
no_such b e = not-true (eqb b semicolon) e

-- ---- the readings
module _ (t : List ℕ) (r : NameRead t) (h : length t + 3 ≤ script_limit) where
  name-read : NameScriptRead t
  unfolding every blank
  name-read =
      let s : List ℕ = name_script t in
      let w : Whole s (reading reld at_script s) 0 t [] =
      script-reads no_semicolon no_such s t [] [] r.some r.bytes r.free refl refl (omega (arith, name-length t)) refl in
      let e : w.behind.at ≡ length s = w.at ∙ omega (arith, name-length t) in
      w.reads ∙ rw (end_reads w.stands w.place e, zero-add (length t))

module _ (t u : List ℕ) (r : NameRead t) (q : NameRead u) (free : every no_semicolon u ≡ true) (h : length (parent_script t u) ≤ script_limit) where
  abbrev text : List ℕ
  text = parent_script t u

  -- u stands first, and t behind it
  u_first : text ≡ u ++ opening_brace ∷ closing_brace ∷ (semicolon ∷ spelled t u)
  u_first = append_assoc u (opening_brace ∷ closing_brace ∷ semicolon ∷ []) (spelled t u)

  t_behind : (p : ℕ) → p ≡ length u + 3 → drop p text ≡ spelled t u
  t_behind p e = drop_at (spelled u []) (spelled t u) p (spelled-length u [] ∙ omega arith)

  parent-read : ParentScriptRead t u
  unfolding every blank
  parent-read =
      let v : Whole text (reading reld at_script text) 0 u [] =
      script-reads no_semicolon no_such text u [] (spelled t u) q.some q.bytes q.free refl refl h u_first in
      let e : v.behind.at ≡ length u + 3 = v.at ∙ omega arith in
      let w : Whole text (reading_from text v.behind) v.behind.at t u =
      node-reads no_semicolon no_such text t u [] r.some r.bytes r.free q.free free v.stands v.place
      (t_behind v.behind.at e) in
      let d : w.behind.at ≡ length text = w.at ∙ omega (arith, parent-length t u) in
      v.reads ∙ rw (w.reads, end_reads w.stands w.place d, e, zero-add (length u))

-- ---- the openings, in buffers with room for three nodes and the names m
abbrev room : List ℕ → Buffers
room m = five (0 ∷ 0 ∷ 0 ∷ 0 ∷ 0 ∷ 0 ∷ 0 ∷ 0 ∷ 0 ∷ []) m [] [] []

has_room : (m : List ℕ) (xs : List book.Node) (name : List ℕ) → length xs ≤ 2 → length (packed node_form xs) + length name ≤ length m
    → node_room (room m) xs name ≡ true
unfolding node_room
has_room m xs name h k =
    rw (lt-ltb (length xs) 1024 (omega arith), le-leb (3 * (length xs + 1)) 9 (omega arith), le-leb (length (packed node_form xs) + length name) (length m) k)

abbrev with_name : List ℕ → Building
with_name t = with_node nothing_yet t

name-opens : (t : List ℕ) → NameRead t → length t + 3 ≤ script_limit → opening as_script (room t) (name_script t) ≡ opens (finished at_script (with_name t))
unfolding opening build_reading build take_event take_node take_parent nothing_yet packed node_form
name-opens t r h =
    let s : List ℕ = name_script t in
    let z : 0 + length t ≤ length t = omega arith in
    rw (
      le-ltb script_limit (length s) (omega (arith, name-length t)),
      name-read t r h,
      take_at t (opening_brace ∷ closing_brace ∷ semicolon ∷ []) (length t) refl,
      has_room t (no_node ∷ []) t (omega arith) z,
    )

-- the parent's node is found by its name
found_first : (u t : List ℕ) → 0 < length u → first_named (no_node ∷ fresh u ∷ fresh t ∷ []) 0 u ≡ Some 1
unfolding first_named same
found_first [] t h = absurd (omega arith)
found_first (x ∷ u) t h = rw (same_refl (x ∷ u))

parent-taken : (g : Building) (p q : ℕ) (u : List ℕ) → 0 < length u → first_named g.nodes 0 u ≡ Some q → q < length g.nodes - 1
    → take_parent g p u ≡ on (with_parent g (length g.nodes - 1) q)
unfolding take_parent
parent-taken g p q [] h e k = absurd (omega arith)
parent-taken g p q (x ∷ u) h e k = rw (e, lt-ltb q (length g.nodes - 1) k)

abbrev with_both : List ℕ → List ℕ → Building
with_both t u = with_parent (with_node (with_name u) t) 2 1

module _ (t u : List ℕ) (r : NameRead t) (q : NameRead u) (free : every no_semicolon u ≡ true) (h : length (parent_script t u) ≤ script_limit) where
  u_part : take (length u) (parent_script t u) ≡ u
  u_part = rw (u_first t u r q free h, take_at u (opening_brace ∷ closing_brace ∷ (semicolon ∷ spelled t u)) (length u) refl)

  t_part : part (parent_script t u) (length u + 3) (length t) ≡ t
  t_part = rw (t_behind t u r q free h (length u + 3) refl, take_at t (opening_brace ∷ closing_brace ∷ (u ++ semicolon ∷ [])) (length t) refl)

  parent-part : part (parent_script t u) (length u + 3 + length t + 2) (length u) ≡ u
  parent-part =
      let d = drop_behind (parent_script t u) (length u + 3) t _ (t_behind t u r q free h (length u + 3) refl) in
      let e = drop_behind (parent_script t u) (length u + 3 + length t) (opening_brace ∷ closing_brace ∷ []) _ d in
      rw (e, take_at u (semicolon ∷ []) (length u) refl)

  parent-opens : opening as_script (room (u ++ t)) (parent_script t u) ≡ opens (finished at_script (with_both t u))
  unfolding opening build_reading build take_event take_node nothing_yet packed node_form take_parent
  parent-opens =
      let z : 0 + length u ≤ length (u ++ t) = omega (arith, length-append u t) in
      let y : length (packed node_form (no_node ∷ fresh u ∷ [])) + length t ≤ length (u ++ t) = omega (arith, length-append u t, length-append u []) in
      rw (
        le-ltb script_limit (length (parent_script t u)) h,
        parent-read t u r q free h,
        u_part,
        has_room (u ++ t) (no_node ∷ []) u (omega arith) z,
        t_part,
        has_room (u ++ t) (no_node ∷ fresh u ∷ []) t (omega arith) y,
        parent-part,
        parent-taken (with_node (with_name u) t) (length u + 3 + length t + 2) 1 u q.some (found_first u t q.some) (omega arith),
      )

-- ---- what a reading gives is accepted
opened-nodes : (b : Buffers) (s : List ℕ) (w : Book) → opening as_script b s ≡ opens w → nodes_good w.nodes ≡ true
unfolding sane
opened-nodes b s w e = (both (nodes_good w.nodes) _ (opened-viewable as_script b s w refl e).sane).0

name-accepted : (t : List ℕ) → NameGiven t → name_good t ≡ true
name-accepted t g =
    rw g.name at (nodes-each g.book.nodes (opened-nodes g.buffers g.script g.book g.opened) g.node g.some g.within).0

parent-given : (t u : List ℕ) → ParentGiven t u → (length (parent_script t u) ≤ script_limit) × (every no_semicolon u ≡ true)
parent-given t u g = go g.node refl
  where
    xs : List book.Node
    xs = g.book.nodes

    good : nodes_good xs ≡ true
    good = opened-nodes g.buffers g.script g.book g.opened

    go : (i : ℕ) → g.node ≡ i → (length (parent_script t u) ≤ script_limit) × (every no_semicolon u ≡ true)
    go zero z = absurd (omega (arith, g.some, ap (λ (k : ℕ). (get_or xs k no_node).parent) z ∙ base_alone xs good))
    go (suc i) z =
        let r = parent-parts xs g.node (get_or xs g.node no_node).parent g.some (nodes-each xs good g.node (omega arith) g.within).1 in
        (rw (g.name, g.parent) at r.short, rw g.parent at r.free)

parent-accepted : (all : List book.Node) (i p : ℕ) → ParentStands all i p → parent_good all i p ≡ true
parent-accepted all i p g =
    let e = parent-given (name_at all i) (name_at all p) g.given in
    parent-told all i p (earlier g.earlier (omega (arith, e.0, parent-length (name_at all i) (name_at all p))) g.first e.1)

-- ---- what is accepted a reading gives
name_is_given : (t : List ℕ) → name_good t ≡ true → NameGiven t
unfolding nothing_yet
name_is_given t e =
    let r = name-parts t e in
    record {
      script = name_script t;
      buffers = room t;
      book = finished at_script (with_name t);
      opened = name-opens t r.0 r.1;
      node = 1;
      some = omega arith;
      within = omega arith;
      name = refl;
    }

parent_is_given : (t u : List ℕ) → name_good t ≡ true → name_good u ≡ true → every no_semicolon u ≡ true → length (parent_script t u) ≤ script_limit
    → ParentGiven t u
unfolding nothing_yet
parent_is_given t u e d f h =
    record {
      script = parent_script t u;
      buffers = room (u ++ t);
      book = finished at_script (with_both t u);
      opened = parent-opens t u (name-parts t e).0 (name-parts u d).0 f h;
      node = 2;
      within = omega arith;
      name = refl;
      some = omega arith;
      parent = refl;
    }

parent-stands : (all : List book.Node) (i p : ℕ) → 0 < p → name_good (name_at all i) ≡ true → name_good (name_at all p) ≡ true → parent_good all i p ≡ true
    → ParentStands all i p
parent-stands all i p h e d f =
    let r = parent-parts all i p h f in
    record { earlier = r.earlier; first = r.first; given = parent_is_given (name_at all i) (name_at all p) e d r.free r.short }

pub given : Given
given = record {
  names = λ t. record { accepted = name_is_given t; given = name-accepted t };
  parents = λ all i p h. record { accepted = parent-stands all i p h; given = parent-accepted all i p };
  name_scripts = λ t e. name-read t (name-parts t e).0 (name-parts t e).1;
  parent_scripts = λ t u e d f h. parent-read t u (name-parts t e).0 (name-parts u d).0 f (ltb-false script_limit _ h);
}
