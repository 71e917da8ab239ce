-- The checks of nodes: of each byte of a name, of the rows, and of names and parents, each as a loop makes it, turn by turn. The premises are what the code
-- has learned. Assumes nothing.
use Prim.Native.Nat.{ℕ, ◌+◌, ◌-◌, ◌*◌, ◌/◌, ◌≤◌, ◌<◌}
use mathlib.Core.Path.{◌≡◌, refl, sym, ap, ◌∙◌}
use mathlib.Core.List.{List, [], ◌∷◌}
use mathlib.Core.Bool.{Bool, true, false, ◌&&◌, not, and-false, or-false, true≢false}
use native.Mathlib.Decide.{ℕ_discrete}
use native.Mathlib.Numerals.{add-one}
use native.Mathlib.Omega.{arith}
use borrow.Author.Tests.{eq-eqb, ne_eqb, lt-ltb, le-ltb, not-true, not-false}
use lib.Dec.{eqb, ltb}
use lib.ListN.{length, drop, get_or, length-drop, drop_of_length-le}
use lib.Seq.{drop-cons, get_or-drop, length-take-le}
use Rattle.numbers.specs.Limits.{over, script_limit}
use Rattle.numbers.specs.Signs.{asterisk, carriage_return, hash, line_feed, slash, space, tab}
use Rattle.lists.proofs.Tests.{both, first_fails, passes_on}
use Rattle.packing.specs.Padding.{all_zero}
use Rattle.lists.specs.Each.{every}
use Rattle.packing.specs.Tables.{fine, packs, things}
use Rattle.packing.proofs.Turns.{left, left_all, starts_at, size_at, row_bad, size_bad, row_more, end_bad, end_good, packs_no, packs-zero, packs-rows}
use Rattle.linker_script.specs.Skip.{blank, skips}
use Rattle.reading_tokens.specs.Tokens.{named}
use Rattle.std.specs.Prelude.{Option, Some, None}
use Rattle.book.specs.Books.{Node, first_named, found, no_node}
use Rattle.book.specs.Layout.{NodeLies, name_of_node, node_form, node_width}
use Rattle.book.specs.Sanity.{is_number, name_at, name_good, name_script, named_good, no_semicolon, nodes_good, parent_good, parent_script}
use Rattle.book.specs.View.{any_node}
use Rattle.book.proofs.Forms.{node_laws}
use Rattle.book.proofs.FirstNamed.{found_here, found_nowhere}
use Rattle.book.proofs.Spelling.{name-length, parent-length}
use Rattle.book.proofs.NodeRows.{Row, Walk, node_row, nodes-count, walk-count, walk_on, walk-row, walk-stands}

-- ---- a test of each byte: what is left from i on decides
module _ (ok : ℕ → Bool) (s : List ℕ) (i : ℕ) (z : every ok s ≡ every ok (drop i s)) where
  pub every_stops : i < length s → ok (get_or s i 0) ≡ false → false ≡ every ok s
  unfolding every
  every_stops h f = sym (z ∙ rw (drop-cons s i 0 h, f))

  pub every_more : i < length s → ok (get_or s i 0) ≡ true → every ok s ≡ every ok (drop (i + 1) s)
  unfolding every
  every_more h t = z ∙ rw (add-one, drop-cons s i 0 h, t)

  pub every-ends : length s ≤ i → true ≡ every ok s
  unfolding every
  every-ends h = sym (z ∙ rw (drop_of_length-le s h))

-- ---- the rows: what is left from row i on, which starts at `at` and whose name at o, decides
pub record Rowing (n p : ℕ) (l m : List ℕ) (i at o : ℕ) : Type 0 where
  pub within : i ≤ n
  pub place : at ≡ 3 * i
  pub start : o ≤ p
  pub goes : fine node_form any_node p n 0 l m ≡ left node_form any_node p n i o l m

module _ (n p : ℕ) (l m : List ℕ) where
  pub rows_start : Rowing n p l m 0 0 0
  rows_start = record { within = omega arith; place = omega arith; start = omega arith; goes = left_all node_form any_node p n l m }

  module _ (i at o : ℕ) (z : Rowing n p l m i at o) (room : 3 * n ≤ length l) where
    starts_is : starts_at node_form i o l ≡ eqb (get_or l at 0) o
    unfolding node_form
    starts_is = let e : 3 * i + 0 ≡ at = omega (arith, z.place) in rw (get_or-drop, e)

    size_is : size_at node_form i l ≡ get_or l (at + 1) 0
    unfolding node_form
    size_is = let e : 3 * i + 1 ≡ at + 1 = omega (arith, z.place) in rw (get_or-drop, e)

    wide : node_form.width * n ≤ length l
    unfolding node_form
    wide = room

    pub start_bad : i < n → (get_or l at 0 ≡ o → ⊥) → false ≡ fine node_form any_node p n 0 l m
    start_bad h f = sym (z.goes ∙ row_bad node_form any_node p n l m i o h wide (starts_is ∙ ne_eqb _ _ f))

    pub name-past : i < n → p - o < get_or l (at + 1) 0 → false ≡ fine node_form any_node p n 0 l m
    name-past h f = sym (z.goes ∙ size_bad node_form any_node p n l m i o h wide (omega (arith, z.start, size_is)))

    module _ (h : i < n) (e : get_or l at 0 ≡ o) where
      told : starts_at node_form i o l ≡ true
      told = starts_is ∙ eq-eqb _ _ e

      pub rows_more : get_or l (at + 1) 0 ≤ p - o → Rowing n p l m (i + 1) (at + 3) (o + get_or l (at + 1) 0)
      rows_more f = record {
        within = omega arith;
        place = omega (arith, z.place);
        start = omega (arith, z.start);
        goes = z.goes ∙ row_more node_form any_node p n l m i o h wide told (omega (arith, z.start, size_is)) refl
            ∙ ap (λ (k : ℕ). left node_form any_node p n (i + 1) (o + k) l m) size_is;
      }

    pub names-short : n ≤ i → (o ≡ p → ⊥) → false ≡ fine node_form any_node p n 0 l m
    names-short h f = sym (z.goes ∙ end_bad node_form any_node p n l m i o (omega (arith, z.within)) f)

    pub rows_end : (r : Bool) → n ≤ i → o ≡ p → r ≡ all_zero (drop at l) → r ≡ fine node_form any_node p n 0 l m
    unfolding node_form
    rows_end r h f e =
        let k : at ≡ 3 * n = omega (arith, z.place, z.within) in
        e ∙ rw k (sym (z.goes ∙ end_good node_form any_node p n l m i o (omega (arith, z.within)) f))

-- ---- the packing from its parts
module _ (n p : ℕ) (l m : List ℕ) where
  pub names_lack : length m < p → false ≡ packs node_form any_node n p l m
  names_lack h = packs_no node_laws (λ t. omega (arith, t.byteroom))

  pub rows_lack : length l / 3 < n → false ≡ packs node_form any_node n p l m
  unfolding node_form
  rows_lack h = packs_no node_laws (λ t. omega (arith, t.rowroom))

  pub rest_bad : (z : Bool) → z ≡ all_zero (drop p m) → not z ≡ true → false ≡ packs node_form any_node n p l m
  rest_bad z e f = packs-zero node_form any_node n p l m e (not-true z f)

  pub rows_decide : (z r : Bool) → p ≤ length m → z ≡ all_zero (drop p m) → not z ≡ false → r ≡ fine node_form any_node p n 0 l m
      → r ≡ packs node_form any_node n p l m
  rows_decide z r h e f q = packs-rows node_form any_node n p l m h e (not-false z f) q

-- ---- a name: of the blanks only CR is a byte of one
pub named_blank : (b : ℕ) → named b ≡ true → blank b ≡ eqb b carriage_return
unfolding named blank
named_blank b e = go (ℕ_discrete b space) (ℕ_discrete b tab) (ℕ_discrete b line_feed)
  where
    go : Dec (b ≡ space) → Dec (b ≡ tab) → Dec (b ≡ line_feed) → blank b ≡ eqb b carriage_return
    go (yes z) y x = absurd (true≢false (sym (rw z at e)))
    go (no z) (yes y) x = absurd (true≢false (sym (rw y at e)))
    go (no z) (no y) (yes x) = absurd (true≢false (sym (rw x at e)))
    go (no z) (no y) (no x) = rw (ne_eqb b space z, ne_eqb b tab y, ne_eqb b line_feed x) (or-false (eqb b carriage_return))

pub name-blank : (t : List ℕ) → every named t ≡ true → blank (get_or t 0 0) ≡ eqb (get_or t 0 0) carriage_return
unfolding every blank
name-blank [] e = refl
name-blank (b ∷ t) e = named_blank b (both (named b) (every named t) e).0

-- whether it begins with what a skip takes, by its first byte b
pub first_blank : (t : List ℕ) (b : ℕ) → b ≡ get_or t 0 0 → (k : ℕ) → b ≡ k → blank k ≡ true → true ≡ skips t 0
first_blank t b e k h f = rw (← e, h, f)

module _ (t : List ℕ) (n : every named t ≡ true) (b : ℕ) (e : b ≡ get_or t 0 0) where
  pub first_hash : b ≡ hash → true ≡ skips t 0
  first_hash h = rw (name-blank t n, ← e, h)

  pub first_slash : b ≡ slash → (c : ℕ) → c ≡ get_or t 1 0 → eqb c asterisk ≡ skips t 0
  first_slash g c f = rw (name-blank t n, ← e, ← f, g)

  pub first_other : (b ≡ carriage_return → ⊥) → (b ≡ hash → ⊥) → (b ≡ slash → ⊥) → false ≡ skips t 0
  first_other k h g = rw (name-blank t n, ← e, ne_eqb b carriage_return k, ne_eqb b hash h, ne_eqb b slash g)

module _ (t : List ℕ) where
  pub name_none : length t ≡ 0 → false ≡ name_good t
  unfolding name_good
  name_none h = simp (le-ltb 0 (length t) (omega arith))

  -- no script has room for it
  pub name-long : script_limit - 3 < length t → false ≡ name_good t
  unfolding name_good
  name-long k = simp (lt-ltb script_limit (length (name_script t)) (omega (arith, name-length t)), and-false)

  pub name_bad : (r : Bool) → r ≡ every named t → not r ≡ true → false ≡ name_good t
  unfolding name_good
  name_bad r e f = simp (sym e ∙ not-true r f, and-false)

  module _ (h : length t ≡ 0 → ⊥) where
    name_some : name_good t ≡ (not (over script_limit (name_script t)) && (every named t && not (skips t 0)))
    unfolding name_good
    name_some = simp (lt-ltb 0 (length t) (omega arith))

    module _ (k : length t ≤ script_limit - 3) where
      name-parts : name_good t ≡ (every named t && not (skips t 0))
      name-parts = passes_on name_some (ap not (le-ltb script_limit (length (name_script t)) (omega (arith, name-length t))))

      pub name-ends : (r q : Bool) → r ≡ every named t → not r ≡ false → q ≡ skips t 0 → not q ≡ name_good t
      name-ends r q e f g = ap not g ∙ sym (passes_on name-parts (sym e ∙ not-false r f))

  -- what `is_skipped_first` asks
  pub names-asked : (r : Bool) → r ≡ every named t → not r ≡ false → every named t ≡ true
  names-asked r e f = sym e ∙ not-false r f

-- ---- a parent: p can be that of node i
-- whether no script has room for a node's name t with its parent's u, by their lengths
module _ (t u : List ℕ) where
  pub parent-longer : script_limit < length u → true ≡ over script_limit (parent_script t u)
  parent-longer h = sym (lt-ltb script_limit (length (parent_script t u)) (omega (arith, parent-length t u)))

  pub name-longer : script_limit < length t → true ≡ over script_limit (parent_script t u)
  name-longer h = sym (lt-ltb script_limit (length (parent_script t u)) (omega (arith, parent-length t u)))

  pub both_long : ltb script_limit (2 * length u + length t + 6) ≡ over script_limit (parent_script t u)
  both_long = rw parent-length

module _ (xs : List Node) (i p : ℕ) where
  pub parent_none : p ≡ 0 → true ≡ parent_good xs i p
  unfolding parent_good
  parent_none e = simp (eq-eqb p 0 e)

  module _ (h : p ≡ 0 → ⊥) where
    parent-parts : parent_good xs i p
        ≡ (ltb p i
        && (not (over script_limit (parent_script (name_at xs i) (name_at xs p)))
        && (is_number p (first_named xs 0 (name_at xs p)) && every no_semicolon (name_at xs p))))
    unfolding parent_good
    parent-parts = simp (ne_eqb p 0 h)

    pub parent-late : i ≤ p → false ≡ parent_good xs i p
    parent-late w = sym (first_fails _ parent-parts (le-ltb p i w))

module _ (n b : ℕ) (l m : List ℕ) (g : packs node_form any_node n b l m ≡ true) (i p : ℕ) (h : i < n) (w : p < i) where
  abbrev nodes : List Node
  nodes = things node_form n l m

  parent_row : Row n l m p
  parent_row = node_row n b l m g p (omega arith)

  own_row : Row n l m i
  own_row = node_row n b l m g i h

  pub parent-lies : NodeLies l m p
  parent-lies = parent_row.lies

  pub own_lies : NodeLies l m i
  own_lies = own_row.lies

  module _ (t u : List ℕ) (a : t ≡ name_of_node l m i) (c : u ≡ name_of_node l m p) (y : p ≡ 0 → ⊥) (o : Bool)
      (k : o ≡ over script_limit (parent_script t u)) where
    own_is : t ≡ name_at nodes i
    own_is = a ∙ own_row.name

    parent_is : u ≡ name_at nodes p
    parent_is = c ∙ parent_row.name

    rest_decides : parent_good nodes i p ≡ (not o && (is_number p (first_named nodes 0 (name_at nodes p)) && every no_semicolon (name_at nodes p)))
    rest_decides = passes_on (parent-parts nodes i p y) (lt-ltb p i w) ∙ rw (k, own_is, parent_is)

    -- no script has room for both
    pub parent-long : o ≡ true → false ≡ parent_good nodes i p
    parent-long f = sym (first_fails _ rest_decides (ap not f))

    module _ (f : o ≡ false) (r : Option ℕ) (e : r ≡ found (first_named nodes 0 u)) where
      abbrev first : Option ℕ
      first = first_named nodes 0 (name_at nodes p)

      number_decides : parent_good nodes i p ≡ (is_number p first && every no_semicolon (name_at nodes p))
      number_decides = passes_on rest_decides (ap not f)

      parent_first : r ≡ found first
      parent_first = e ∙ ap (λ (s : List ℕ). found (first_named nodes 0 s)) parent_is

      none_told : r ≡ None → is_number p first ≡ false
      none_told v = rw (found_nowhere r first parent_first v)

      number_told : (q : ℕ) → r ≡ Some q → is_number p first ≡ eqb q p
      number_told q v = rw (found_here r first q parent_first v)

      -- no node has its name
      pub parent-nowhere : r ≡ None → false ≡ parent_good nodes i p
      parent-nowhere v = sym (first_fails _ number_decides (none_told v))

      -- an earlier node has its name
      pub parent-again : (q : ℕ) → r ≡ Some q → (q ≡ p → ⊥) → false ≡ parent_good nodes i p
      parent-again q v x = sym (first_fails _ number_decides (number_told q v ∙ ne_eqb q p x))

      -- it is the first, and its name's bytes decide
      pub parent-ends : (q : ℕ) (z : Bool) → r ≡ Some q → q ≡ p → z ≡ every no_semicolon u → z ≡ parent_good nodes i p
      parent-ends q z v x d = d ∙ ap (every no_semicolon) parent_is ∙ sym (passes_on number_decides (number_told q v ∙ eq-eqb q p x))

-- ---- the nodes: what is left from node i on decides
pub record Judging (n p : ℕ) (l m : List ℕ) (i : ℕ) : Type 0 where
  pub walk : Walk n p l m i
  pub goes : nodes_good (things node_form n l m) ≡ named_good (things node_form n l m) i (drop i (things node_form n l m))

-- the first of some nodes, and the nodes behind it
root_parts : (xs : List Node) → 0 < length xs
    → nodes_good xs ≡ (eqb (length (get_or xs 0 no_node).name) 0 && (eqb (get_or xs 0 no_node).parent 0 && named_good xs 1 (drop 1 xs)))
unfolding nodes_good
root_parts [] h = absurd (omega arith)
root_parts (x ∷ xs) h = refl

-- node i of them, and the nodes behind it
node-parts : (xs : List Node) (i : ℕ) → i < length xs
    → named_good xs i (drop i xs)
    ≡ (name_good (get_or xs i no_node).name && (parent_good xs i (get_or xs i no_node).parent && named_good xs (i + 1) (drop (i + 1) xs)))
unfolding named_good
node-parts xs i h = rw (drop-cons xs i no_node h, add-one)

pub nodes_none : (n : ℕ) (l m : List ℕ) → n ≡ 0 → false ≡ nodes_good (things node_form n l m)
unfolding nodes_good things
nodes_none n l m e = rw e

module _ (n p : ℕ) (l m : List ℕ) (g : packs node_form any_node n p l m ≡ true) where
  root_row : (n ≡ 0 → ⊥) → Row n l m 0
  root_row y = node_row n p l m g 0 (omega arith)

  -- its numbers lie within the rows
  pub root_first : (n ≡ 0 → ⊥) → 1 < length l
  root_first y = omega (arith, (root_row y).lies.within)

  pub root_second : (n ≡ 0 → ⊥) → 2 < length l
  root_second y = omega (arith, (root_row y).lies.within)

  module _ (y : n ≡ 0 → ⊥) where
    root_long : length (get_or (things node_form n l m) 0 no_node).name ≡ get_or l 1 0
    root_long =
        let r = root_row y in
        sym (ap length r.name) ∙ length-take-le (get_or l 1 0) (drop (get_or l 0 0) m) (omega (arith, r.lies.room, length-drop (get_or l 0 0) m))

    root_is : nodes_good (things node_form n l m)
        ≡ (eqb (get_or l 1 0) 0 && (eqb (get_or l 2 0) 0 && named_good (things node_form n l m) 1 (drop 1 (things node_form n l m))))
    root_is =
        let r = root_row y in
        root_parts (things node_form n l m) (omega (arith, nodes-count n p l m g)) ∙ rw (root_long, ← r.parent)

    -- the first node has a name, or a parent
    pub root_named : (get_or l 1 0 ≡ 0 → ⊥) → false ≡ nodes_good (things node_form n l m)
    root_named f = sym (first_fails _ root_is (ne_eqb _ _ f))

    pub root_below : get_or l 1 0 ≡ 0 → (get_or l 2 0 ≡ 0 → ⊥) → false ≡ nodes_good (things node_form n l m)
    root_below e f = sym (first_fails _ (passes_on root_is (eq-eqb _ _ e)) (ne_eqb _ _ f))

    -- it has neither, and the nodes behind it decide
    pub nodes_start : get_or l 1 0 ≡ 0 → get_or l 2 0 ≡ 0 → Judging n p l m 1
    nodes_start e f = record {
      walk = walk-stands g (omega arith);
      goes = passes_on (passes_on root_is (eq-eqb _ _ e)) (eq-eqb _ _ f);
    }

module _ {n p : ℕ} {l m : List ℕ} {i : ℕ} (z : Judging n p l m i) where
  module _ (h : i < n) where
    pub judged_lies : NodeLies l m i
    judged_lies = (walk-row z.walk h).lies

    module _ {t : List ℕ} (a : t ≡ name_of_node l m i) {r : Bool} (e : r ≡ name_good t) where
      node_is : nodes_good (things node_form n l m)
          ≡ (r && (parent_good (things node_form n l m) i (get_or l (node_width * i + 2) 0) && named_good (things node_form n l m) (i + 1) (drop (i + 1) (things node_form n l m))))
      node_is =
          z.goes ∙ node-parts (things node_form n l m) i (omega (arith, walk-count z.walk))
          ∙ rw (← (walk-row z.walk h).parent, e, a, (walk-row z.walk h).name)

      pub node_misnamed : not r ≡ true → false ≡ nodes_good (things node_form n l m)
      node_misnamed f = sym (first_fails _ node_is (not-true r f))

      module _ {q : Bool} (d : q ≡ parent_good (things node_form n l m) i (get_or l (node_width * i + 2) 0)) (f : not r ≡ false) where
        pub node_misplaced : not q ≡ true → false ≡ nodes_good (things node_form n l m)
        node_misplaced k = sym (first_fails _ (passes_on node_is (not-false r f)) (sym d ∙ not-true q k))

        pub nodes_more : not q ≡ false → Judging n p l m (i + 1)
        nodes_more k = record {
          walk = walk_on z.walk h;
          goes = passes_on (passes_on node_is (not-false r f)) (sym d ∙ not-false q k);
        }

  pub nodes_end : n ≤ i → true ≡ nodes_good (things node_form n l m)
  unfolding named_good
  nodes_end h = sym (z.goes ∙ rw (drop_of_length-le (things node_form n l m) {i = i} (omega (arith, walk-count z.walk))))
