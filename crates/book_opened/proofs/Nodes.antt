-- The nodes of a book while its text is read are good: node 0 has neither name nor parent, and the others have a name and a parent that a reading gives. It
-- holds at the start, where a named node begins and where its parent is set, and then, where no name is too long for a script, `nodes_good` is true.
-- Assumes nothing.
use Prim.Native.Nat.{ℕ, suc, ◌+◌, ◌-◌, ◌*◌, ◌<◌, ◌≤◌}
use mathlib.Core.Path.{◌≡◌, refl, ap, ◌∙◌}
use mathlib.Core.List.{List, [], ◌∷◌, ◌++◌}
use mathlib.Core.Bool.{Bool, true, false, ◌&&◌, and-false, or-true}
use Rattle.std.specs.Prelude.{Some}
use native.Mathlib.Decide.{dec_lt, ℕ_discrete}
use native.Mathlib.Nat.{add-zero}
use native.Mathlib.Omega.{arith}
use borrow.Author.Tests.{eq-eqb, le-ltb, lt-ltb}
use lib.Dec.{eqb}
use lib.ListN.{length, get_or, set, drop, length-append, length-drop, length-set, length-take, get_or-append, get_or-eq_default}
use lib.Seq.{get_or-append_seam, get_or-drop, get_or-set_other, get_or-set_same, get_or-take}
use Rattle.linker_script.specs.Parts.{part}
use Rattle.numbers.specs.Limits.{script_limit}
use Rattle.numbers.specs.Signs.{asterisk, slash}
use Rattle.lists.specs.Each.{every}
use Rattle.packing.proofs.TableLaws.{every-from}
use Rattle.linker_script.specs.Skip.{skips}
use Rattle.linker_script.proofs.Skipping.{Stopped}
use Rattle.reading_tokens.specs.Tokens.{named}
use Rattle.reading.proofs.Origins.{Named}
use Rattle.book.specs.Books.{Node, first_named, no_node}
use Rattle.book.specs.Sanity.{name_at, name_good, name_script, named_good, no_semicolon, nodes_good, parent_good, parent_script}
use Rattle.book.proofs.Spelling.{name-length, parent-length}
use Rattle.book.proofs.FirstNamed.{first_front, first_has, first_set, name_set}

-- ---- a part of the text
module _ (s : List ℕ) (p n : ℕ) where
  pub part_length : length (part s p n) ≤ n
  part_length = omega (arith, length-take n (drop p s))

  part_at : (i : ℕ) → i < n → get_or (part s p n) i 0 ≡ get_or s (p + i) 0
  part_at i h = rw (get_or-take n (drop p s) i 0, get_or-drop)

  -- each of its bytes passes a test
  pub every-part : (ok : ℕ → Bool) → ((i : ℕ) → i < n → ok (get_or s (p + i) 0) ≡ true) → every ok (part s p n) ≡ true
  every-part ok f = every-from ok (part s p n) 0 (λ i h. let k : i < n = omega (arith, part_length) in rw (part_at i k) (f i k))

-- ---- a name
-- where a skip stopped, a part of the text does not begin with what a skip takes
unskipped : (s : List ℕ) (p n : ℕ) → 0 < n → Stopped s p → skips (part s p n) 0 ≡ false
unskipped s p n h t =
    let z : get_or (part s p n) 0 0 ≡ get_or s p 0 = rw add-zero at (part_at s p n 0 h) in
    rw (z, t.no_blank, t.no_hash) (go (dec_lt 1 n))
  where
    go : Dec (1 < n) → eqb (get_or s p 0) slash && eqb (get_or (part s p n) 1 0) asterisk ≡ false
    go (yes k) = rw (part_at s p n 1 k) t.no_comment
    go (no k) =
        let z : get_or (part s p n) 1 0 ≡ 0 = get_or-eq_default (part s p n) 0 (omega (arith, part_length s p n)) in
        rw z (and-false (eqb (get_or s p 0) slash))

-- a name as it is read: what `name_good` asks, but for its length
pub record NameRead (t : List ℕ) : Type 0 where
  pub some : 0 < length t
  pub bytes : every named t ≡ true
  pub free : skips t 0 ≡ false

pub name_is_read : (s : List ℕ) (p n : ℕ) → p + n ≤ length s → Named s p n → NameRead (part s p n)
name_is_read s p n h k = record {
  some = omega (arith, length-take n (drop p s), length-drop p s, k.some);
  bytes = every-part s p n named k.bytes;
  free = unskipped s p n k.some k.stopped;
}

pub name_told : (t : List ℕ) → NameRead t → length t + 3 ≤ script_limit → name_good t ≡ true
unfolding name_good
name_told t r h = rw (lt-ltb 0 (length t) r.some, le-ltb script_limit (length (name_script t)) (omega (arith, name-length t)), r.bytes, r.free)

-- ---- a parent: none, or an earlier node, the first of its name, which has no `;`; and a script has room for both names
pub data ParentGood (xs : List Node) (i q : ℕ) : Type 0 where
  none : q ≡ 0 → ParentGood xs i q
  earlier : q < i → 2 * length (name_at xs q) + length (name_at xs i) + 6 ≤ script_limit → first_named xs 0 (name_at xs q) ≡ Some q
      → every no_semicolon (name_at xs q) ≡ true → ParentGood xs i q

-- all nodes
pub record NodesGood (xs : List Node) : Type 0 where
  pub some : 0 < length xs
  pub base : get_or xs 0 no_node ≡ no_node
  pub names : (i : ℕ) → 0 < i → i < length xs → NameRead (name_at xs i)
  pub parents : (i : ℕ) → 0 < i → i < length xs → ParentGood xs i (get_or xs i no_node).parent

-- each of the first n of them but node 0 has a name that lies, with the three bytes `{};` behind it, before the place p
abbrev pub Before : ℕ → ℕ → List Node → Type 0
Before n p xs = (i : ℕ) → 0 < i → i < n → length (name_at xs i) + 3 ≤ p

-- and so the tests of specs/Sanity.antt of the book are passed
pub parent-told : (xs : List Node) (i q : ℕ) → ParentGood xs i q → parent_good xs i q ≡ true
unfolding parent_good
parent-told xs i q (none z) = rw (eq-eqb q 0 z)
parent-told xs i q (earlier h l e n) =
    let k = le-ltb script_limit (length (parent_script (name_at xs i) (name_at xs q))) (omega (arith, parent-length (name_at xs i) (name_at xs q))) in
    rw (lt-ltb q i h, k, e, eq-eqb q q refl, n) (or-true (eqb q 0))

named-told : (all : List Node) (i : ℕ) (xs : List Node) → ((j : ℕ) → j < length xs → name_good (get_or xs j no_node).name ≡ true)
    → ((j : ℕ) → j < length xs → parent_good all (i + j) (get_or xs j no_node).parent ≡ true) → named_good all i xs ≡ true
unfolding named_good
named-told all i [] f g = refl
named-told all i (x ∷ xs) f g =
    let z : i + 0 ≡ i = omega arith in
    rw (f 0 (omega arith), rw z at (g 0 (omega arith)))
    (named-told all (i + 1) xs (λ j h. f (suc j) (omega arith))
    (λ j h. let y : i + suc j ≡ i + 1 + j = omega arith in rw y at (g (suc j) (omega arith))))

pub nodes-told : (xs : List Node) → NodesGood xs → Before (length xs) script_limit xs → nodes_good xs ≡ true
unfolding nodes_good
nodes-told [] t l = absurd (omega (arith, t.some))
nodes-told (x ∷ xs) t l =
    let z : x ≡ no_node = t.base in
    rw (eq-eqb (length x.name) 0 (ap (λ (y : Node). length y.name) z), eq-eqb x.parent 0 (ap (λ (y : Node). y.parent) z))
    (named-told (x ∷ xs) 1 xs
    (λ j h. name_told (name_at xs j) (t.names (suc j) (omega arith) (omega arith)) (l (suc j) (omega arith) (omega arith)))
    (λ j h. let y : 1 + j ≡ suc j = omega arith in rw y (parent-told (x ∷ xs) (suc j) _ (t.parents (suc j) (omega arith) (omega arith)))))

-- ---- the start
pub nodes_start : NodesGood (no_node ∷ [])
nodes_start = record { some = omega arith; base = refl; names = λ i h k. absurd (omega arith); parents = λ i h k. absurd (omega arith) }

-- ---- a named node begins
abbrev pub fresh : List ℕ → Node
fresh name = record { name = name; parent = 0 }

pub name-front : (xs ys : List Node) (i : ℕ) → i < length xs → name_at (xs ++ ys) i ≡ name_at xs i
name-front xs ys i h = ap (λ (y : Node). y.name) (get_or-append xs ys no_node i h)

module _ (xs : List Node) (t : NodesGood xs) (name : List ℕ) (good : NameRead name) where
  one_more : length (xs ++ fresh name ∷ []) ≡ length xs + 1
  one_more = simp length-append

  parent-front : (ys : List Node) (i q : ℕ) → i < length xs → ParentGood xs i q → ParentGood (xs ++ ys) i q
  parent-front ys i q h (none z) = none z
  parent-front ys i q h (earlier k l e n) =
      let z = name-front xs ys q (omega arith) in
      let y = name-front xs ys i h in
      earlier k (rw (z, y) l) (rw z (first_front xs ys 0 (name_at xs q) q e)) (rw z n)

  at_last : (i : ℕ) → i ≡ length xs → get_or (xs ++ fresh name ∷ []) i no_node ≡ fresh name
  at_last i z = rw z (get_or-append_seam xs (fresh name) [] no_node)

  pub node_begins : NodesGood (xs ++ fresh name ∷ [])
  node_begins =
      let ys : List Node = fresh name ∷ [] in
      record {
        some = omega (arith, one_more);
        base = get_or-append xs ys no_node 0 t.some ∙ t.base;
        names = λ i h k. names i h (omega (arith, one_more)) (dec_lt i (length xs));
        parents = λ i h k. parents i h (omega (arith, one_more)) (dec_lt i (length xs));
      }
    where
      names : (i : ℕ) → 0 < i → i ≤ length xs → Dec (i < length xs)
          → NameRead (name_at (xs ++ fresh name ∷ []) i)
      names i h k (yes l) = rw (name-front xs (fresh name ∷ []) i l) (t.names i h l)
      names i h k (no l) = rw (ap (λ (y : Node). y.name) (at_last i (omega arith))) good

      parents : (i : ℕ) → 0 < i → i ≤ length xs → Dec (i < length xs)
          → ParentGood (xs ++ fresh name ∷ []) i (get_or (xs ++ fresh name ∷ []) i no_node).parent
      parents i h k (yes l) =
          rw (get_or-append xs (fresh name ∷ []) no_node i l)
          (parent-front (fresh name ∷ []) i (get_or xs i no_node).parent l (t.parents i h l))
      parents i h k (no l) = none (ap (λ (y : Node). y.parent) (at_last i (omega arith)))

-- ---- a parent is set: the first node of a name without `;`, before the last, where a script has room for both names
module _ (xs : List Node) (t : NodesGood xs) (name : List ℕ) (free : every no_semicolon name ≡ true) (first : ℕ)
    (named-so : first_named xs 0 name ≡ Some first) (before : first < length xs - 1)
    (short : 2 * length name + length (name_at xs (length xs - 1)) + 6 ≤ script_limit) where
  abbrev last : ℕ
  last = length xs - 1

  abbrev new : Node
  new = record { name = name_at xs last; parent = first }

  parent-set : (i q : ℕ) → ParentGood xs i q → ParentGood (set xs last new) i q
  parent-set i q (none z) = none z
  parent-set i q (earlier h l e n) =
      let z : name_at (set xs last new) q ≡ name_at xs q = name_set xs last q new refl in
      let y : name_at (set xs last new) i ≡ name_at xs i = name_set xs last i new refl in
      earlier h (rw (z, y) l) (rw z (first_set xs last new 0 (name_at xs q) refl ∙ e)) (rw z n)

  pub node_ends : NodesGood (set xs last new)
  node_ends = record {
    some = rw length-set t.some;
    base = get_or-set_other xs last 0 new no_node (λ z. omega (arith, z)) ∙ t.base;
    names = λ i h k. rw (name_set xs last i new refl) (t.names i h (rw length-set at k));
    parents = λ i h k. parents i h (rw length-set at k) (ℕ_discrete i last);
  }
    where
      parents : (i : ℕ) → 0 < i → i < length xs → Dec (i ≡ last) → ParentGood (set xs last new) i (get_or (set xs last new) i no_node).parent
      parents i h k (yes z) =
          let o : first - 0 ≡ first = omega arith in
          let w : name_at xs first ≡ name = rw o at (first_has xs 0 name first named-so).name in
          rw (z, get_or-set_same xs last new no_node (omega arith))
          (parent-set last first (earlier before (rw w short) (ap (first_named xs 0) w ∙ named-so) (rw w free)))
      parents i h k (no z) = rw (get_or-set_other xs last i new no_node z) (parent-set i (get_or xs i no_node).parent (t.parents i h k))
