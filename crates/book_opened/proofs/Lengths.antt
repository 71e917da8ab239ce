-- The names of a book while its text is read lie one behind the other in the text, each with the bytes `{};` behind it: those of the nodes that have ended
-- before the name of the node at hand, and this one before the place where the reading stands. It holds at the start and behind each event; so where the
-- reading ends each name has three bytes more in the text, and a parent's name stands in it twice. Assumes nothing.
use Prim.Native.Nat.{ℕ, ◌+◌, ◌-◌, ◌*◌, ◌<◌, ◌≤◌}
use mathlib.Core.Path.{◌≡◌, ap, ◌∙◌}
use mathlib.Core.List.{List, [], ◌∷◌, ◌++◌}
use native.Mathlib.Decide.{dec_lt}
use native.Mathlib.Omega.{arith}
use lib.ListN.{length, set, length-append, length-set}
use lib.Seq.{get_or-append_seam}
use Rattle.reading_cursors.specs.declared.Cursor.{Cursor}
use Rattle.reading.proofs.Spans.{Begins, Closes, Opens, Stays, has_name, is_open, of_node, of_none, outside, stage}
use Rattle.book.specs.Books.{Node, no_node}
use Rattle.book.specs.Sanity.{name_at}
use Rattle.book.proofs.FirstNamed.{name_set}
use Rattle.book_opened.proofs.Nodes.{Before, fresh, name-front}

-- the last node's number
abbrev pub at_hand : List Node → ℕ
at_hand xs = length xs - 1

pub data Spelt (c : Cursor) (xs : List Node) : Type 0 where
  none_open : stage c.place ≡ outside → Before (length xs) c.at xs → Spelt c xs
  -- its name starts at p
  named : stage c.place ≡ has_name → (p : ℕ) → Before (at_hand xs) p xs → p + length (name_at xs (at_hand xs)) ≤ c.at → Spelt c xs
  opened : stage c.place ≡ is_open → (p : ℕ) → Before (at_hand xs) p xs → p + length (name_at xs (at_hand xs)) < c.at → Spelt c xs

pub spelt_start : (c : Cursor) → stage c.place ≡ outside → Spelt c (no_node ∷ [])
spelt_start c h = none_open h (λ i k l. absurd (omega arith))

before_on : (n p q : ℕ) (xs : List Node) → p ≤ q → Before n p xs → Before n q xs
before_on n p q xs h b i k l = omega (arith, b i k l)

module _ (c d : Cursor) (xs : List Node) where
  -- ---- a node begins
  module _ (p n : ℕ) (w : Begins c p n d) (name : List ℕ) (few : length name ≤ n) where
    at_end : name_at (xs ++ fresh name ∷ []) (at_hand (xs ++ fresh name ∷ [])) ≡ name
    at_end =
        let z : length (xs ++ fresh name ∷ []) - 1 ≡ length xs = omega (arith, length-append xs (fresh name ∷ [])) in
        ap (λ (i : ℕ). name_at (xs ++ fresh name ∷ []) i) z ∙ ap (λ (y : Node). y.name) (get_or-append_seam xs (fresh name) [] no_node)

    pub spelt-node : Spelt c xs → Spelt d (xs ++ fresh name ∷ [])
    spelt-node (none_open h b) =
        named w.behind p
        (λ i k l.
        let j : i < length xs = omega (arith, length-append xs (fresh name ∷ [])) in
        rw (name-front xs (fresh name ∷ []) i j) (omega (arith, b i k j, w.from)))
        (rw at_end (omega (arith, w.to)))
    spelt-node (named h q b k) = absurd (omega (arith, h, w.before))
    spelt-node (opened h q b k) = absurd (omega (arith, h, w.before))

  -- ---- a body opens
  pub spelt-body : Opens c d → c.at < d.at → Spelt c xs → Spelt d xs
  spelt-body (of_node f g) o (none_open h b) = absurd (omega arith)
  spelt-body (of_node f g) o (named h p b k) = opened g p b (omega arith)
  spelt-body (of_node f g) o (opened h p b k) = absurd (omega arith)
  spelt-body (of_none f g) o (none_open h b) = none_open g (before_on (length xs) c.at d.at xs (omega arith) b)
  spelt-body (of_none f g) o (named h p b k) = absurd (omega arith)
  spelt-body (of_none f g) o (opened h p b k) = absurd (omega arith)

  -- ---- a node stays as it is
  pub spelt-stays : Stays c d → c.at < d.at → Spelt c xs → Spelt d xs
  spelt-stays f o (none_open h b) = none_open (f ∙ h) (before_on (length xs) c.at d.at xs (omega arith) b)
  spelt-stays f o (named h p b k) = named (f ∙ h) p b (omega arith)
  spelt-stays f o (opened h p b k) = opened (f ∙ h) p b (omega arith)

  -- ---- a node ends
  module _ (p n : ℕ) (w : Closes c p n d) where
    pub spelt_end : Spelt c xs → Spelt d xs
    spelt_end (none_open h b) = absurd (omega (arith, h, w.before))
    spelt_end (named h q b k) = absurd (omega (arith, h, w.before))
    spelt_end (opened h q b k) = none_open w.behind (λ i x y. go i x y (dec_lt i (at_hand xs)))
      where
        go : (i : ℕ) → 0 < i → i < length xs → Dec (i < at_hand xs) → length (name_at xs i) + 3 ≤ d.at
        go i x y (yes z) = omega (arith, b i x z, w.from, w.to)
        go i x y (no z) =
            let e : at_hand xs ≡ i = omega arith in
            omega (arith, rw e at k, w.from, w.to)

    -- the name of an earlier node, which its parent text repeats, stands in the text twice
    pub twice-spelt : Spelt c xs → (i : ℕ) → 0 < i → i < at_hand xs → length (name_at xs i) ≤ n
        → 2 * length (name_at xs i) + length (name_at xs (at_hand xs)) + 6 ≤ d.at
    twice-spelt (none_open h b) i x y z = absurd (omega (arith, h, w.before))
    twice-spelt (named h q b k) i x y z = absurd (omega (arith, h, w.before))
    twice-spelt (opened h q b k) i x y z = omega (arith, b i x y, w.from, w.to)

-- ---- a node in the place of the last, of the same name
pub spelt-set : (d : Cursor) (xs : List Node) (y : Node) → y.name ≡ name_at xs (at_hand xs) → Spelt d xs → Spelt d (set xs (at_hand xs) y)
spelt-set d xs y e t = go t
  where
    same_name : (i : ℕ) → name_at (set xs (at_hand xs) y) i ≡ name_at xs i
    same_name i = name_set xs (at_hand xs) i y e

    go : Spelt d xs → Spelt d (set xs (at_hand xs) y)
    go (none_open h b) = none_open h (λ i k l. rw (same_name i) (b i k (rw length-set at l)))
    go (named h p b k) = named h p (λ i x z. rw (same_name i) (b i x (rw length-set at z))) (rw (length-set, same_name (at_hand xs)) k)
    go (opened h p b k) = opened h p (λ i x z. rw (same_name i) (b i x (rw length-set at z))) (rw (length-set, same_name (at_hand xs)) k)

-- ---- the end
pub spelt-ends : (c : Cursor) (xs : List Node) (n : ℕ) → stage c.place ≡ outside → c.at ≤ n → Spelt c xs → Before (length xs) n xs
spelt-ends c xs n f o (none_open h b) = before_on (length xs) c.at n xs o b
spelt-ends c xs n f o (named h p b k) = absurd (omega arith)
spelt-ends c xs n f o (opened h p b k) = absurd (omega arith)
