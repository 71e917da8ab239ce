-- The question whether no line is struck, turn by turn: what is left from row i on decides. A mark is told by the row alone, so the bytes are left out.
-- Assumes nothing.
use Prim.Native.Nat.{ℕ, zero, suc, ◌+◌, ◌-◌, ◌*◌, ◌/◌, ◌≤◌, ◌<◌}
use mathlib.Core.Path.{◌≡◌, refl, sym, ap, ◌∙◌}
use mathlib.Core.List.{List, []}
use mathlib.Core.Bool.{Bool, true, false, ◌&&◌}
use native.Mathlib.Omega.{arith}
use borrow.Author.Tests.{eq-eqb, leb-false, leb-true, ne_eqb}
use lib.Dec.{eqb}
use lib.ListN.{drop, get_or}
use lib.Seq.{drop-drop, get_or-drop}
use Rattle.lists.specs.Each.{every}
use Rattle.packing.specs.Tables.{things}
use Rattle.book.specs.Edits.{stands}
use Rattle.book.specs.Layout.{has_mark, line_form, line_width, struck_mark}

-- the bytes say nothing of it
marks_alone : (n : ℕ) (l m q : List ℕ) → every stands (things line_form n l m) ≡ every stands (things line_form n l q)
unfolding every things line_form
marks_alone zero l m q = refl
marks_alone (suc n) l m q =
    ap (λ (t : Bool). eqb (get_or l 1 0 / struck_mark) 0 && t) (marks_alone n (drop line_width l) (drop (get_or l 3 0) m) (drop (get_or l 3 0) q))

-- whether each line from row i on stands
abbrev left_stand : ℕ → ℕ → List ℕ → Bool
left_stand n i l = every stands (things line_form (n - i) (drop (line_width * i) l) [])

pub record Unstruck (n : ℕ) (l m : List ℕ) (i : ℕ) : Type 0 where
  pub within : i ≤ n
  pub left : every stands (things line_form n l m) ≡ left_stand n i l

module _ (n : ℕ) (l m : List ℕ) where
  -- at first all are left
  pub none_starts : Unstruck n l m 0
  none_starts =
      let z : n - 0 ≡ n = omega arith in
      record { within = omega arith; left = rw z (marks_alone n l m []) }

  module _ (i : ℕ) (u : Unstruck n l m i) where
    turn : i < n → every stands (things line_form n l m) ≡ (eqb (get_or l (line_width * i + 1) 0 / struck_mark) 0 && left_stand n (i + 1) l)
    unfolding every things line_form
    turn h =
        let k : n - i ≡ suc (n - (i + 1)) = omega arith in
        let d : line_width * i + line_width ≡ line_width * (i + 1) = omega arith in
        let r : List ℕ = drop (line_width * i) l in
        u.left
        ∙ ap (λ (v : ℕ). every stands (things line_form v (drop (line_width * i) l) [])) k
        ∙ ap (λ (t : Bool). eqb (get_or r 1 0 / struck_mark) 0 && t) (marks_alone (n - (i + 1)) (drop line_width r) (drop (get_or r 3 0) []) [])
        ∙ rw (get_or-drop, drop-drop, d)

    -- a struck line answers no
    pub none_stops : i < n → (x : Bool) → x ≡ has_mark (get_or l (line_width * i + 1) 0) → x ≡ true → false ≡ every stands (things line_form n l m)
    none_stops h x e t =
        let s = leb-true struck_mark (get_or l (line_width * i + 1) 0) (sym e ∙ t) in
        sym (turn h ∙ rw (ne_eqb (get_or l (line_width * i + 1) 0 / struck_mark) 0 (λ z. omega arith)))

    -- behind one that stands the rest decides
    pub none_more : i < n → (x : Bool) → x ≡ has_mark (get_or l (line_width * i + 1) 0) → x ≡ false → Unstruck n l m (i + 1)
    none_more h x e t =
        let s = leb-false struck_mark (get_or l (line_width * i + 1) 0) (sym e ∙ t) in
        record { within = omega arith; left = turn h ∙ rw (eq-eqb (get_or l (line_width * i + 1) 0 / struck_mark) 0 (omega arith)) }

    -- behind the last the answer is yes
    pub none_ends : n ≤ i → true ≡ every stands (things line_form n l m)
    unfolding every things
    none_ends h = let z : n - i ≡ 0 = omega arith in sym (u.left ∙ rw z)
