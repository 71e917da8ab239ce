-- The three forms meet the laws of packing: what is written is read again, and what is read is what is written. Assumes nothing.
use Prim.Native.Nat.{ℕ, ◌/◌, ◌%◌, ◌≤◌, ◌<◌}
use mathlib.Core.Path.{◌≡◌, refl}
use mathlib.Core.List.{List, [], ◌∷◌, ◌++◌}
use mathlib.Core.Bool.{Bool, true, false, not}
use native.Mathlib.Omega.{arith}
use lib.Dec.{eqb}
use borrow.Author.Tests.{eqb-true, eq-eqb, leb-false, leb-true, ltb-true, ne_eqb}
use lib.ListN.{length, drop, get_or}
use Rattle.lists.proofs.Tests.{both}
use Rattle.packing.proofs.TableLaws.{Laws}
use Rattle.book.specs.declared.Frame.{Frame}
use Rattle.book.specs.Books.{Line}
use Rattle.book.specs.Edits.{stands}
use Rattle.book.specs.Layout.{node_form, line_form, edit_form, code_of, has_mark, line_of, struck_mark}
use Rattle.book.specs.Sanity.{in_range, line_ok, edit_ok}
use Rattle.book.specs.View.{any_node}

-- the numbers at a list's front
two : (l : List ℕ) → 2 ≤ length l → get_or l 0 0 ∷ get_or l 1 0 ∷ drop 2 l ≡ l
two [] h = absurd (omega arith)
two (a ∷ []) h = absurd (omega arith)
two (a ∷ b ∷ t) h = refl

three : (l : List ℕ) → 3 ≤ length l → get_or l 0 0 ∷ get_or l 1 0 ∷ get_or l 2 0 ∷ drop 3 l ≡ l
three [] h = absurd (omega arith)
three (a ∷ []) h = absurd (omega arith)
three (a ∷ b ∷ []) h = absurd (omega arith)
three (a ∷ b ∷ c ∷ t) h = refl

five : (l : List ℕ) → 5 ≤ length l → get_or l 0 0 ∷ get_or l 1 0 ∷ get_or l 2 0 ∷ get_or l 3 0 ∷ get_or l 4 0 ∷ drop 5 l ≡ l
five [] h = absurd (omega arith)
five (a ∷ []) h = absurd (omega arith)
five (a ∷ b ∷ []) h = absurd (omega arith)
five (a ∷ b ∷ c ∷ []) h = absurd (omega arith)
five (a ∷ b ∷ c ∷ d ∷ []) h = absurd (omega arith)
five (a ∷ b ∷ c ∷ d ∷ e ∷ t) h = refl

none_of : (bs : List ℕ) → length bs ≡ 0 → [] ≡ bs
none_of [] e = refl
none_of (x ∷ bs) e = absurd (omega arith)

node-back_row : (o : ℕ) (l bs : List ℕ) → node_form.width ≤ length l → node_form.starts o l ≡ true → length bs ≡ node_form.size l
    → node_form.row o (node_form.back l bs) ++ drop node_form.width l ≡ l
unfolding node_form
node-back_row o l bs wide g sized = let e : get_or l 0 0 ≡ o = eqb-true _ _ g in simp (← e, sized) (three l wide)

pub node_laws : Laws node_form any_node
unfolding node_form
node_laws = record {
  long = λ o x. refl;
  row_starts = λ o x t. eq-eqb o o refl;
  row_size = λ o x t. refl;
  row_back = λ o x t w. refl;
  back_row = node-back_row;
  back_bytes = λ l bs e. refl;
}

-- a line's numbers are in range
pub record Ranged (nodes : ℕ) (x : Line) : Type 0 where
  pub node : x.node < nodes
  pub class : x.class ≤ 4
  pub section : x.section ≤ 1
  pub language : x.language ≤ 1
  pub struck : x.struck ≤ 1

pub ranged : (nodes : ℕ) (x : Line) → in_range nodes x ≡ true → Ranged nodes x
unfolding in_range
ranged nodes x w =
    let a = both _ _ w in
    let b = both _ _ a.1 in
    let c = both _ _ b.1 in
    let d = both _ _ c.1 in
    let e = both _ _ d.1 in
    record { node = ltb-true _ _ a.0; class = leb-true _ _ b.0; section = leb-true _ _ c.0; language = leb-true _ _ d.0; struck = leb-true _ _ e.0 }

line-row_back : (frame : Frame) (o : ℕ) (x : Line) (t : List ℕ) → line_ok frame x ≡ true → line_form.back (line_form.row o x ++ t) (line_form.bytes x) ≡ x
unfolding line_form line_ok
line-row_back frame o x t w =
    let r = ranged frame.nodes x (both _ _ w).0 in
    let a : code_of x % 32 / 4 ≡ x.class = omega arith in
    let b : code_of x % 4 / 2 ≡ x.section = omega arith in
    let c : code_of x % 2 ≡ x.language = omega arith in
    let d : code_of x / 32 ≡ x.struck = omega arith in
    simp (a, b, c, d)

-- a line stands where its code has no mark
pub stands_unmarked : (node code : ℕ) (bs : List ℕ) → stands (line_of node code bs) ≡ not (has_mark code)
stands_unmarked node code bs = by_mark (has_mark code) refl
  where
    by_mark : (b : Bool) → has_mark code ≡ b → eqb (code / struck_mark) 0 ≡ not b
    by_mark true e = ne_eqb (code / struck_mark) 0 (λ q. omega (arith, leb-true struck_mark code e))
    by_mark false e = eq-eqb (code / struck_mark) 0 (omega (arith, leb-false struck_mark code e))

-- the code of the line with that code
pub code_back : (node k : ℕ) (bs : List ℕ) → code_of (line_of node k bs) ≡ k
code_back node k bs = omega arith

line-back_row : (o : ℕ) (l bs : List ℕ) → line_form.width ≤ length l → line_form.starts o l ≡ true → length bs ≡ line_form.size l
    → line_form.row o (line_form.back l bs) ++ drop line_form.width l ≡ l
unfolding line_form
line-back_row o l bs wide g sized =
    let e : get_or l 2 0 ≡ o = eqb-true _ _ g in
    let k : code_of (line_of (get_or l 0 0) (get_or l 1 0) bs) ≡ get_or l 1 0 = code_back (get_or l 0 0) (get_or l 1 0) bs in
    simp (k, ← e, sized) (five l wide)

pub line_laws : (frame : Frame) → Laws line_form (line_ok frame)
unfolding line_form
line_laws frame = record {
  long = λ o x. refl;
  row_starts = λ o x t. eq-eqb o o refl;
  row_size = λ o x t. refl;
  row_back = line-row_back frame;
  back_row = line-back_row;
  back_bytes = λ l bs e. refl;
}

edit_back_row : (o : ℕ) (l bs : List ℕ) → edit_form.width ≤ length l → edit_form.starts o l ≡ true → length bs ≡ edit_form.size l
    → edit_form.row o (edit_form.back l bs) ++ drop edit_form.width l ≡ l
unfolding edit_form
edit_back_row o l bs wide g sized = two l wide

edit_back_bytes : (l bs : List ℕ) → length bs ≡ edit_form.size l → edit_form.bytes (edit_form.back l bs) ≡ bs
unfolding edit_form
edit_back_bytes l bs e = none_of bs e

pub edit_laws : Laws edit_form edit_ok
unfolding edit_form
edit_laws = record {
  long = λ o x. refl;
  row_starts = λ o x t. refl;
  row_size = λ o x t. refl;
  row_back = λ o x t w. refl;
  back_row = edit_back_row;
  back_bytes = edit_back_bytes;
}
