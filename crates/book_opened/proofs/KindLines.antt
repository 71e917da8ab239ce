-- The lines of a book while its text is read, as the Rust kind asks of its own; and a book of a kind that its lines allow fits and is sane (`kind_fits`,
-- `kind-sane`). Assumes nothing.
use Prim.Native.Nat.{ℕ}
use mathlib.Core.Path.{◌≡◌, refl, sym, ◌∙◌}
use mathlib.Core.List.{List, [], ◌∷◌, ◌++◌}
use mathlib.Core.Bool.{Bool, true, false, not, ◌&&◌, ◌||◌, true≢false, or-true}
use native.Mathlib.Omega.{arith}
use borrow.Author.Tests.{eq-eqb, eqb-true, not-false, not-true}
use lib.Dec.{eqb}
use lib.ListN.{length}
use Rattle.numbers.specs.Limits.{script_limit}
use Rattle.numbers.specs.Classes.{all_class, exact_class}
use Rattle.numbers.specs.Marks.{global, local}
use Rattle.lists.proofs.Tests.{both}
use Rattle.lists.specs.Each.{any, every}
use Rattle.packing.specs.Tables.{packed, rows}
use Rattle.packing.proofs.TableLaws.{every_append}
use Rattle.book.specs.Books.{Node, Line, Book, frame_with, regular, rust}
use Rattle.book.specs.Layout.{Buffers, edit_form}
use Rattle.book.specs.Edits.{all_back, journal_fits, stands}
use Rattle.book.specs.Sanity.{bare_star, in_range, kind_allows, kind_good, line_ok, offset_good, sane, some_star}
use Rattle.book.specs.View.{Fits}
use Rattle.book_opened.proofs.Fitting.{Roomy}
use Rattle.book_opened.proofs.Nodes.{Before, NodesGood, nodes-told}

-- ---- tests that are joined by `||`
or_left : (a b : Bool) → (a || b) ≡ false → a ≡ false
or_left true b e = e
or_left false b e = refl

or_right : (a b : Bool) → (a || b) ≡ false → b ≡ false
or_right true b e = absurd (true≢false e)
or_right false b e = e

-- ---- the Rust kind: what `mixed` and `starred` say of the lines
pub record RustLines (mixed starred : Bool) (ys : List Line) : Type 0 where
  pub star : starred ≡ true → some_star ys ≡ true
  pub globals : mixed ≡ false → every (kind_allows rust) ys ≡ true

pub rust_start : RustLines false false []
unfolding every
rust_start = record { star = λ e. absurd (true≢false (sym e)); globals = λ e. refl }

-- what makes a script mixed
pub rust-mixed : {m s : Bool} {ys : List Line} (more : Bool) → RustLines m s ys → RustLines (m || more) s ys
rust-mixed {m} more t = record { star = t.star; globals = λ e. t.globals (or_left m more e) }

star-append : (xs ys : List Line) → some_star (xs ++ ys) ≡ (some_star xs || some_star ys)
unfolding any some_star
star-append [] ys = refl
star-append (x ∷ xs) ys = go (bare_star x) (star-append xs ys)
  where
    go : (t : Bool) → some_star (xs ++ ys) ≡ (some_star xs || some_star ys) → (t || some_star (xs ++ ys)) ≡ (t || some_star xs || some_star ys)
    go true e = refl
    go false e = e

-- a line more: outside an extern block it has no language, and in one among the globals the script is mixed
module _ (mixed starred inside : Bool) (ys : List Line) (y : Line) (t : RustLines mixed starred ys)
    (plain : inside ≡ false → y.language ≡ 0) (among : inside ≡ true → y.section ≡ 0 → mixed ≡ true) where
  new-star : eqb y.section local && (eqb y.class all_class && not inside) ≡ true → some_star (y ∷ []) ≡ true
  unfolding any some_star bare_star
  new-star e =
      let a = both (eqb y.section local) _ e in
      let b = both (eqb y.class all_class) _ a.1 in
      rw (a.0, b.0, eq-eqb y.language 0 (plain (not-true inside b.1)))

  new-global : mixed ≡ false → eqb y.section global && not (eqb y.class exact_class) ≡ false → kind_allows rust y ≡ true
  unfolding kind_allows
  new-global m e = go (eqb y.section global) refl e inside refl
    where
      go : (v : Bool) → eqb y.section global ≡ v → v && not (eqb y.class exact_class) ≡ false → (w : Bool) → inside ≡ w
          → (not v || (eqb y.class exact_class && eqb y.language 0)) ≡ true
      go false z f w i = refl
      go true z f false i = rw (not-false (eqb y.class exact_class) f) (eq-eqb y.language 0 (plain i))
      go true z f true i = absurd (true≢false (sym (among i (eqb-true _ _ z)) ∙ m))

  pub rust-line : RustLines
      (mixed || (eqb y.section global && not (eqb y.class exact_class)))
      (starred || (eqb y.section local && (eqb y.class all_class && not inside)))
      (ys ++ y ∷ [])
  unfolding every
  rust-line = record {
    star = λ e. star-append ys (y ∷ []) ∙ go starred refl e;
    globals = λ e. every_append (kind_allows rust) ys (y ∷ []) (t.globals (or_left mixed _ e)) (rw (new-global (or_left mixed _ e) (or_right mixed _ e)));
  }
    where
      go : (v : Bool) → starred ≡ v → (v || (eqb y.section local && (eqb y.class all_class && not inside))) ≡ true
          → (some_star ys || some_star (y ∷ [])) ≡ true
      go true z e = rw (t.star z)
      go false z e = rw (new-star e) (or-true (some_star ys))

-- ---- a book of a kind that its lines allow
allowed : (kind n : ℕ) (ys : List Line) → every (line_ok (frame_with regular n)) ys ≡ true → every (kind_allows kind) ys ≡ true → every (line_ok (frame_with kind n)) ys ≡ true
unfolding every line_ok
allowed kind n [] e f = refl
allowed kind n (y ∷ ys) e f =
    let a = both (line_ok (frame_with regular n) y) _ e in
    let b = both (in_range n y) _ a.0 in
    let o = both (offset_good y) _ b.1 in
    let c = both (kind_allows regular y) _ o.1 in
    let d = both (kind_allows kind y) _ f in
    rw (b.0, o.0, d.0, c.1) (allowed kind n ys a.1 d.1)

pub regular-allows : (ys : List Line) → every (kind_allows regular) ys ≡ true
unfolding every kind_allows
regular-allows [] = refl
regular-allows (y ∷ ys) = regular-allows ys

module _ (b : Buffers) (kind : ℕ) (xs : List Node) (ys : List Line) (r : Roomy b xs ys) (n : NodesGood xs)
    (ok : every (line_ok (frame_with regular (length xs))) ys ≡ true) (stand : every stands ys ≡ true) (allows : every (kind_allows kind) ys ≡ true) where
  abbrev book : Book
  book = record { kind = kind; nodes = xs; lines = ys; edits = [] }

  pub kind_fits : Fits b book
  unfolding packed rows edit_form every
  kind_fits = record {
    node_room = r.node_rows;
    name_room = r.names;
    line_room = r.line_rows;
    pool_room = r.pool;
    edit_room = omega arith;
    few_nodes = r.few_nodes;
    few_lines = r.few_lines;
    few_bytes = r.few_bytes;
    few_edits = omega arith;
    lines_ok = allowed kind (length xs) ys ok allows;
    edits_ok = refl;
  }

  pub kind-sane : Before (length xs) script_limit xs → kind_good book ≡ true → sane book ≡ true
  unfolding sane journal_fits all_back
  kind-sane l k = rw (nodes-told xs n l, k) stand
