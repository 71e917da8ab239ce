-- A line with another mark is as right as before. Assumes nothing.
use Prim.Native.Nat.{ℕ, ◌≤◌}
use mathlib.Core.Path.{◌≡◌}
use mathlib.Core.Bool.{true}
use borrow.Author.Tests.{le-leb}
use lib.Dec.{leb, ltb}
use Rattle.numbers.specs.Classes.{all_class}
use Rattle.numbers.specs.Marks.{local}
use Rattle.lists.proofs.Tests.{both}
use Rattle.book.specs.declared.Frame.{Frame}
use Rattle.book.specs.Books.{Line}
use Rattle.book.specs.Edits.{marked}
use Rattle.book.specs.Sanity.{content_good, in_range, kind_allows, line_ok, offset_good}

pub marked_ok : (frame : Frame) (mark : ℕ) (x : Line) → mark ≤ 1 → line_ok frame x ≡ true → line_ok frame (marked mark x) ≡ true
unfolding line_ok in_range offset_good kind_allows content_good
marked_ok frame mark x h g =
    let a = both (in_range frame.nodes x) _ g in
    let b = both (ltb x.node frame.nodes) _ a.0 in
    let c = both (leb x.class all_class) _ b.1 in
    let d = both (leb x.section local) _ c.1 in
    let e = both (leb x.language 1) _ d.1 in
    let f = both (leb x.struck 1) _ e.1 in
    rw (b.0, c.0, d.0, e.0, le-leb mark 1 h, f.1) a.1
