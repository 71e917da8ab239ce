-- What is printed of an input: the exits of `tell_input`. Assumes nothing.
use Prim.Native.Nat.{ℕ, ◌+◌, ◌-◌, ◌≤◌, ◌<◌}
use mathlib.Core.Path.{◌≡◌, refl}
use mathlib.Core.List.{List, [], append-nil}
use mathlib.Core.Bool.{cond}
use borrow.Author.Tests.{le-ltb, lt-ltb}
use lib.Dec.{leb}
use lib.ListN.{length, take, drop}
use Rattle.numbers.specs.Refusals.{too_long}
use Rattle.book.specs.Layout.{Buffers}
use Rattle.book_opening.specs.Opening.{as_script, opening}
use Rattle.input.specs.Splitting.{mark, part_before}
use Rattle.printing.specs.Printing.{Begins, refused_line}
use Rattle.printing_listing.specs.Listing.{input_opening}
use Rattle.printing_listing.proofs.Inputs.{script-part, symbols-part}
use Rattle.printing_why.specs.Whys.{PrintsLines, joined, put_over, why_listing, why_printed}
use Rattle.lists.specs.Front.{front}
use Rattle.why.specs.Stops.{StopsWithin}

module _ (b : Buffers) (s d : List ℕ) {r : ℕ} {l : List ℕ} where
  pub too_long-told : 65536 < length s → Begins d (refused_line too_long) l r → PrintsLines (why_listing b s) d r l
  unfolding why_listing input_opening why_printed joined put_over
  too_long-told h e = rw (lt-ltb 65536 (length s) h) (rw append-nil e)

  pub parts-told : length s ≤ 65536 → (end : ℕ) → end ≡ length (part_before s (mark s)) → (from : ℕ)
      → from ≡ cond (leb (length s) (end + 3)) (length s) (end + 3)
      → PrintsLines (why_printed (take end s) (opening as_script b (take end s)) (take (length s - from) (drop from s))) d r l
      → PrintsLines (why_listing b s) d r l
  unfolding why_listing input_opening
  parts-told h end e from f g =
      let q = rw (script-part s end e, symbols-part s end e from f) at g in
      rw (le-ltb 65536 (length s) h) q

-- the same where what is printed is not written
module _ (b : Buffers) (s d : List ℕ) {l : List ℕ} where
  pub too_long-stops : 65536 < length s → l ≡ front (refused_line too_long) d → StopsWithin (why_listing b s) d l
  unfolding why_listing input_opening why_printed put_over
  too_long-stops h e = rw (lt-ltb 65536 (length s) h) (record { before = []; last = refused_line too_long; rest = []; parts = refl; left = e })

  pub parts-stop : length s ≤ 65536 → (end : ℕ) → end ≡ length (part_before s (mark s)) → (from : ℕ)
      → from ≡ cond (leb (length s) (end + 3)) (length s) (end + 3)
      → StopsWithin (why_printed (take end s) (opening as_script b (take end s)) (take (length s - from) (drop from s))) d l
      → StopsWithin (why_listing b s) d l
  unfolding why_listing input_opening
  parts-stop h end e from f g =
      let q = rw (script-part s end e, symbols-part s end e from f) at g in
      rw (le-ltb 65536 (length s) h) q
