-- What an opening gives is a book: no question is refused 14 behind it. Assumes nothing.
use Rattle.std.specs.Prelude.{ℕ, ◌≡◌, List, Bool, true, false, Some}
use Rattle.reading_cursors.specs.declared.places.Place.{Place}
use Rattle.reading_cursors.specs.declared.places.Place.TheVariants as place
use Rattle.book.specs.Books.{Book}
use Rattle.book.specs.Layout.{Buffers, counts_of, laid_out}
use Rattle.book.specs.View.{view}
use Rattle.book_opening.specs.declared.How.{How}
use Rattle.book_opening.specs.Opening.{opening, opens}

-- a version script, or an export list
abbrev pub opens_from : Place → Bool
opens_from place.AtScript = true
opens_from place.AtList = true
opens_from p = false

abbrev pub opens_at : How → Bool
opens_at how = opens_from how.place

-- the view of what is left in the buffers, with the counts that are answered, is the book that was opened
abbrev pub OpenedHolds : Type 0
OpenedHolds =
    (how : How) (b : Buffers) (s : List ℕ) (w : Book) → opens_at how ≡ true → opening how b s ≡ opens w
    → view (counts_of w) (laid_out b w) ≡ Some w
