-- The buffers behind the events of a text: with a book laid out in them, or with nothing left of it. Assumes nothing.
use Rattle.std.specs.Prelude.{ℕ, ◌≡◌, List, true}
use Rattle.numbers.specs.Editions.{reld}
use Rattle.reading_cursors.specs.declared.places.Place.{Place}
use Rattle.reading.specs.Events.{reading}
use Rattle.book.specs.declared.Counts.{Counts}
use Rattle.book.specs.Layout.{Buffers, counts_of, laid_out}
use Rattle.book_building.specs.declared.Progress.{Progress}
use Rattle.book_building.specs.State.{building, built, four}
use Rattle.book_opening.specs.declared.Built.{Built}
use Rattle.book_opening.specs.declared.Built.TheVariants.{Done, Refused}
use Rattle.book_opening.specs.declared.How.{How}
use Rattle.book_opening.specs.declared.Opened.{Opened}
use Rattle.book_opening.specs.Opening.{Opening, opens, declined, build_reading, finished, left, nothing_yet, opening, told}

-- ---- the text has ended: the counts, in whatever buffers
abbrev pub Finished : Place → Progress → Counts → Type 0
Finished place g r = (n m l q : List ℕ) → built g (four n m l q) ≡ true → r ≡ counts_of (finished place (building g (four n m l q)))

-- an opening ended: with the book laid out in the buffers, or refused
abbrev pub Ended : Opening → Built → Buffers → Buffers → Type 0
Ended (opens w) r b b' = (r ≡ Done (counts_of w)) × (b' ≡ laid_out b w)
Ended (declined n p) r b b' = r ≡ Refused n p

-- and what is answered then, with nothing left of what is refused
abbrev pub Filled : Opening → Opened → Buffers → Buffers → Type 0
Filled o r b b' = (r ≡ told o) × (b' ≡ left b o)

-- ---- the text s, in the buffers b: its events, read from a place of the grammar on, and its opening
abbrev pub Builds : Place → Buffers → List ℕ → Built → Buffers → Type 0
Builds place b s r b' = Ended (build_reading place b s nothing_yet (reading reld place s)) r b b'

abbrev pub Opens : How → Buffers → List ℕ → Opened → Buffers → Type 0
Opens how b s r b' = Filled (opening how b s) r b b'
