-- Offsets in whole books and histories, request 02: that no lookup of a book sees them, and what they tell behind any history. proofs/Offsets.antt proves both.
-- Assumes nothing.
use Rattle.std.specs.Prelude.{ℕ, ◌<◌, ◌≡◌, List, Bool, true, false, ◌&&◌, eqb, length, Option, Some}
use Rattle.lists.specs.Each.{any}
use Rattle.book.specs.Books.{Book, Line, rust}
use Rattle.book.specs.Edits.{line_at, marked}
use Rattle.book.specs.Layout.{Buffers}
use Rattle.book.specs.View.{view}
use Rattle.book_opening.specs.declared.How.{How}
use Rattle.book_opening.specs.Opening.{opening, opens}
use Rattle.book_opened.specs.Opened.{opens_at}
use Rattle.ranking.specs.Matching.{Name}
use Rattle.ranking.specs.Offsets.{without_offsets}
use Rattle.lookups.specs.Lookups.{locality_asked, version_asked}
use Rattle.export_list.specs.Membership.{contains_asked}
use Rattle.histories.specs.Histories.{Call, adds, adds_symbol, settles, strikes, undoes, Told, history}
use Rattle.histories.specs.Demand.{lent_behind, lent_opening}

-- ---- "lookups ignore the new one": a book is answered for as the one without any offset, and so are any two that differ in offsets alone. (What has an offset
-- over its limit is no book, and is answered 14)
abbrev pub book_without_offsets : Book → Book
book_without_offsets w = record { kind = w.kind; nodes = w.nodes; lines = without_offsets w.lines; edits = w.edits }

pub record LookupsIgnore : Type 0 where
  pub version : (w : Book) (n : Name) (v : Option (List ℕ)) → version_asked (Some (book_without_offsets w)) n v ≡ version_asked (Some w) n v
  pub locality : (w : Book) (n : Name) → locality_asked (Some (book_without_offsets w)) n ≡ locality_asked (Some w) n
  pub member : (w : Book) (n : Name) → contains_asked (Some (book_without_offsets w)) n ≡ contains_asked (Some w) n

-- ---- "It survives strike, undo and settle"
-- a call that adds lines where it is done
abbrev pub can_add : Call → Bool
can_add (adds node section language t) = true
can_add (strikes i) = false
can_add undoes = false
can_add settles = false
can_add (adds_symbol t bare) = true

-- some call of a history adds lines and was done
abbrev pub has_added : Told → Bool
has_added x = eqb x.number 0 && can_add x.call

-- where the line x came from, of a book that was opened with the lines ls, behind the history h. It is one of these, but for its mark, and has that line's
-- offset, whatever its number is now; or some call has added lines, and it has 0. So where nothing but strikes, undos and settles was done, each line has the
-- offset that it was opened with
pub data Came (ls : List Line) (h : List Told) (x : Line) : Type 0 where
  opened : (j : ℕ) → j < length ls → x.offset ≡ (line_at ls j).offset → marked 0 x ≡ marked 0 (line_at ls j) → Came ls h x
  added : any has_added h ≡ true → x.offset ≡ 0 → Came ls h x

-- the history of these calls behind an opening
abbrev pub history_behind : How → Buffers → List ℕ → List Call → List Told
history_behind how b s ks = history (lent_opening b (opening how b s)) ks

-- behind every opening of a Regular script or an export list and every sequence of calls, refused calls included: each line of the book that the lent buffers
-- hold then. book_opened/specs/Lines.antt says which tokens of the text the opened lines are
abbrev pub OffsetsSurvive : Type 0
OffsetsSurvive =
    (how : How) (b : Buffers) (s : List ℕ) (w : Book) (ks : List Call)
    → opens_at how ≡ true → opening how b s ≡ opens w → eqb w.kind rust ≡ false
    → (v : Book) → view (lent_behind how b s ks).counts (lent_behind how b s ks).buffers ≡ Some v
    → (i : ℕ) → i < length v.lines → Came w.lines (history_behind how b s ks) (line_at v.lines i)
