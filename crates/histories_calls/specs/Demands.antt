-- Demand 3 of the functions of an interface. Assumes nothing.
use Rattle.std.specs.Prelude.{◌≡◌, List, [], ◌∷◌, ◌++◌, true, false, eqb, length, Some}
use Rattle.lists.specs.Each.{every}
use Rattle.book.specs.Books.{Book, book_frame, edition_of, rust, with_lines}
use Rattle.book.specs.Edits.{stands}
use Rattle.book.specs.Layout.{Buffers}
use Rattle.book.specs.View.{view}
use Rattle.book_opening.specs.Opening.{opens, opening}
use Rattle.book_opened.specs.Opened.{opens_at}
use Rattle.lookups.specs.Lookups.{locality_asked, version_asked}
use Rattle.export_list.specs.Membership.{contains_asked}
use Rattle.trial.specs.Trial.{standing}
use Rattle.histories.specs.Histories.{settles, Desk, Lent, answer, desk_at, desk_of_book, edits_left, history, leads, lent_after, nothing_dropped, run, undos}
use Rattle.histories.specs.Demand.{Holds, lent_book}
use Rattle.histories.specs.Resumed.{MovedTo, in_rooms}
use Rattle.histories_calls.specs.Interfaces.{Interface, InTurn, calls, tellings}

-- an opening that is accepted, as one that answers 0 is (`opening_said`): a version script or an export list opens as this book, laid out in what is left
pub record Accepted (I : Interface) (o : I.OpeningRun) : Type 0 where
  pub book : Book
  pub placed : opens_at (I.opens o).how ≡ true
  pub opened : opening (I.opens o).how (I.opens o).buffers (I.opens o).text ≡ opens book
  pub left : (I.opens o).left ≡ I.holding (lent_book (I.opens o).buffers book)

-- ---- each function does what the definitions of `histories` say, and each question answers what is asked of the book that is lent
pub record AsSaid (I : Interface) : Type 0 where
  pub opening_said : (o : I.OpeningRun) → (I.opens o).number ≡ 0 → Accepted I o
  pub edit_said : (f : I.EditRun) (x : Lent) → (I.edits f).lent ≡ I.holding x
      → ((I.edits f).number ≡ answer x (I.edits f).call) × ((I.edits f).left ≡ I.holding (lent_after x (I.edits f).call))
  pub version_said : (q : I.VersionRun) (x : Lent) → (I.version q).lent ≡ I.holding x
      → (I.version q).answers (version_asked (view x.counts x.buffers) (I.version q).asked.0 (I.version q).asked.1)
  pub locality_said : (q : I.LocalityRun) (x : Lent) → (I.locality q).lent ≡ I.holding x
      → (I.locality q).answers (locality_asked (view x.counts x.buffers) (I.locality q).asked)
  pub member_said : (q : I.MemberRun) (x : Lent) → (I.member q).lent ≡ I.holding x
      → (I.member q).answers (contains_asked (view x.counts x.buffers) (I.member q).asked)

-- so calls one behind the other have the history of `histories`, and leave what it leaves
abbrev pub RunsAsSaid : Interface → Type 0
RunsAsSaid I =
    (x : Lent) (fs : List I.EditRun) (y : I.Holding) → InTurn I (I.holding x) fs y
    → (tellings I fs ≡ history x (calls I fs)) × (y ≡ I.holding (run x (calls I fs)))

-- the desk that edits lead to from the desk d of a book, by the numbers that they answered; and behind its opening
abbrev pub desk_after : (I : Interface) → Book → Desk → List I.EditRun → Desk
desk_after I w d fs = leads (edition_of (book_frame w)) d (tellings I fs)

abbrev pub desk_of : (I : Interface) → Book → List I.EditRun → Desk
desk_of I w fs = desk_after I w (desk_at w.lines) fs

-- ---- "Open a book on an accepted Regular script or export list, then add, strike, undo and settle in any sequence, refused calls included. If only these
-- calls write the buffers, and each call and lookup gets the buffers and counts that the last one left, each lookup answers by demand 2's ranking over exactly
-- the lines that the history leaves standing": the book w was opened or lent in buffers with the rooms of b, and edits lead to the desk d and leave y
pub record Demanded (I : Interface) (b : Buffers) (w : Book) (d : Desk) (y : I.Holding) : Type 0 where
  pub lent : Lent
  pub held : y ≡ I.holding lent
  pub holds : Holds b w lent d
  -- what an edit answers then: `holds` says where that is 0
  pub answers : (f : I.EditRun) → (I.edits f).lent ≡ y → (I.edits f).number ≡ answer lent (I.edits f).call
  pub version : (q : I.VersionRun) → (I.version q).lent ≡ y
      → (I.version q).answers (version_asked (Some (with_lines w (standing d.lines))) (I.version q).asked.0 (I.version q).asked.1)
  pub locality : (q : I.LocalityRun) → (I.locality q).lent ≡ y
      → (I.locality q).answers (locality_asked (Some (with_lines w (standing d.lines))) (I.locality q).asked)
  pub member : (q : I.MemberRun) → (I.member q).lent ≡ y
      → (I.member q).answers (contains_asked (Some (with_lines w (standing d.lines))) (I.member q).asked)
  -- undos of every edit that there is to undo leave the counts and the layout of the desk's moment
  pub undone : (us : List I.EditRun) (v : I.Holding) → InTurn I y us v → calls I us ≡ undos (length d.earlier)
      → v ≡ I.holding (lent_book b (with_lines w d.moment))

abbrev pub Demand3Of : Interface → Type 0
Demand3Of I =
    (o : I.OpeningRun) (a : Accepted I o) → eqb a.book.kind rust ≡ false
    → (fs : List I.EditRun) (y : I.Holding) → InTurn I (I.opens o).left fs y
    → Demanded I (I.opens o).buffers a.book (desk_of I a.book fs) y

-- the same of any book that is lent, from its own desk on, whatever was done to it before and in whatever rooms
abbrev pub ResumedOf : Interface → Type 0
ResumedOf I =
    (x : Lent) (w : Book) → view x.counts x.buffers ≡ Some w → eqb w.kind rust ≡ false
    → (fs : List I.EditRun) (y : I.Holding) → InTurn I (I.holding x) fs y
    → Demanded I x.buffers w (desk_after I w (desk_of_book w) fs) y

-- and where the edits fs, a move of what they left to the buffers b', and then the edits gs follow: these go on from the desk that fs led to. That fs leave
-- what `run` leaves, `RunsAsSaid` tells. What gs leave is again a book that is lent, with the desk that they led to (`held`, `same_desk` of `Holds`), so that
-- further moves may follow
abbrev pub MovedOnOf : Interface → Type 0
MovedOnOf I =
    (x : Lent) (w : Book) → view x.counts x.buffers ≡ Some w → eqb w.kind rust ≡ false
    → (fs : List I.EditRun) (y : I.Holding) → InTurn I (I.holding x) fs y
    → (b' : Buffers) → MovedTo (run x (calls I fs)).counts (run x (calls I fs)).buffers b'
    → (gs : List I.EditRun) (z : I.Holding) → InTurn I (I.holding (in_rooms (run x (calls I fs)) b')) gs z
    → Demanded I b' w (desk_after I w (desk_after I w (desk_of_book w) fs) gs) z

-- "A settle frees every struck line's room for later adds": behind one the desk's lines are those that stood, and where it dropped a line there is no edit.
-- What room they then leave, and that an add is done there, `Demand3Of` says of the same edits: `added` of `holds`, and `answers`
abbrev pub FreedOf : Interface → Type 0
FreedOf I =
    (o : I.OpeningRun) (a : Accepted I o) → eqb a.book.kind rust ≡ false
    → (fs : List I.EditRun) (f : I.EditRun) (y : I.Holding) → InTurn I (I.opens o).left (fs ++ f ∷ []) y → (I.edits f).call ≡ settles
    → ((desk_of I a.book (fs ++ f ∷ [])).lines ≡ standing (desk_of I a.book fs).lines)
    × (every stands (desk_of I a.book fs).lines ≡ false → (desk_of I a.book (fs ++ f ∷ [])).earlier ≡ [])

-- ---- "and undoing every edit since the opening, or since the last settle that dropped a line, brings back each lent byte of that moment", and each count
-- the edits fs lead to an opening, where they are none, or to a moment with nothing to undo, and leave y; the edits gs follow, and then the undos us, which
-- leave v
pub record Undoing (I : Interface) (o : I.OpeningRun) (w : Book) (fs gs us : List I.EditRun) (y z v : I.Holding) : Type 0 where
  pub first : InTurn I (I.opens o).left fs y
  pub nothing : (desk_of I w fs).earlier ≡ []
  pub later : InTurn I y gs z
  pub back : InTurn I z us v

-- no settle of gs drops a line, and there are as many undos as edits
abbrev pub UndoneAllOf : Interface → Type 0
UndoneAllOf I =
    (o : I.OpeningRun) (a : Accepted I o) → eqb a.book.kind rust ≡ false
    → (fs gs us : List I.EditRun) (y z v : I.Holding) → Undoing I o a.book fs gs us y z v
    → nothing_dropped (edition_of (book_frame a.book)) (desk_of I a.book fs) (tellings I gs) ≡ true
    → calls I us ≡ undos (edits_left 0 (tellings I gs)) → v ≡ y

-- the same of any gs behind which the desk's moment is what it was
abbrev pub BroughtBackOf : Interface → Type 0
BroughtBackOf I =
    (o : I.OpeningRun) (a : Accepted I o) → eqb a.book.kind rust ≡ false
    → (fs gs us : List I.EditRun) (y z v : I.Holding) → Undoing I o a.book fs gs us y z v
    → (desk_of I a.book (fs ++ gs)).moment ≡ (desk_of I a.book fs).moment
    → calls I us ≡ undos (length (desk_of I a.book (fs ++ gs)).earlier) → v ≡ y
