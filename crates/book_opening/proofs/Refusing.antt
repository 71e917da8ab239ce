-- A refused opening has one of the numbers 1 to 8, so 0 says that it is done (`opening-refuses`). Assumes nothing.
use Prim.Native.Nat.{ℕ, ◌≤◌}
use mathlib.Core.Path.{◌≡◌, refl, sym}
use mathlib.Core.List.{List, [], ◌∷◌}
use mathlib.Core.Bool.{Bool, true, false, cond, ◌||◌, true≢false}
use Rattle.std.specs.Prelude.{Option, Some, None}
use native.Mathlib.Omega.{arith}
use borrow.Author.Tests.{eqb-true}
use lib.Dec.{eqb, leb, ltb}
use lib.ListN.{length}
use Rattle.linker_script.specs.Parts.{part}
use Rattle.numbers.specs.Editions.{reld}
use Rattle.numbers.specs.Limits.{over, script_limit, token_limit}
use Rattle.numbers.specs.Refusals.{bad_extern, no_room, too_long, unclosed, unknown_parent, unreadable}
use Rattle.utf8.specs.Utf8.{chars, utf8}
use Rattle.numbers.specs.declared.Edition.{Edition}
use Rattle.lists.specs.Pieces.{sound}
use Rattle.pattern.specs.Patterns.{element, refusal}
use Rattle.pattern.specs.Storing.{stored}
use Rattle.classes.specs.declared.Class.{Class}
use Rattle.classes.specs.declared.Class.TheVariants.{Exact, Escaped, NonStar, Star, All}
use Rattle.classes.specs.Classes.{class_of}
use Rattle.std.specs.Prelude.{Ok, Err}
use Rattle.numbers.specs.declared.Refusal.TheVariants as why
use Rattle.numbers.specs.Saying.{number}
use Rattle.storing.specs.Keeping.{Keep, kept, refused, inside_kept, keep, keep_as, keep_glob, keep_when}
use Rattle.reading_cursors.specs.declared.places.Place.{Place}
use Rattle.reading_cursors.specs.declared.Event.{Event}
use Rattle.reading_cursors.specs.declared.Event.TheVariants.{Node, Body, Section, Extern, Closed, Line, Parent}
use Rattle.reading.specs.Events.{Outcome, accepted, reading}
use Rattle.reading.specs.Events as events
use Rattle.reading.proofs.Refusals.{of_reader, reading-refuses}
use Rattle.book.specs.Books.{edition_of, first_named}
use Rattle.book.specs.Layout.{Buffers, node_width}
use Rattle.book_rooms.specs.Rooms.{line_room, node_room}
use Rattle.book_building.specs.Building.{Building, Taken, frame_so_far, no, on, take_event, take_kept, take_node, take_parent, to_parent}
use Rattle.book_opening.specs.declared.How.{How}
use Rattle.book_opening.specs.Opening.{Opening, build, build_reading, declined, ended, nothing_yet, on_taken, opening, opens}

-- a number of a refused opening
abbrev Says : ℕ → Type 0
Says n = (1 ≤ n) × (n ≤ 8)

-- ---- what says no, at every step
abbrev KeptSays : Keep → Type 0
KeptSays (kept k bs) = Unit {0}
KeptSays (refused n) = Says (number n)

abbrev TakenSays : Taken → Type 0
TakenSays (on g) = Unit {0}
TakenSays (no n p) = Says n

abbrev SaysDeclined : Opening → Type 0
SaysDeclined (opens w) = Unit {0}
SaysDeclined (declined n p) = Says n

glob-says : (e : Edition) (k : Class) (t : List ℕ) → KeptSays (keep_glob e k t)
unfolding keep_glob keep_when refusal
glob-says e k t = go (utf8 (stored e t)) (sound (element e) (chars (stored e t)))
  where
    go : (x y : Bool)
        → KeptSays (keep_when (cond x (cond y (Ok tt) (Err why.BadPattern)) (Err why.GlobNotUtf8)) k (stored e t))
    go true true = tt
    go true false = (omega arith, omega arith)
    go false y = (omega arith, omega arith)

as_says : (e : Edition) (k : Class) (t : List ℕ) → KeptSays (keep_as e k t)
unfolding keep_as
as_says e Exact t = tt
as_says e Escaped t = tt
as_says e NonStar t = glob-says e NonStar t
as_says e Star t = glob-says e Star t
as_says e All t = tt

keep-says : (e : Edition) (t : List ℕ) → KeptSays (keep e t)
unfolding keep
keep-says e t = go (over token_limit t)
  where
    go : (x : Bool) → KeptSays (cond x (refused why.TooLong) (keep_as e (class_of t) (inside_kept t)))
    go true = (omega arith, omega arith)
    go false = as_says e (class_of t) (inside_kept t)

when-says : (t : Bool) (g : Building) (n p : ℕ) → Says n → TakenSays (cond t (on g) (no n p))
when-says true g n p h = tt
when-says false g n p h = h

kept-says : (b : Buffers) (g : Building) (p section language : ℕ) (k : Keep) → KeptSays k → TakenSays (take_kept b g p section language k)
unfolding take_kept
kept-says b g p section language (kept k bs) h = when-says (line_room b g.lines bs) _ no_room p (omega arith, omega arith)
kept-says b g p section language (refused n) h = h

found-says : (g : Building) (p : ℕ) (a : Option ℕ) → TakenSays (to_parent g p a)
found-says g p (Some q) = when-says (ltb q _) _ unknown_parent p (omega arith, omega arith)
found-says g p None = (omega arith, omega arith)

parent-says : (g : Building) (p : ℕ) (t : List ℕ) → TakenSays (take_parent g p t)
unfolding take_parent
parent-says g p [] = tt
parent-says g p (c ∷ t) = found-says g p (first_named g.nodes 0 (c ∷ t))

event_says : (b : Buffers) (s : List ℕ) (g : Building) (e : Event) → TakenSays (take_event b s g e)
unfolding take_event take_node
event_says b s g (Node p n) = when-says (node_room b g.nodes (part s p n)) _ no_room p (omega arith, omega arith)
event_says b s g Body = tt
event_says b s g (Section k) = tt
event_says b s g (Extern k l) = tt
event_says b s g Closed = tt
event_says b s g (Line k l p n) = kept-says b g p k l (keep (edition_of (frame_so_far g)) (part s p n)) (keep-says (edition_of (frame_so_far g)) (part s p n))
event_says b s g (Parent p n) = parent-says g p (part s p n)

-- ---- a reading's own refusal
reader_says : (n : ℕ) → of_reader n ≡ true → Says n
reader_says n h = go (eqb n too_long) (eqb n unreadable) (eqb n unclosed) (eqb n bad_extern) refl refl refl refl h
  where
    is : (k : ℕ) → 1 ≤ k → k ≤ 8 → eqb n k ≡ true → Says n
    is k a b e = let z : n ≡ k = eqb-true n k e in (omega arith, omega arith)

    go : (a b c d : Bool) → eqb n too_long ≡ a → eqb n unreadable ≡ b → eqb n unclosed ≡ c → eqb n bad_extern ≡ d → (a || (b || (c || d))) ≡ true → Says n
    go true b c d x y z w e = is too_long (omega arith) (omega arith) x
    go false true c d x y z w e = is unreadable (omega arith) (omega arith) y
    go false false true d x y z w e = is unclosed (omega arith) (omega arith) z
    go false false false true x y z w e = is bad_extern (omega arith) (omega arith) w
    go false false false false x y z w e = absurd (true≢false (sym e))

abbrev OutcomeSays : Outcome → Type 0
OutcomeSays accepted = Unit {0}
OutcomeSays (events.refused n p) = Says n

outcome-says : (place : Place) (s : List ℕ) → OutcomeSays (reading reld place s).outcome
outcome-says place s = go (reading reld place s).outcome refl
  where
    go : (o : Outcome) → (reading reld place s).outcome ≡ o → OutcomeSays o
    go accepted e = tt
    go (events.refused n p) e = reader_says n (reading-refuses s n p reld place e)

-- ---- the whole
on_says : (t : Taken) (f : Building → Opening) → TakenSays t → ((g : Building) → SaysDeclined (f g)) → SaysDeclined (on_taken t f)
on_says (on g) f h k = k g
on_says (no n p) f h k = h

ended-says : (place : Place) (g : Building) (o : Outcome) → OutcomeSays o → SaysDeclined (ended place g o)
ended-says place g accepted h = tt
ended-says place g (events.refused n p) h = h

build-says : (place : Place) (b : Buffers) (s : List ℕ) (g : Building) (es : List Event) (o : Outcome) → OutcomeSays o → SaysDeclined (build place b s g es o)
unfolding build
build-says place b s g [] o h = ended-says place g o h
build-says place b s g (e ∷ es) o h =
    on_says (take_event b s g e) (λ x. build place b s x es o) (event_says b s g e) (λ x. build-says place b s x es o h)

opening-says : (how : How) (b : Buffers) (s : List ℕ) → SaysDeclined (opening how b s)
unfolding opening build_reading
opening-says how b s = go (ltb script_limit (length s)) (leb node_width (length b.nodes))
  where
    go : (x y : Bool)
        → SaysDeclined (cond x (declined too_long 0) (cond y (build_reading how.place b s nothing_yet (reading reld how.place s)) (declined no_room 0)))
    go true y = (omega arith, omega arith)
    go false true =
        let r = reading reld how.place s in
        build-says how.place b s nothing_yet r.events r.outcome (outcome-says how.place s)
    go false false = (omega arith, omega arith)

pub opening-refuses : (how : How) (b : Buffers) (s : List ℕ) (n p : ℕ) → opening how b s ≡ declined n p → (1 ≤ n) × (n ≤ 8)
opening-refuses how b s n p e = rw e at (opening-says how b s)
