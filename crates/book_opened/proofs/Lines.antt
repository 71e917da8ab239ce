-- The lines of an opened text are those of its tokens (specs/Lines.antt): each event that is a line adds the line of its token, and no other event adds or
-- changes one. Assumes nothing.
use Prim.Native.Nat.{ℕ, zero, suc, ◌+◌, ◌-◌, ◌<◌, ◌≤◌}
use mathlib.Core.Path.{◌≡◌, refl, sym, ap, ◌∙◌}
use mathlib.Core.List.{List, [], ◌∷◌, ◌++◌, append_assoc, append-nil}
use mathlib.Core.Bool.{Bool, true, false, cond, true≢false}
use Rattle.std.specs.Prelude.{Option, Some, None}
use native.Mathlib.Omega.{arith}
use lib.Dec.{leb, ltb}
use lib.ListN.{length}
use Rattle.linker_script.specs.Parts.{part}
use Rattle.numbers.specs.Editions.{reld}
use Rattle.numbers.specs.Limits.{script_limit}
use Rattle.numbers.specs.Refusals.{no_room, too_long}
use Rattle.numbers.specs.declared.Edition.{Edition}
use Rattle.storing.specs.Keeping.{Keep, kept, refused, keep}
use Rattle.reading_cursors.specs.declared.places.Place.{Place}
use Rattle.reading_cursors.specs.declared.Event.{Event}
use Rattle.reading_cursors.specs.declared.Event.TheVariants.{Node, Body, Section, Extern, Closed, Line, Parent}
use Rattle.reading.specs.Events.{Outcome, accepted, refused as ends-refused, reading}
use Rattle.reading.specs.Lines.{InOrder, no_more, one_more, Token, tokens}
use Rattle.reading.proofs.Lines.{tokens_in_order}
use Rattle.book.specs.Books.{Book, book_frame, edition_of, first_named}
use Rattle.book.specs.Books as book
use Rattle.book.specs.Edits.{line_at}
use Rattle.book.specs.Layout.{Buffers, node_width}
use Rattle.book_rooms.specs.Rooms.{line_room, node_room}
use Rattle.book_building.specs.Building.{Building, Taken, on, no, frame_so_far, take_event, take_kept, take_node, take_parent, to_parent}
use Rattle.book_opening.specs.declared.How.{How}
use Rattle.book_opening.specs.Opening.{opens, declined, build, build_reading, ended, nothing_yet, on_taken, opening}
use Rattle.book_opened.specs.Lines.{LinesOfTokens, OfToken, token_at}
use Rattle.book_opened.proofs.Opened.{starts-free}
use Rattle.book_opened.proofs.Soundness.{Holds, holds-cond, refuses, takes}

module _ (s : List ℕ) (e : Edition) where
  -- lines and tokens, pair by pair
  data Pairs : List Token → List book.Line → Type 0 where
    nothing : Pairs [] []
    more : {k : Token} {ks : List Token} {x : book.Line} {xs : List book.Line} → OfToken s e k x → Pairs ks xs → Pairs (k ∷ ks) (x ∷ xs)

  pairs-count : {ks : List Token} {xs : List book.Line} → Pairs ks xs → length xs ≡ length ks
  pairs-count nothing = refl
  pairs-count (more t u) = ap suc (pairs-count u)

  pair_at : {ks : List Token} {xs : List book.Line} → Pairs ks xs → (i : ℕ) → i < length xs → OfToken s e (token_at ks i) (line_at xs i)
  pair_at nothing i h = absurd (omega arith)
  pair_at (more t u) zero h = t
  pair_at (more t u) (suc i) h = pair_at u i (omega arith)

-- ---- tokens in order, by their numbers
module _ {s : List ℕ} where
  starts_at : {p : ℕ} {ks : List Token} → InOrder s p ks → (i : ℕ) → i < length ks → (p ≤ (token_at ks i).place) × ((token_at ks i).place < length s)
  starts_at no_more i h = absurd (omega arith)
  starts_at (one_more a b c d r) zero h = (a, omega arith)
  starts_at (one_more a b c d r) (suc i) h = let t = starts_at r i (omega arith) in (omega (arith, t.0), t.1)

  ends_at : {p : ℕ} {ks : List Token} → InOrder s p ks → (i : ℕ) → i < length ks → (token_at ks i).place + (token_at ks i).size ≤ length s
  ends_at no_more i h = absurd (omega arith)
  ends_at (one_more a b c d r) zero h = omega arith
  ends_at (one_more a b c d r) (suc i) h = ends_at r i (omega arith)

  apart_at : {p : ℕ} {ks : List Token} → InOrder s p ks → (i j : ℕ) → i < j → j < length ks
      → (token_at ks i).place + (token_at ks i).size ≤ (token_at ks j).place
  apart_at no_more i j h k = absurd (omega arith)
  apart_at (one_more a b c d r) i zero h k = absurd (omega arith)
  apart_at (one_more a b c d r) zero (suc j) h k = omega (arith, (starts_at r j (omega arith)).0)
  apart_at (one_more a b c d r) (suc i) (suc j) h k = apart_at r i j (omega arith) (omega arith)

  rises : {p : ℕ} {ks : List Token} → InOrder s p ks → (i j : ℕ) → i < j → j < length ks → (token_at ks i).place < (token_at ks j).place
  rises no_more i j h k = absurd (omega arith)
  rises (one_more a b c d r) i zero h k = absurd (omega arith)
  rises (one_more a b c d r) zero (suc j) h k = omega (arith, (starts_at r j (omega arith)).0)
  rises (one_more a b c d r) (suc i) (suc j) h k = rises r i j (omega arith) (omega arith)

-- ---- events: the lines before them, and those that they bring behind these
record Brings (s : List ℕ) (e : Edition) (es : List Event) (xs ys : List book.Line) : Type 0 where
  new : List book.Line
  behind : ys ≡ xs ++ new
  pairs : Pairs s e (tokens es) new

pairs-both : {s : List ℕ} {e : Edition} {ks ls : List Token} {xs ys : List book.Line} → Pairs s e ks xs → Pairs s e ls ys → Pairs s e (ks ++ ls) (xs ++ ys)
pairs-both nothing v = v
pairs-both (more t u) v = more t (pairs-both u v)

first_tokens : (x : Event) (es : List Event) → tokens (x ∷ es) ≡ tokens (x ∷ []) ++ tokens es
unfolding tokens
first_tokens (Node p n) es = refl
first_tokens Body es = refl
first_tokens (Section k) es = refl
first_tokens (Extern k l) es = refl
first_tokens Closed es = refl
first_tokens (Line k l p n) es = refl
first_tokens (Parent p n) es = refl

module _ (b : Buffers) (s : List ℕ) (e : Edition) where
  brings_both : (x : Event) (es : List Event) (xs ys zs : List book.Line) → Brings s e (x ∷ []) xs ys → Brings s e es ys zs → Brings s e (x ∷ es) xs zs
  brings_both x es xs ys zs u v = record {
    new = u.new ++ v.new;
    behind = v.behind ∙ ap (λ (m : List book.Line). m ++ v.new) u.behind ∙ append_assoc xs u.new v.new;
    pairs = rw (first_tokens x es) (pairs-both u.pairs v.pairs);
  }

  -- an event that is no line
  brings_none : (es : List Event) (xs : List book.Line) → tokens es ≡ [] → Brings s e es xs xs
  brings_none es xs z = record { new = []; behind = sym (append-nil xs); pairs = rw z nothing }

  -- what an event makes of a book, where it is taken
  abbrev Takes : Event → Building → Taken → Type 0
  Takes x g = Holds (λ h. Brings s e (x ∷ []) g.lines h.lines)

  takes-node : (g : Building) (p n : ℕ) → Takes (Node p n) g (take_node b g p (part s p n))
  unfolding take_node tokens
  takes-node g p n = holds-cond (node_room b g.nodes (part s p n)) (λ _. takes (brings_none (Node p n ∷ []) g.lines refl)) refuses

  takes-line : (g : Building) (k l p n : ℕ) (K : Keep) → keep e (part s p n) ≡ K → Takes (Line k l p n) g (take_kept b g p k l K)
  unfolding take_kept tokens
  takes-line g k l p n (kept j bs) z = holds-cond (line_room b g.lines bs) (λ _. takes (record {
    new = _;
    behind = refl;
    pairs = more (record { offset = refl; section = refl; language = refl; class = j; classed = z; numbered = refl }) nothing;
  })) refuses
  takes-line g k l p n (refused x) z = refuses

  takes-parent : (g : Building) (p n : ℕ) (t : List ℕ) → Takes (Parent p n) g (take_parent g p t)
  unfolding take_parent tokens
  takes-parent g p n [] = takes (brings_none (Parent p n ∷ []) g.lines refl)
  takes-parent g p n (x ∷ t) = go (first_named g.nodes 0 (x ∷ t))
    where
      go : (a : Option ℕ) → Takes (Parent p n) g (to_parent g p a)
      go (Some q) = holds-cond (ltb q (length g.nodes - 1)) (λ _. takes (brings_none (Parent p n ∷ []) g.lines refl)) refuses
      go None = refuses

  takes_event : (g : Building) → e ≡ edition_of (frame_so_far g) → (x : Event) → Takes x g (take_event b s g x)
  unfolding take_event tokens
  takes_event g z (Node p n) = takes-node g p n
  takes_event g z Body = takes (brings_none (Body ∷ []) g.lines refl)
  takes_event g z (Section k) = takes (brings_none (Section k ∷ []) g.lines refl)
  takes_event g z (Extern k l) = takes (brings_none (Extern k l ∷ []) g.lines refl)
  takes_event g z Closed = takes (brings_none (Closed ∷ []) g.lines refl)
  takes_event g z (Line k l p n) = takes-line g k l p n (keep (edition_of (frame_so_far g)) (part s p n)) (ap (λ (y : Edition). keep y (part s p n)) z)
  takes_event g z (Parent p n) = takes-parent g p n (part s p n)

-- ---- all events of a text
module _ (place : Place) (b : Buffers) (s : List ℕ) (w : Book) where
  abbrev edition : Edition
  edition = edition_of (book_frame w)

  ends_so : (g : Building) (o : Outcome) → ended place g o ≡ opens w → Brings s edition [] g.lines w.lines
  unfolding tokens
  ends_so g accepted f = let z : g.lines ≡ w.lines = cc in record { new = []; behind = sym z ∙ sym (append-nil g.lines); pairs = nothing }
  ends_so g (ends-refused n p) f = absurd (true≢false (cc))

  built : (g : Building) (es : List Event) (o : Outcome) → build place b s g es o ≡ opens w → Brings s edition es g.lines w.lines
  unfolding build
  built g [] o f = ends_so g o f
  built g (x ∷ es) o f = go (take_event b s g x) (takes_event b s edition g refl x) f (λ h. built h es o)
    where
      go : (t : Taken) → Takes b s edition x g t → on_taken t (λ h. build place b s h es o) ≡ opens w
          → ((h : Building) → build place b s h es o ≡ opens w → Brings s edition es h.lines w.lines)
          → Brings s edition (x ∷ es) g.lines w.lines
      go (on h) (takes u) f next = brings_both b s edition x es g.lines h.lines w.lines u (next h f)
      go (no n p) refuses f next = absurd (true≢false (cc))

opened_brings : (how : How) (b : Buffers) (s : List ℕ) (w : Book) → opening how b s ≡ opens w
    → Brings s (edition_of (book_frame w)) (reading reld how.place s).events [] w.lines
unfolding opening build_reading nothing_yet
opened_brings how b s w e = go (ltb script_limit (length s)) (leb node_width (length b.nodes)) e
  where
    go : (x y : Bool)
        → cond x (declined too_long 0) (cond y (build_reading how.place b s nothing_yet (reading reld how.place s)) (declined no_room 0)) ≡ opens w
        → Brings s (edition_of (book_frame w)) (reading reld how.place s).events [] w.lines
    go true y f = absurd (true≢false (cc))
    go false false f = absurd (true≢false (cc))
    go false true f = built how.place b s w nothing_yet (reading reld how.place s).events (reading reld how.place s).outcome f

pub lines_of-tokens : LinesOfTokens
lines_of-tokens how b s w h e =
    let ks = tokens (reading reld how.place s).events in
    let u = opened_brings how b s w e in
    let t : Pairs s (edition_of (book_frame w)) ks w.lines = rw u.behind u.pairs in
    let n = pairs-count s (edition_of (book_frame w)) t in
    let o = tokens_in_order reld how.place s (starts-free how h).few in
    let each = pair_at s (edition_of (book_frame w)) t in
    record {
      as_many = n;
      each = each;
      starts = λ i k. (starts_at o i (omega (arith, n))).1;
      ends = λ i k. ends_at o i (omega (arith, n));
      apart = λ i j k l. apart_at o i j k (omega (arith, n));
      rising = λ i j k l. omega (arith, (each i (omega arith)).offset, (each j l).offset, rises o i j k (omega (arith, n)));
    }
