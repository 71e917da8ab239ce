-- What an opening gives is a book that a view gives back (specs/Opened.antt): the book so far is sound along the reading, and so it is at the end, where no
-- named node is open.
-- Assumes nothing.
use Prim.Native.Nat.{ℕ, zero, suc, ◌+◌, ◌-◌, ◌≤◌}
use mathlib.Core.Path.{◌≡◌, refl, ◌∙◌, sym}
use mathlib.Core.List.{List, []}
use mathlib.Core.Bool.{Bool, true, false, cond, not, ◌&&◌, true≢false}
use native.Mathlib.Omega.{arith}
use borrow.Author.Tests.{leb-true, ltb-false, not-true}
use lib.Dec.{eqb, leb, ltb}
use lib.ListN.{length}
use Rattle.numbers.specs.Editions.{reld}
use Rattle.numbers.specs.Limits.{script_limit}
use Rattle.numbers.specs.Refusals.{no_room, too_long}
use Rattle.lists.proofs.Tests.{both}
use Rattle.lists.specs.Each.{every}
use Rattle.std.specs.Prelude.{Some, None, Ok, Err}
use Rattle.reading_cursors.specs.declared.places.Place.TheVariants as place
use Rattle.reading_cursors.specs.declared.places.Place.{Place}
use Rattle.reading_cursors.specs.declared.Cursor.{Cursor}
use Rattle.reading_cursors.specs.Moves.{Step, start}
use Rattle.reading_cursors.specs.Places.{is_list, of_script, of_symbol}
use Rattle.reading.specs.Scripts.{next}
use Rattle.reading.specs.Events.{on_step, reading, reading_from, reading_within}
use Rattle.reading.specs.Standing.{Standing}
use Rattle.reading.proofs.Lines.{going}
use Rattle.reading.proofs.Onward.{next_onward, next_stands, start_stands}
use Rattle.reading.proofs.Parts.{next_parts}
use Rattle.reading.proofs.Spans.{next_ends, next_spans, outside, stage}
use Rattle.reading.proofs.Origins.{block_place, next_origin}
use Rattle.book.specs.Books.{Book, export, regular, rust}
use Rattle.book.specs.Layout.{Buffers, node_width}
use Rattle.book.specs.Sanity.{kind_allows, kind_good, sane}
use Rattle.book.specs.View.{Fits}
use Rattle.book.proofs.Views.{view_of_layout}
use Rattle.book_building.specs.Building.{Building, Taken, on, no, take_event}
use Rattle.book_opening.specs.declared.How.{How}
use Rattle.book_opening.specs.Opening.{Opening, opens, declined, build, build_reading, finished, kind_of, nothing_yet, on_taken, opening}
use Rattle.book_opened.specs.Opened.{OpenedHolds, opens_at, opens_from}
use Rattle.book_opened.proofs.KindLines.{kind_fits, kind-sane, regular-allows}
use Rattle.book_opened.proofs.Soundness.{Holds, Sound, Turn, refuses, sound_event, sound_start, takes}
use Rattle.book_opened.proofs.Lengths.{spelt-ends}

-- a book that a view gives back
pub record Viewable (b : Buffers) (w : Book) : Type 0 where
  pub fits : Fits b w
  pub sane : sane w ≡ true

-- ---- the end: the kind is one that the lines allow
record KindGood (w : Book) : Type 0 where
  allows : every (kind_allows w.kind) w.lines ≡ true
  good : kind_good w ≡ true

-- where a list starts, no script does
no_script : (x : Place) → is_list x ≡ true → of_script x ≡ false
no_script place.AtScript e = absurd (true≢false (sym e))
no_script place.AtNode e = absurd (true≢false (sym e))
no_script place.AtBody e = absurd (true≢false (sym e))
no_script place.InBody e = absurd (true≢false (sym e))
no_script place.InBodyExtern e = absurd (true≢false (sym e))
no_script place.InSole e = absurd (true≢false (sym e))
no_script place.InSoleExtern e = absurd (true≢false (sym e))
no_script place.AtList e = refl
no_script place.InList e = refl
no_script place.InListExtern e = refl
no_script place.AtSymbol e = refl
no_script place.InSymbolExtern e = refl
no_script place.AtBare e = refl
no_script place.InBareExtern e = refl
no_script place.BehindSymbol e = refl

module _ (place : Place) (b : Buffers) (c : Cursor) (g : Building) (t : Sound place b c g) (short : c.at ≤ script_limit) (ended : stage c.place ≡ outside) where
  abbrev as_kind : ℕ → Book
  as_kind kind = record { kind = kind; nodes = g.nodes; lines = g.lines; edits = [] }

  list-kind : of_script c.place ≡ false → KindGood (as_kind export)
  unfolding kind_good
  list-kind h =
      let o = t.list h in
      record { allows = o.globals; good = rw o.one }

  abbrev rusty : Bool
  rusty = eqb (length g.nodes) 1 && (g.starred && not g.mixed)

  script-kind : (v : Bool) → rusty ≡ v → KindGood (as_kind (cond v rust regular))
  unfolding kind_good
  script-kind true e =
      let a = both (eqb (length g.nodes) 1) _ e in
      let d = both g.starred _ a.1 in
      record { allows = t.rust.globals (not-true g.mixed d.1); good = rw (a.0, t.rust.star d.0) }
  script-kind false e = record { allows = regular-allows g.lines; good = refl }

  ends-kind : KindGood (finished place g)
  unfolding kind_of
  ends-kind = go (is_list place) refl
    where
      go : (v : Bool) → is_list place ≡ v → KindGood (as_kind (cond v export (cond rusty rust regular)))
      go true e =
          list-kind (t.side ∙ no_script place e)
      go false e = script-kind rusty refl

  ends-viewable : Viewable b (finished place g)
  ends-viewable =
      let k = ends-kind in
      let o = t.good in
      record {
        fits = kind_fits b (finished place g).kind g.nodes g.lines o.rooms o.nodes o.lines o.stand k.allows;
        sane = kind-sane b (finished place g).kind g.nodes g.lines o.rooms o.nodes o.lines o.stand k.allows
            (spelt-ends c g.nodes script_limit ended short t.spelt) k.good;
      }

-- ---- the reading
module _ (place : Place) (b : Buffers) (s : List ℕ) (w : Book) (short : length s ≤ script_limit) where
  -- it ends, or an event is taken and it goes on
  done : (g : Building) → Viewable b (finished place g) → opens (finished place g) ≡ opens w → Viewable b w
  done g v e = let z : finished place g ≡ w = cc in rw z at v

  after : (P : Building → Type 0) (f : Building → Opening) (t : Taken) → Holds P t → ((h : Building) → P h → f h ≡ opens w → Viewable b w)
      → on_taken t f ≡ opens w → Viewable b w
  after P f (on h) (takes k) more e = more h k e
  after P f (no n p) refuses more e = absurd (true≢false (cc))

  -- a script's and a list's cursors stand in the text
  inside : (c : Cursor) → Standing s c → of_symbol c.place ≡ false → c.at ≤ script_limit
  inside c k h = omega (arith, k.inside (going c.place h))

  -- with at most n events, which are enough
  along : (n : ℕ) (c : Cursor) (g : Building) → Sound place b c g → Standing s c → length s + 2 - c.at ≤ n
      → build_reading place b s g (reading_within n s c) ≡ opens w → Viewable b w
  unfolding reading_within build_reading build
  along zero c g t k enough e = absurd (omega (arith, k.within))
  along (suc n) c g t k enough e = go (next s c) refl e (along n)
    where
      go : (r : Step) → next s c ≡ r → build_reading place b s g (on_step r (λ d. reading_within n s d)) ≡ opens w
          → ((d : Cursor) (h : Building) → Sound place b d h → Standing s d → length s + 2 - d.at ≤ n
          → build_reading place b s h (reading_within n s d) ≡ opens w → Viewable b w)
          → Viewable b w
      go (Ok (Some (x, d))) q f more =
          let p = next_parts s c t.marked q in
          let o = next_origin s c t.few q in
          let y = next_onward k q in
          let j = next_stands k q in
          let turn : Turn s c x d = record {
            parts = p.0;
            marked = p.1;
            origin = o.0;
            near = o.1;
            spans = next_spans s c t.few q;
            onward = y.onward;
            short = inside d j o.1.few;
          } in
          after (Sound place b d) (λ h. build_reading place b s h (reading_within n s d)) (take_event b s g x)
          (sound_event place b s c g t x d turn) (λ h u. more d h u j (omega (arith, y.onward))) f
      go (Ok None) q f more = done g (ends-viewable place b c g t (inside c k t.few) (next_ends s c t.few q)) f
      go (Err r) q f more = absurd (true≢false (cc))

-- ---- the whole
viewable : (how : How) (b : Buffers) (s : List ℕ) (w : Book) → of_symbol how.place ≡ false → block_place how.place ≡ false → stage how.place ≡ outside
    → opening how b s ≡ opens w → Viewable b w
unfolding opening reading reading_from
viewable how b s w h k l e = go (ltb script_limit (length s)) (leb node_width (length b.nodes)) refl refl e
  where
    go : (x y : Bool) → ltb script_limit (length s) ≡ x → leb node_width (length b.nodes) ≡ y
        → cond x (declined too_long 0) (cond y (build_reading how.place b s nothing_yet (reading reld how.place s)) (declined no_room 0)) ≡ opens w
        → Viewable b w
    go true y u z f = absurd (true≢false (cc))
    go false false u z f = absurd (true≢false (cc))
    go false true u z f =
        let p = how.place in
        along p b s w (ltb-false _ _ u) (length s + 2 - (start reld p).at) (start reld p) nothing_yet (sound_start b s p (leb-true _ _ z) h k l)
        (start_stands reld p s) (omega arith) f

-- where a reading starts, no extern block is open and no node
pub record Starts (place : Place) : Type 0 where
  pub few : of_symbol place ≡ false
  free : block_place place ≡ false
  none : stage place ≡ outside

pub starts-free : (how : How) → opens_at how ≡ true → Starts how.place
starts-free how e = go how.place e
  where
    go : (x : Place) → opens_from x ≡ true → Starts x
    go place.AtScript f = record { few = refl; free = refl; none = refl }
    go place.AtNode f = absurd (true≢false (sym f))
    go place.AtBody f = absurd (true≢false (sym f))
    go place.InBody f = absurd (true≢false (sym f))
    go place.InBodyExtern f = absurd (true≢false (sym f))
    go place.InSole f = absurd (true≢false (sym f))
    go place.InSoleExtern f = absurd (true≢false (sym f))
    go place.AtList f = record { few = refl; free = refl; none = refl }
    go place.InList f = absurd (true≢false (sym f))
    go place.InListExtern f = absurd (true≢false (sym f))
    go place.AtSymbol f = absurd (true≢false (sym f))
    go place.InSymbolExtern f = absurd (true≢false (sym f))
    go place.AtBare f = absurd (true≢false (sym f))
    go place.InBareExtern f = absurd (true≢false (sym f))
    go place.BehindSymbol f = absurd (true≢false (sym f))

pub opened-viewable : (how : How) (b : Buffers) (s : List ℕ) (w : Book) → opens_at how ≡ true → opening how b s ≡ opens w → Viewable b w
opened-viewable how b s w h e =
    let f = starts-free how h in
    viewable how b s w f.few f.free f.none e

pub opened-holds : OpenedHolds
opened-holds how b s w h e =
    let v = opened-viewable how b s w h e in
    view_of_layout b w v.fits v.sane
