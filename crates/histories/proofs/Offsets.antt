-- No lookup sees an offset, and behind any history each line is one that was opened, with its offset, or was added and has 0 (specs/Offsets.antt). Assumes
-- nothing.
use Prim.Native.Nat.{ℕ, zero, suc, ◌+◌, ◌<◌, ◌≤◌}
use mathlib.Core.Path.{◌≡◌, refl, sym, ap, ap₂, ◌∙◌}
use mathlib.Core.List.{List, [], ◌∷◌, ◌++◌}
use mathlib.Core.Bool.{Bool, true, false, cond, ◌||◌, or-true}
use Rattle.std.specs.Prelude.{Option, Some, None}
use native.Mathlib.Omega.{arith}
use lib.Dec.{eqb}
use lib.ListN.{length, set}
use Rattle.linker_script.specs.Parts.{part}
use Rattle.linker_script.specs.Trim.{trim_end}
use Rattle.lists.specs.Each.{any, every}
use Rattle.numbers.specs.Editions.{reld}
use Rattle.numbers.specs.Marks.{global}
use Rattle.numbers.specs.declared.Edition.{Edition}
use Rattle.storing.specs.Keeping.{Keep, kept, refused, keep}
use Rattle.reading_cursors.specs.declared.Event.{Event}
use Rattle.reading_cursors.specs.declared.Event.TheVariants as event
use Rattle.reading.specs.Events.{reading}
use Rattle.book.specs.Books.{Book, Line, book_frame, edition_of, with_offset}
use Rattle.book.specs.Edits.{line_at, marked, stands}
use Rattle.ranking.specs.Matching.{Name, line_matches}
use Rattle.ranking.specs.Offsets.{without_offsets}
use Rattle.ranking.specs.Walk.{deciding}
use Rattle.ranking.proofs.Offsets.{deciding_ignores_offsets, matches_ignores_offset}
use Rattle.lookups.specs.Lookups.{decided_locality, decided_version, listed, listed_as, locality_asked, locality_of, version_asked, version_of}
use Rattle.export_list.specs.Membership.{contains_asked, member_of}
use Rattle.trial.specs.Trial.{kept_if, standing}
use Rattle.trial.specs.Symbols.{symbol_place}
use Rattle.histories.specs.Histories.{Call, adds, adds_symbol, settles, strikes, undoes, Desk, Told, back_to, desk_at, edited_to, follow, leads}
use Rattle.histories.specs.Histories.{settled_to, with_events, with_kept}
use Rattle.histories.specs.Demand.{desk_behind}
use Rattle.histories.specs.Offsets.{Came, added, opened, LookupsIgnore, OffsetsSurvive, book_without_offsets, can_add, has_added, history_behind}
use Rattle.histories.proofs.Demand.{demand_3}

-- ---- lookups
-- a line of them, but for its offset
line-without : (ls : List Line) (i : ℕ) → line_at (without_offsets ls) i ≡ with_offset 0 (line_at ls i)
unfolding without_offsets
line-without [] i = refl
line-without (x ∷ ls) zero = refl
line-without (x ∷ ls) (suc i) = line-without ls i

any_without : (t : Line → Bool) → ((x : Line) → t (with_offset 0 x) ≡ t x) → (ls : List Line) → any t (without_offsets ls) ≡ any t ls
unfolding any without_offsets
any_without t b [] = refl
any_without t b (x ∷ ls) = ap₂ ◌||◌ (b x) (any_without t b ls)

module _ (w : Book) (n : Name) where
  same_deciding : deciding n (book_without_offsets w) ≡ deciding n w
  unfolding deciding
  same_deciding = deciding_ignores_offsets (book_frame w) n w.lines

  same_version : (d : Option ℕ) → decided_version (without_offsets w.lines) d ≡ decided_version w.lines d
  same_version (Some i) = rw (line-without w.lines i)
  same_version None = refl

  same_locality : (d : Option ℕ) → decided_locality (without_offsets w.lines) d ≡ decided_locality w.lines d
  same_locality (Some i) = rw (line-without w.lines i)
  same_locality None = refl

  version-without : (v : Option (List ℕ)) → version_of (book_without_offsets w) n v ≡ version_of w n v
  unfolding version_of
  version-without (Some v) = refl
  version-without None = rw (same_deciding, same_version (deciding n w))

  listed-without : listed (without_offsets w.lines) n.raw ≡ listed w.lines n.raw
  unfolding listed listed_as
  listed-without = any_without _ (λ x. refl) w.lines

  locality-without : locality_of (book_without_offsets w) n ≡ locality_of w n
  unfolding locality_of
  locality-without = rw (listed-without, same_deciding, same_locality (deciding n w))

  member-without : member_of (book_without_offsets w) n ≡ member_of w n
  unfolding member_of
  member-without = rw (any_without (line_matches (edition_of (book_frame w)) n) (λ x. matches_ignores_offset (edition_of (book_frame w)) n 0 x) w.lines)

pub lookups_ignore : LookupsIgnore
unfolding version_asked locality_asked contains_asked
lookups_ignore = record {
  version = λ w n v. rw (version-without w n v);
  locality = λ w n. rw (locality-without w n);
  member = λ w n. rw (member-without w n);
}

-- ---- lists of which each element is so
data Each {X : Type 0} (P : X → Type 0) : List X → Type 0 where
  none_yet : Each P []
  one_more : {x : X} {xs : List X} → P x → Each P xs → Each P (x ∷ xs)

module _ {X : Type 0} {P : X → Type 0} where
  each_append : {xs ys : List X} → Each P xs → Each P ys → Each P (xs ++ ys)
  each_append none_yet v = v
  each_append (one_more p u) v = one_more p (each_append u v)

  each_set : {xs : List X} → Each P xs → (i : ℕ) (y : X) → (i < length xs → P y) → Each P (set xs i y)
  each_set none_yet i y f = none_yet
  each_set (one_more p u) zero y f = one_more (f (omega arith)) u
  each_set (one_more p u) (suc i) y f = one_more p (each_set u i y (λ h. f (omega arith)))

module _ {P : Line → Type 0} where
  each_at : {ls : List Line} → Each P ls → (i : ℕ) → i < length ls → P (line_at ls i)
  each_at none_yet i h = absurd (omega arith)
  each_at (one_more p u) zero h = p
  each_at (one_more p u) (suc i) h = each_at u i (omega arith)

  each-standing : {ls : List Line} → Each P ls → Each P (standing ls)
  unfolding standing
  each-standing none_yet = none_yet
  each-standing (one_more {x = x} p u) = go (stands x) (each-standing u)
    where
      go : (t : Bool) {ms : List Line} → Each P ms → Each P (kept_if t x ms)
      go true v = one_more p v
      go false v = v

-- ---- a desk of which each line, now and before each edit, came from the lines ls, behind the history h. The desk's lines are those of the calls so far
module _ (ls : List Line) where
  abbrev Cames : List Told → List Line → Type 0
  Cames h = Each (Came ls h)

  record Traced (h : List Told) (d : Desk) : Type 0 where
    lines : Cames h d.lines
    earlier : Each (Cames h) d.earlier

  marked_came : {h : List Told} (k : ℕ) (x : Line) → Came ls h x → Came ls h (marked k x)
  marked_came k x (opened j i o e) = opened j i o e
  marked_came k x (added a e) = added a e

  first : {h : List Told} (ms : List Line) (i : ℕ) → ((j : ℕ) → j < length ms → line_at ms j ≡ line_at ls (i + j)) → i + length ms ≤ length ls → Cames h ms
  first [] i f h = none_yet
  first (x ∷ ms) i f h =
      let z : i + 0 ≡ i = omega arith in
      let e : x ≡ line_at ls i = f 0 (omega arith) ∙ ap (line_at ls) z in
      one_more (opened i (omega arith) (ap (λ (y : Line). y.offset) e) (ap (marked 0) e))
      (first ms (i + 1) (λ j k. let y : i + suc j ≡ i + 1 + j = omega arith in f (suc j) (omega arith) ∙ ap (line_at ls) y) (omega arith))

  starts : {h : List Told} → Traced h (desk_at ls)
  starts = record { lines = first ls 0 (λ j k. let z : j ≡ 0 + j = omega arith in ap (line_at ls) z) (omega arith); earlier = none_yet }

  -- ---- a call that was done, where `has_added` of it is known
  module _ {h : List Told} where
    edited_so : (d : Desk) (ms : List Line) → Traced h d → Cames h ms → Traced h (edited_to d ms)
    edited_so d ms t u = record { lines = u; earlier = one_more t.lines t.earlier }

    module _ (a : any has_added h ≡ true) where
      kept_so : (d : Desk) (node section language : ℕ) (K : Keep) → Traced h d → Traced h (with_kept d node section language K)
      kept_so d node section language (kept k bs) t = edited_so d _ t (each_append t.lines (one_more (added a refl) none_yet))
      kept_so d node section language (refused n) t = t

      events_so : (e : Edition) (s : List ℕ) (d : Desk) (xs : List Event) → Traced h d → Traced h (with_events e s d xs)
      unfolding with_events
      events_so e s d [] t = t
      events_so e s d (event.Node p n ∷ xs) t = events_so e s d xs t
      events_so e s d (event.Body ∷ xs) t = events_so e s d xs t
      events_so e s d (event.Section k ∷ xs) t = events_so e s d xs t
      events_so e s d (event.Extern k l ∷ xs) t = events_so e s d xs t
      events_so e s d (event.Closed ∷ xs) t = events_so e s d xs t
      events_so e s d (event.Line k l p n ∷ xs) t =
          events_so e s (with_kept d 0 global l (keep e (part s p n))) xs (kept_so d 0 global l (keep e (part s p n)) t)
      events_so e s d (event.Parent p n ∷ xs) t = events_so e s d xs t

    back_so : (d : Desk) (es : List (List Line)) → Each (Cames h) es → Traced h d → Traced h (back_to d es)
    back_so d [] u t = t
    back_so d (ms ∷ es) (one_more v u) t = record { lines = v; earlier = u }

    settled_so : (all : Bool) (d : Desk) → Traced h d → Traced h (settled_to all d)
    settled_so true d t = t
    settled_so false d t = record { lines = each-standing t.lines; earlier = none_yet }

    follow_so : (e : Edition) (d : Desk) (k : Call) → (can_add k ≡ true → any has_added h ≡ true) → Traced h d → Traced h (follow e d k)
    unfolding follow
    follow_so e d (adds node section language s) f t = kept_so (f refl) d node section language (keep e (trim_end s)) t
    follow_so e d (strikes i) f t =
        edited_so d _ t (each_set t.lines i (marked 1 (line_at d.lines i)) (λ k. marked_came 1 (line_at d.lines i) (each_at t.lines i k)))
    follow_so e d undoes f t = back_so d d.earlier t.earlier t
    follow_so e d settles f t = settled_so (every stands d.lines) d t
    follow_so e d (adds_symbol s bare) f t = events_so (f refl) e s d (reading reld (symbol_place bare) s).events t

    -- and a history, of which xs is what is still to follow
    leads_so : (e : Edition) (d : Desk) (xs : List Told) → (any has_added xs ≡ true → any has_added h ≡ true) → Traced h d → Traced h (leads e d xs)
    unfolding leads any
    leads_so e d [] f t = t
    leads_so e d (x ∷ xs) f t =
        leads_so e (cond (eqb x.number 0) (follow e d x.call) d) xs (λ a. f (rw a (or-true (has_added x)))) (go (eqb x.number 0) refl)
      where
        go : (b : Bool) → eqb x.number 0 ≡ b → Traced h (cond b (follow e d x.call) d)
        go true z = follow_so e d x.call (λ a. f (rw (z, a))) t
        go false z = t

pub offsets_survive : OffsetsSurvive
offsets_survive how b s w ks h o r v e i k =
    let t = leads_so w.lines (edition_of (book_frame w)) (desk_at w.lines) (history_behind how b s ks) (λ a. a) (starts w.lines) in
    let x = demand_3 how b s w ks h o r in
    let u : Book = record { kind = w.kind; nodes = w.nodes; lines = (desk_behind how b s w ks).lines; edits = x.edits } in
    let f : Some u ≡ Some v = sym x.held ∙ e in
    let q : u ≡ v = cc in
    let z : (desk_behind how b s w ks).lines ≡ v.lines = ap (λ (y : Book). y.lines) q in
    each_at (rw z at t.lines) i k
