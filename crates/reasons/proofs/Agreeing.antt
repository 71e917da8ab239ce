-- Version, locality and membership are read off what `why` answers (specs/Named.antt), of every book and name. Assumes nothing.
use Prim.Native.Nat.{ℕ, ◌<◌}
use mathlib.Core.Path.{◌≡◌, refl, sym, ap, ◌∙◌}
use mathlib.Core.List.{List}
use mathlib.Core.Bool.{Bool, true, false, cond, ◌&&◌, true≢false}
use mathlib.Core.Logic.{◌⊎◌, inl, inr}
use Rattle.std.specs.Prelude.{Option, Some, None, Result, Ok, Err, ⊤}
use native.Mathlib.Omega.{arith}
use borrow.Author.Tests.{eq-eqb, ne_eqb, eqb-true}
use lib.Dec.{eqb}
use lib.ListN.{length}
use Rattle.numbers.specs.Marks.{global, local}
use Rattle.numbers.specs.declared.Refusal.{Refusal}
use Rattle.numbers.specs.declared.Refusal.TheVariants as no
use Rattle.numbers.specs.Saying.{refusal_of}
use Rattle.lists.specs.Each.{any, every}
use Rattle.lists.proofs.Tests.{both}
use Rattle.packing.proofs.TableLaws.{every_at}
use Rattle.book.specs.Books.{Node, Line, Book, book_frame, edition_of, export, no_edits, no_line, regular, rust}
use Rattle.book.specs.Edits.{journal_fits, line_at}
use Rattle.book.specs.Sanity.{bare_star, in_range, kind_good, nodes_good, sane, some_star}
use Rattle.book.proofs.Asking.{viewed-in_range}
use Rattle.book.proofs.Forms.{ranged}
use Rattle.book.proofs.Views.{layout_of_view}
use Rattle.ranking.specs.Matching.{Name, line_matches}
use Rattle.ranking.specs.Names.{name_refusal}
use Rattle.ranking.specs.Walk.{deciding, first_line, or_else}
use Rattle.ranking.proofs.Deciders.{First, deciding_exactly, deciding-nothing}
use Rattle.lookups.specs.declared.index.VersionIndex.{VersionIndex}
use Rattle.lookups.specs.declared.answers.Locality.TheVariants as locality
use Rattle.lookups.specs.Lookups.{decided_locality, decided_version, listed, listed_as, locality_asked, locality_of, long_wanted}
use Rattle.lookups.specs.Lookups.{node_version, version_asked, version_of, indexed, wanted_version}
use Rattle.export_list.specs.Membership.{contains_asked, member_of}
use Rattle.export_list.proofs.Members.{match_at, match_none}
use Rattle.reasons.specs.Named.{FirstListed, FirstStar, LookupsAgree, locality_off, membership_off, version_off}
use Rattle.reasons.specs.Why.{line_told, rust_deciding, wanted_told, why_asked, why_of}
use Rattle.reasons.proofs.FirstLines.{first_exactly, first_nothing, rust_exactly}

-- ---- by the ranking
module _ (ls : List Line) where
  version-ranked : (o : Option ℕ) (xs : List Node) → Ok (decided_version ls o) ≡ version_off xs None (Ok (line_told ls o))
  version-ranked (Some i) xs = refl
  version-ranked None xs = refl

  locality-ranked : (o : Option ℕ) → Ok (decided_locality ls o) ≡ locality_off (Ok (line_told ls o))
  locality-ranked (Some i) = refl
  locality-ranked None = refl

wanted-done : (x : Result VersionIndex Refusal) → refusal_of (wanted_told x) ≡ refusal_of (indexed x)
wanted-done (Ok i) = refl
wanted-done (Err z) = refl

-- ---- a wanted version
version_wanted : (x : Result VersionIndex Refusal) (v : List ℕ) (xs : List Node) → wanted_version xs v ≡ x → indexed x ≡ version_off xs (Some v) (wanted_told x)
version_wanted (Ok i) v xs e = ap indexed (sym e)
version_wanted (Err z) v xs e = refl

-- ---- the Rust kind
module _ (w : Book) (k : w.kind ≡ rust) (g : sane w ≡ true) (t : List ℕ) where
  kinds : (length w.nodes ≡ 1) × (some_star w.lines ≡ true)
  unfolding sane kind_good
  kinds =
      let a : kind_good w ≡ true = (both (kind_good w) (journal_fits w.edits w.lines) (both (nodes_good w.nodes) _ g).1).0 in
      let f : eqb w.kind regular ≡ false = ne_eqb w.kind regular (λ e. omega (arith, e, k)) in
      let b = both (eqb (length w.nodes) 1) (no_edits w.edits && some_star w.lines) (rw (f, eq-eqb w.kind rust k) at a) in
      (eqb-true _ _ b.0, (both (no_edits w.edits) (some_star w.lines) b.1).1)

  -- its lines are in node 0, which has no version
  module _ (r : every (in_range (length w.nodes)) w.lines ≡ true) (v : Option (List ℕ)) where
    first_node : (i : ℕ) → i < length w.lines → None ≡ node_version (line_at w.lines i).node
    unfolding node_version
    first_node i h =
        let a = (ranged (length w.nodes) _ (every_at (in_range (length w.nodes)) w.lines i no_line r h)).node in
        let z : (line_at w.lines i).node ≡ 0 = omega (arith, kinds.0) in
        rw z

    within : (i : ℕ) → FirstListed w t i ⊎ FirstStar w t i → i < length w.lines
    within i (inl f) = f.there
    within i (inr f) = f.there

    rust-version : (o : Option ℕ) → rust_deciding t w.lines ≡ o → Ok None ≡ version_off w.nodes v (Ok (line_told w.lines o))
    rust-version (Some i) e = ap Ok (first_node i (within i ((rust_exactly w t i).0 e)))
    rust-version None e = refl

  -- a listed line is global, and the other is local
  global-line : (i : ℕ) → First (listed_as t) w.lines i
      → Ok (Some (cond (any (listed_as t) w.lines) locality.Global locality.Local)) ≡ locality_off (Ok (line_told w.lines (Some i)))
  unfolding listed_as
  global-line i f =
      let a = (both (eqb (line_at w.lines i).section global) _ f.passes).0 in
      rw (match_at (listed_as t) w.lines i f.there f.passes, a)

  starred : any bare_star w.lines ≡ true
  unfolding some_star
  starred = kinds.1

  pub some_first : first_line bare_star 0 w.lines ≡ None → ⊥
  some_first e = true≢false (sym starred ∙ match_none bare_star w.lines ((first_nothing bare_star w.lines).0 e))

  star_line : (o : Option ℕ) → first_line bare_star 0 w.lines ≡ o → Ok (Some locality.Local) ≡ locality_off (Ok (line_told w.lines o))
  unfolding bare_star
  star_line (Some i) e =
      let f = (first_exactly bare_star w.lines i).0 e in
      let a = (both (eqb (line_at w.lines i).class 4) _ f.passes).1 in
      let b = eqb-true (line_at w.lines i).section local (both (eqb (line_at w.lines i).section local) _ a).0 in
      rw b
  star_line None e = absurd (some_first e)

  rust-locality : (o : Option ℕ) → first_line (listed_as t) 0 w.lines ≡ o
      → Ok (Some (cond (any (listed_as t) w.lines) locality.Global locality.Local)) ≡ locality_off (Ok (line_told w.lines (or_else o (first_line bare_star 0 w.lines))))
  rust-locality (Some i) e = global-line i ((first_exactly (listed_as t) w.lines i).0 e)
  rust-locality None e =
      rw (match_none (listed_as t) w.lines ((first_nothing (listed_as t) w.lines).0 e)) (star_line _ refl)

-- ---- every book
module _ (w : Book) (g : sane w ≡ true) (r : every (in_range (length w.nodes)) w.lines ≡ true) (n : Name) where
  version_by : (x : Bool) → eqb w.kind rust ≡ x → (v : Option (List ℕ)) → version_of w n v ≡ version_off w.nodes v (why_of w n v)
  unfolding version_of why_of
  version_by true e v = rw e (rust-version w (eqb-true _ _ e) g n.raw r v (rust_deciding n.raw w.lines) refl)
  version_by false e (Some v) = rw e (version_wanted (wanted_version w.nodes v) v w.nodes refl)
  version_by false e None = rw e (version-ranked w.lines (deciding n w) w.nodes)

  locality_by : (x : Bool) → eqb w.kind rust ≡ x → Ok (locality_of w n) ≡ locality_off (why_of w n None)
  unfolding locality_of why_of listed rust_deciding listed_as
  locality_by true e = rw e (rust-locality w (eqb-true _ _ e) g n.raw (first_line (listed_as n.raw) 0 w.lines) refl)
  locality_by false e = rw e (locality-ranked w.lines (deciding n w))

  member_by : (o : Option ℕ) → deciding n w ≡ o → Ok (member_of w n) ≡ membership_off (Ok (line_told w.lines o))
  unfolding member_of
  member_by (Some i) e =
      let d = (deciding_exactly n w r i).0 e in
      rw (match_at (line_matches (edition_of (book_frame w)) n) w.lines i d.there d.matching)
  member_by None e = rw (match_none (line_matches (edition_of (book_frame w)) n) w.lines ((deciding-nothing n w r).0 e))

  refusal_by : (x : Bool) → eqb w.kind rust ≡ x → (v : Option (List ℕ)) → refusal_of (why_of w n v) ≡ refusal_of (version_of w n v)
  unfolding version_of why_of
  refusal_by true e v = rw e
  refusal_by false e (Some v) = rw e (wanted-done (wanted_version w.nodes v))
  refusal_by false e None = rw e

  -- what refuses a name
  version-told : (w.kind ≡ export → ⊥) → (v : Option (List ℕ)) (x : Result ⊤ Refusal) → name_refusal n (long_wanted v) ≡ x
      → version_asked (Some w) n v ≡ version_off w.nodes v (why_asked (Some w) n v)
  unfolding version_asked why_asked
  version-told k v (Ok u) e = rw (ne_eqb _ _ k, e) (version_by _ refl v)
  version-told k v (Err z) e = rw (ne_eqb _ _ k, e)

  locality-told : (w.kind ≡ export → ⊥) → (x : Result ⊤ Refusal) → name_refusal n false ≡ x → locality_asked (Some w) n ≡ locality_off (why_asked (Some w) n None)
  unfolding locality_asked why_asked
  locality-told k (Ok u) e = rw (ne_eqb _ _ k, e) (locality_by _ refl)
  locality-told k (Err z) e = rw (ne_eqb _ _ k, e)

  member-told : w.kind ≡ export → (x : Result ⊤ Refusal) → name_refusal n false ≡ x → contains_asked (Some w) n ≡ membership_off (why_asked (Some w) n None)
  unfolding contains_asked why_asked why_of
  member-told k (Ok u) e =
      let f : eqb w.kind rust ≡ false = ne_eqb w.kind rust (λ q. omega (arith, q, k)) in
      rw (eq-eqb _ _ k, e, f) (member_by _ refl)
  member-told k (Err z) e = rw (eq-eqb _ _ k, e)

  -- the refusals
  refusal-told : (w.kind ≡ export → ⊥) → (v : Option (List ℕ)) (x : Result ⊤ Refusal) → name_refusal n (long_wanted v) ≡ x
      → refusal_of (why_asked (Some w) n v) ≡ refusal_of (version_asked (Some w) n v)
  unfolding version_asked why_asked
  refusal-told k v (Ok u) e = rw (ne_eqb _ _ k, e) (refusal_by _ refl v)
  refusal-told k v (Err z) e = rw (ne_eqb _ _ k, e)

-- of an export list no version is asked
barred-told : (w : Book) (n : Name) → w.kind ≡ export → (v : List ℕ) → why_asked (Some w) n (Some v) ≡ Err no.WrongKind
unfolding why_asked
barred-told w n k v = rw (eq-eqb _ _ k)

pub lookups_agree : LookupsAgree
lookups_agree c b w v n =
    let l = layout_of_view c b w v in
    let r = viewed-in_range c b w v in
    record {
      version = λ k x. version-told w l.3 r n k x _ refl;
      locality = λ k. locality-told w l.3 r n k _ refl;
      membership = λ k. member-told w l.3 r n k _ refl;
      refusal = λ k x. refusal-told w l.3 r n k x _ refl;
      unasked = λ k x. barred-told w n k x;
    }
