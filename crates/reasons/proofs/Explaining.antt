-- What `why` answers is what request 03 says (specs/Named.antt), of every book and name. Assumes nothing.
use Prim.Native.Nat.{ℕ}
use mathlib.Core.Path.{◌≡◌, refl, sym, ap, ◌∙◌}
use mathlib.Core.List.{List}
use mathlib.Core.Bool.{true, false, and-false}
use Rattle.std.specs.Prelude.{Option, Some, None, Ok}
use native.Mathlib.Omega.{arith}
use borrow.Author.Tests.{ne_eqb}
use Rattle.lists.proofs.Tests.{both}
use Rattle.book.specs.Books.{Line, Book, regular, rust}
use Rattle.book.specs.Edits.{line_at}
use Rattle.book.specs.Sanity.{bare_star, nodes_good, sane}
use Rattle.book.proofs.Asking.{viewed-in_range}
use Rattle.book.proofs.Views.{layout_of_view}
use Rattle.ranking.specs.Matching.{Name}
use Rattle.ranking.specs.Names.{name_refusal}
use Rattle.ranking.specs.Walk.{deciding, first_line, or_else}
use Rattle.ranking.proofs.Deciders.{deciding_exactly, deciding-nothing}
use Rattle.lookups.specs.Lookups.{listed_as, long_wanted, wanted_version}
use Rattle.reasons.specs.declared.Reason.{Reason}
use Rattle.reasons.specs.declared.Why.{Why}
use Rattle.reasons.specs.declared.Why.TheVariants as why
use Rattle.reasons.specs.Named.{Explains}
use Rattle.reasons.specs.Why.{WhyAnswer, line_told, reason, rust_deciding, wanted_told, why_asked, why_of}
use Rattle.reasons.proofs.Agreeing.{some_first}
use Rattle.reasons.proofs.FirstLines.{rust_exactly}
use Rattle.reasons.proofs.Knowing.{tells_known}

-- ---- a line that is told
same_told : (x y : Why) → ◌≡◌ {A = WhyAnswer} (Ok x) (Ok y) → x ≡ y
same_told x y e = cc

apart : {A : Type 0} {r : Reason} → why.NoLine ≡ why.Line r → A
apart e = let z : ◌≡◌ {A = ℕ} 0 1 = cc in absurd (omega arith)

module _ (ls : List Line) where
  line_is : (o : Option ℕ) (r : Reason) → line_told ls o ≡ why.Line r → (o ≡ Some r.line) × (r ≡ reason r.line (line_at ls r.line))
  line_is (Some i) r e = let q : reason i (line_at ls i) ≡ r = cc in rw (← q) (refl, refl)
  line_is None r e = apart e

  is_line : (o : Option ℕ) (r : Reason) → o ≡ Some r.line → r ≡ reason r.line (line_at ls r.line) → line_told ls o ≡ why.Line r
  is_line o r f e = rw f (ap why.Line (sym e))

  none_is : (o : Option ℕ) → line_told ls o ≡ why.NoLine → o ≡ None
  none_is (Some i) e = apart (sym e)
  none_is None e = refl

-- ---- the answer to a name that is not refused
module _ (w : Book) (n : Name) where
  pub by_ranking : (w.kind ≡ rust → ⊥) → name_refusal n false ≡ Ok tt → why_asked (Some w) n None ≡ Ok (line_told w.lines (deciding n w))
  unfolding why_asked why_of
  by_ranking k e = simp (and-false, e, ne_eqb _ _ k)

  -- a book of the Rust kind is no export list
  pub by_listing : w.kind ≡ rust → (v : Option (List ℕ)) → name_refusal n (long_wanted v) ≡ Ok tt
      → why_asked (Some w) n v ≡ Ok (line_told w.lines (rust_deciding n.raw w.lines))
  unfolding why_asked why_of
  by_listing k v e = rw (k, e)

  pub by_version : w.kind ≡ regular → (v : List ℕ) → name_refusal n (long_wanted (Some v)) ≡ Ok tt
      → why_asked (Some w) n (Some v) ≡ wanted_told (wanted_version w.nodes v)
  unfolding why_asked why_of
  by_version k v e = rw (k, e)

-- ---- of the Rust kind a line is named
module _ (w : Book) (t : List ℕ) where
  line-there : (o : Option ℕ) → (o ≡ None → ⊥) → (r : Reason) × (line_told w.lines o ≡ why.Line r)
  line-there (Some i) h = (_, refl)
  line-there None h = absurd (h refl)

  starred : w.kind ≡ rust → sane w ≡ true → rust_deciding t w.lines ≡ None → ⊥
  unfolding rust_deciding
  starred k g e = go (first_line (listed_as t) 0 w.lines) e
    where
      go : (o : Option ℕ) → or_else o (first_line bare_star 0 w.lines) ≡ None → ⊥
      go (Some i) f = let z : ◌≡◌ {A = ℕ} 0 1 = cc in omega arith
      go None f = some_first w k g t f

pub explains : Explains
unfolding sane
explains c b w v n e = record {
  ranked = λ k r. (
    λ q. let g = line_is w.lines (deciding n w) r (same_told _ _ (sym (by_ranking w n k e) ∙ q)) in
        ((deciding_exactly n w (viewed-in_range c b w v) r.line).0 g.0, g.1),
    λ g. by_ranking w n k e ∙ ap Ok (is_line w.lines (deciding n w) r ((deciding_exactly n w (viewed-in_range c b w v) r.line).1 g.0) g.1),
  );
  unmatched = λ k. (
    λ q. (deciding-nothing n w (viewed-in_range c b w v)).0 (none_is w.lines (deciding n w) (same_told _ _ (sym (by_ranking w n k e) ∙ q))),
    λ g. by_ranking w n k e ∙ ap (λ (o : Option ℕ). Ok (line_told w.lines o)) ((deciding-nothing n w (viewed-in_range c b w v)).1 g),
  );
  listed = λ k x f r. (
    λ q. let g = line_is w.lines (rust_deciding n.raw w.lines) r (same_told _ _ (sym (by_listing w n k x f) ∙ q)) in
        ((rust_exactly w n.raw r.line).0 g.0, g.1),
    λ g. by_listing w n k x f ∙ ap Ok (is_line w.lines (rust_deciding n.raw w.lines) r ((rust_exactly w n.raw r.line).1 g.0) g.1),
  );
  always = λ k x f.
      let g = line-there w n.raw (rust_deciding n.raw w.lines) (starred w n.raw k (layout_of_view c b w v).3) in
      (g.0, by_listing w n k x f ∙ ap Ok g.1);
  wanted = λ k x f. rw (by_version w n k x f) (tells_known w (both (nodes_good w.nodes) _ (layout_of_view c b w v).3).0 x);
}
