-- The line that the walk gives is the one that decides as specs/Ranks.antt has it: it matches, and is ahead of every other that does. There is one at
-- most, and there is none exactly when no line matches. Assumes nothing.
use Prim.Native.Nat.{ℕ, zero, suc, ◌+◌, ◌*◌, ◌≤◌, ◌<◌}
use mathlib.Core.Path.{◌≡◌, refl, sym, ap, subst, ◌∙◌}
use mathlib.Core.List.{List, [], ◌∷◌}
use mathlib.Core.Bool.{Bool, true, false, cond, ◌&&◌, false≢true}
use mathlib.Core.Logic.{◌↔◌, ⊎_elim}
use Rattle.std.specs.Prelude.{Option, Some, None}
use native.Mathlib.Omega.{arith}
use lib.Dec.{eqb}
use borrow.Author.Tests.{eqb-true, eq-eqb}
use lib.ListN.{length, get_or}
use Rattle.lists.proofs.Tests.{both, fails}
use Rattle.lists.specs.Each.{every}
use Rattle.packing.proofs.TableLaws.{every_at}
use Rattle.book.specs.Books.{Line, Book, book_frame, edition_of, no_line}
use Rattle.book.specs.Edits.{line_at}
use Rattle.book.specs.Sanity.{in_range}
use Rattle.book.proofs.Forms.{Ranged, ranged}
use Rattle.ranking.specs.Matching.{Name, line_matches}
use Rattle.ranking.specs.Walk.{Stage, stages, first_line, or_else, walk, deciding}
use Rattle.ranking.specs.Ranks.{rank, Decides}
use Rattle.ranking.proofs.Stages.{no_stage, at_most_or_more, length-stages, rank_below, stage_sees}

-- ---- the first line that passes a test
-- line i is the first that does
pub record First (t : Line → Bool) (ls : List Line) (i : ℕ) : Type 0 where
  pub there : i < length ls
  pub passes : t (line_at ls i) ≡ true
  pub before : (j : ℕ) → j < i → t (line_at ls j) ≡ false

-- what the search among lines numbered from s on gives
pub data Looked (t : Line → Bool) (ls : List Line) (s : ℕ) : Option ℕ → Type 0 where
  found : (i : ℕ) → First t ls i → Looked t ls s (Some (s + i))
  missing : ((j : ℕ) → j < length ls → t (line_at ls j) ≡ false) → Looked t ls s None

module _ (t : Line → Bool) where
  looked_behind : (x : Line) (xs : List Line) (s : ℕ) (o : Option ℕ) → t x ≡ false → Looked t xs (s + 1) o → Looked t (x ∷ xs) s o
  looked_behind x xs s o e (found i f) =
      subst (λ (k : ℕ). Looked t (x ∷ xs) s (Some k)) (omega arith)
      (found (suc i) (record { there = omega (arith, f.there); passes = f.passes; before = passed }))
    where
      passed : (j : ℕ) → j < suc i → t (line_at (x ∷ xs) j) ≡ false
      passed zero h = e
      passed (suc j) h = f.before j (omega arith)
  looked_behind x xs s o e (missing f) = missing passed where
    passed : (j : ℕ) → j < length (x ∷ xs) → t (line_at (x ∷ xs) j) ≡ false
    passed zero h = e
    passed (suc j) h = f j (omega arith)

  looked_at : (x : Line) (xs : List Line) (s : ℕ) (o : Option ℕ) (b : Bool) → t x ≡ b → Looked t xs (s + 1) o → Looked t (x ∷ xs) s (cond b (Some s) o)
  looked_at x xs s o true e l =
      subst (λ (k : ℕ). Looked t (x ∷ xs) s (Some k)) (omega arith)
      (found 0 (record { there = omega arith; passes = e; before = λ j h. absurd (omega arith) }))
  looked_at x xs s o false e l = looked_behind x xs s o e l

  pub looked : (s : ℕ) (ls : List Line) → Looked t ls s (first_line t s ls)
  unfolding first_line
  looked s [] = missing (λ j h. absurd (omega arith))
  looked s (x ∷ xs) = looked_at x xs s (first_line t (s + 1) xs) (t x) refl (looked (s + 1) xs)

-- ---- one line decides at most
module _ (n : ℕ) (m : Line → Bool) (ls : List Line) where
  never_before : (i j : ℕ) → Decides n m ls i → Decides n m ls j → i < j → ⊥
  never_before i j p q h = omega (arith, p.first j q.there q.matching, q.lowest i h p.matching)

  pub decides_once : (i j : ℕ) → Decides n m ls i → Decides n m ls j → i ≡ j
  decides_once i j p q =
      ⊎_elim (λ h. ⊎_elim (λ k. omega arith) (λ k. absurd (never_before i j p q k)) (at_most_or_more j i)) (λ h. absurd (never_before j i q p h)) (at_most_or_more i j)

  -- ---- the walk
  -- of the lines that match, none has a rank below s
  abbrev From : ℕ → Type 0
  From s = (j : ℕ) → j < length ls → m (line_at ls j) ≡ true → s ≤ rank n (line_at ls j)

  -- what a walk gives whose stages go up to rank e
  data Walked (e : ℕ) : Option ℕ → Type 0 where
    decided_by : (i : ℕ) → Decides n m ls i → Walked e (Some i)
    unmatched : From e → Walked e None

  -- the stages ts look at the ranks from s on
  abbrev RanksFrom : ℕ → List Stage → Type 0
  RanksFrom s ts = (j : ℕ) → j < length ls → (k : ℕ) → k < length ts → get_or ts k no_stage (line_at ls j) ≡ eqb (rank n (line_at ls j)) (s + k)

  module _ (t : Stage) (s : ℕ) (see : (j : ℕ) → j < length ls → t (line_at ls j) ≡ eqb (rank n (line_at ls j)) s) (from : From s) where
    -- a line that the stage passes over, and that matches, is of a higher rank
    passed_over : (j : ℕ) → j < length ls → (t (line_at ls j) && m (line_at ls j)) ≡ false → m (line_at ls j) ≡ true → s < rank n (line_at ls j)
    passed_over j h e y =
        let z : rank n (line_at ls j) ≡ s → ⊥ = λ q. false≢true (sym e ∙ rw (see j h, eq-eqb _ _ q) y) in
        ⊎_elim (λ k. absurd (z (omega (arith, from j h y)))) (λ k. k) (at_most_or_more (rank n (line_at ls j)) s)

    stage_decides : (i : ℕ) → First (λ x. t x && m x) ls i → Decides n m ls i
    stage_decides i f =
        let b = both (t (line_at ls i)) (m (line_at ls i)) f.passes in
        let q : rank n (line_at ls i) ≡ s = eqb-true _ _ (sym (see i f.there) ∙ b.0) in
        record {
          there = f.there;
          matching = b.1;
          first = λ j h y. omega (arith, from j h y);
          lowest = λ j h y. omega (arith, passed_over j (omega (arith, f.there)) (f.before j h) y);
        }

    stage-passes : (e : ℕ) (o r : Option ℕ) → Looked (λ x. t x && m x) ls 0 o → (From (s + 1) → Walked e r) → Walked e (or_else o r)
    stage-passes e o r (found i f) k = decided_by (0 + i) (subst (Decides n m ls) (omega arith) (stage_decides i f))
    stage-passes e o r (missing f) k = k (λ j h y. omega (arith, passed_over j h (f j h) y))

  walked : (ts : List Stage) (s : ℕ) → RanksFrom s ts → From s → Walked (s + length ts) (walk m ts ls)
  unfolding walk
  walked [] s see from = unmatched (λ j h y. omega (arith, from j h y))
  walked (t ∷ ts) s see from =
      stage-passes t s (λ j h. see j h 0 (omega arith) ∙ ap (eqb (rank n (line_at ls j))) (omega arith)) from (s + length (t ∷ ts)) _ _ (looked (λ x. t x && m x) 0 ls)
      (λ f. subst (λ (e : ℕ). Walked e (walk m ts ls)) (omega arith)
      (walked ts (s + 1) (λ j h k w. see j h (suc k) (omega arith) ∙ ap (eqb (rank n (line_at ls j))) (omega arith)) f))

  module _ (g : every (in_range n) ls ≡ true) where
    line_ranged : (j : ℕ) → j < length ls → Ranged n (line_at ls j)
    line_ranged j h = ranged n (line_at ls j) (every_at (in_range n) ls j no_line g h)

    all_walked : Walked (10 * n) (walk m (stages n) ls)
    all_walked =
        subst (λ (e : ℕ). Walked e (walk m (stages n) ls)) (omega (arith, length-stages n))
        (walked (stages n) 0
        (λ j h k w. stage_sees n (line_at ls j) (line_ranged j h) k (omega (arith, length-stages n)) ∙ ap (eqb (rank n (line_at ls j))) (omega arith))
        (λ j h y. omega arith))

    none_matches : From (10 * n) → (j : ℕ) → j < length ls → m (line_at ls j) ≡ false
    none_matches f j h = fails (λ y. omega (arith, f j h y, rank_below n (line_at ls j) (line_ranged j h)))

    decided_is : (o : Option ℕ) → Walked (10 * n) o → (i : ℕ) → o ≡ Some i → Decides n m ls i
    decided_is o (decided_by k d) i e = subst (Decides n m ls) (let q : k ≡ i = cc in q) d
    decided_is o (unmatched f) i e = let z : ◌≡◌ {A = ℕ} 0 1 = cc in absurd (omega arith)

    is_decided : (o : Option ℕ) → Walked (10 * n) o → (i : ℕ) → Decides n m ls i → o ≡ Some i
    is_decided o (decided_by k d) i e = ap Some (decides_once k i d e)
    is_decided o (unmatched f) i e = absurd (false≢true (sym (none_matches f i e.there) ∙ e.matching))

    undecided_is : (o : Option ℕ) → Walked (10 * n) o → o ≡ None → (j : ℕ) → j < length ls → m (line_at ls j) ≡ false
    undecided_is o (decided_by k d) e = let z : ◌≡◌ {A = ℕ} 0 1 = cc in absurd (omega arith)
    undecided_is o (unmatched f) e = none_matches f

    is_undecided : (o : Option ℕ) → Walked (10 * n) o → ((j : ℕ) → j < length ls → m (line_at ls j) ≡ false) → o ≡ None
    is_undecided o (decided_by k d) f = absurd (false≢true (sym (f k d.there) ∙ d.matching))
    is_undecided o (unmatched f) e = refl

    -- what the walk gives is what decides
    pub walk_decides : (i : ℕ) → (walk m (stages n) ls ≡ Some i) ↔ Decides n m ls i
    walk_decides i = (decided_is _ all_walked i, is_decided _ all_walked i)

    -- "nothing is found exactly when no line matches"
    pub walk-nothing : (walk m (stages n) ls ≡ None) ↔ ((j : ℕ) → j < length ls → m (get_or ls j no_line) ≡ false)
    walk-nothing = (undecided_is _ all_walked, is_undecided _ all_walked)

-- ---- the same of a book whose lines are in range
module _ (nm : Name) (w : Book) (g : every (in_range (length w.nodes)) w.lines ≡ true) where
  pub deciding_exactly : (i : ℕ) → (deciding nm w ≡ Some i) ↔ Decides (length w.nodes) (line_matches (edition_of (book_frame w)) nm) w.lines i
  unfolding deciding
  deciding_exactly i = walk_decides (length w.nodes) (line_matches (edition_of (book_frame w)) nm) w.lines g i

  pub deciding-nothing : (deciding nm w ≡ None) ↔ ((j : ℕ) → j < length w.lines → line_matches (edition_of (book_frame w)) nm (get_or w.lines j no_line) ≡ false)
  unfolding deciding
  deciding-nothing = walk-nothing (length w.nodes) (line_matches (edition_of (book_frame w)) nm) w.lines g
