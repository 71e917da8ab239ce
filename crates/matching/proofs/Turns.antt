-- What `only_stars` finds, and the turns of `match_name`, on the bytes of a pattern and of a name. The premises are what the code has learned; each turn of
-- `match_name` is one of `attempt` (proofs/Latest.antt).
-- Assumes nothing.
use Prim.Native.Nat.{ℕ, suc, ◌+◌, ◌-◌, ◌*◌, ◌<◌, ◌≤◌}
use mathlib.Core.Path.{◌≡◌, refl, sym, ap, ◌∙◌}
use mathlib.Core.List.{List, [], ◌∷◌}
use mathlib.Core.Bool.{Bool, true, false}
use native.Mathlib.Nat.{add-zero, le_refl, suc-mul, mul-le-mul_right}
use native.Mathlib.Decide.{ℕ_discrete}
use native.Mathlib.Omega.{arith}
use borrow.Author.Tests.{ne_eqb}
use lib.Dec.{eqb}
use Rattle.std.specs.Prelude.{Option, Some, None}
use Rattle.std.specs.List.{list_all}
use lib.ListN.{length, drop}
use Rattle.numbers.specs.Limits.{token_limit, name_limit}
use Rattle.lists.proofs.PiecesLaws.{pieces-nil, pieces-cons, pieces-few}
use Rattle.utf8.specs.Utf8.{read, chars}
use Rattle.utf8.specs.At.{character_at}
use Rattle.utf8.specs.declared.Character.{Character}
use Rattle.utf8.proofs.Walk.{walked, chars-nil, chars_end, chars-cons, chars_cons_ascii, chars-few}
use Rattle.numbers.specs.declared.Edition.{Edition}
use Rattle.matching.specs.declared.elements.ElementAt.{ElementAt}
use Rattle.matching.specs.declared.elements.ElementAt.TheVariants.{Star, Takes, Fails}
use Rattle.pattern.specs.Patterns.{Taker, element, elements, ended, first, somewhere, matches}
use Rattle.matching.specs.declared.LatestStar.{LatestStar}
use Rattle.matching.specs.Tests.{Trial, failed, tested, attempt, trial, match_of}
use Rattle.matching.specs.Post.{ElementStar, ElementTakes, ElementFails, ends, differs, ElementOk}
use Rattle.pattern.proofs.Places.{ascii_byte}
use Rattle.matching.proofs.ElementExits.{elements_end, element-one}
use Rattle.matching.proofs.Latest.{trial-matches, trial-few, count, left_to, turn_back, turn_star, turn_takes, turn_differs, turn_short, turn_last, turn_end}

-- ---- `only_stars`: a star is one byte, and none of another character's
pub stars_only : (e : Edition) (s : List ℕ) → list_all (λ c. eqb c 42) s ≡ matches (elements e s) []
unfolding elements element matches ended first somewhere
stars_only e [] = rw (chars-nil, pieces-nil (element e)) refl
stars_only e (c ∷ s) = go (ℕ_discrete c 42) (stars_only e s)
  where
    go : Dec (c ≡ 42) → list_all (λ x. eqb x 42) s ≡ matches (elements e s) [] → list_all (λ x. eqb x 42) (c ∷ s) ≡ matches (elements e (c ∷ s)) []
    go (yes h) k = rw (h, chars_cons_ascii 42 s (omega arith), pieces-cons (element e) 42 (chars s)) k
    go (no n) k =
        let m : (read c s).what ≡ 42 → ⊥ = λ q. n (sym (ascii_byte c s (omega arith)) ∙ q) in
        let o = element-one e (read c s).what (chars (drop (read c s).more s)) m in
        rw (ne_eqb c 42 n, chars-cons c s, pieces-cons (element e) (read c s).what _, o.is)

-- ---- a trial that is under way
abbrev whole : Edition → List ℕ → List ℕ → Trial
whole e p n = trial (elements e p) (chars n)

-- what is left to the latest star, if there is one: the elements behind it, at the characters behind the one that it has come to
abbrev left_at : Edition → List ℕ → List ℕ → Option LatestStar → Trial
left_at e p n None = failed
left_at e p n (Some l) = left_to (elements e (drop l.behind p)) (chars (drop l.from n))

-- where it has come to
abbrev pub come : Option LatestStar → ℕ
come None = 0
come (Some l) = l.from

-- after k tests of the trial t, r is left of it
pub record After (t : Trial) (k : ℕ) (r : Trial) : Type 0 where
  pub yes : t.yes ≡ r.yes
  pub tests : count t ≡ k + count r

after_test : {t r : Trial} {k : ℕ} (m : Taker) (x : ℕ) → After t k (tested m x r) → After t (k + 1) r
unfolding tested
after_test m x a = record { yes = a.yes; tests = omega (arith, a.tests) }

-- an element does not take the character x, or the pattern has ended
after_fails : {e : Edition} {p : List ℕ} {at x made k : ℕ} {t back : Trial} (s : List ℕ)
    → ElementFails e p at x made → After t k (attempt (elements e (drop at p)) (x ∷ s) back) → After t (k + made) back
after_fails s (ends r) a = rw add-zero (rw (r, turn_short) at a)
after_fails {x = x} s (differs m q r d) a = after_test m x (rw (r, turn_differs _ _ _ _ _ d) at a)

-- 01's limits
abbrev Limits : List ℕ → List ℕ → Type 0
Limits p n = (length p ≤ token_limit) × (length n ≤ name_limit)

elements-few : (e : Edition) (p : List ℕ) → length (elements e p) ≤ length p
unfolding elements
elements-few e p = omega (arith, pieces-few (element e) (chars p), chars-few p)

module _ (e : Edition) (p n : List ℕ) {k : ℕ} where
  -- no test is left
  over : {b : Bool} → After (whole e p n) k (record { yes = b; tests = [] }) → record { matched = b; tests = k } ≡ match_of e p n
  unfolding match_of
  over {b} a =
      let y : b ≡ matches (elements e p) (chars n) = sym a.yes ∙ trial-matches (elements e p) (chars n) in
      let k : k ≡ count (whole e p n) = omega (arith, a.tests) in
      rw (← y, ← k)

  -- the number of tests fits
  fits : {r : Trial} → After (whole e p n) k r → Limits p n → k < 18446744073709551616
  fits a l =
      let h : length (elements e p) ≤ token_limit = omega (arith, elements-few e p, l.0) in
      let m : length (elements e p) * (length (chars n) + 1) ≤ token_limit * (length (chars n) + 1) = mul-le-mul_right (length (chars n) + 1) h in
      omega (arith, a.tests, chars-few n, l.1, trial-few (elements e p) (chars n))

-- ---- the loop of `match_name`
-- after so many tests, what is left are the elements from `at` on at the characters from i on, and then what is left to the latest star
pub record Held (e : Edition) (p n : List ℕ) (at i : ℕ) (star : Option LatestStar) (tests : ℕ) : Type 0 where
  pub after : After (whole e p n) tests (attempt (elements e (drop at p)) (chars (drop i n)) (left_at e p n star))
  pub order : come star ≤ i

pub held_start : {e : Edition} {p n : List ℕ} → Held e p n 0 0 None 0
unfolding trial
held_start = record { after = record { yes = refl; tests = omega arith }; order = le_refl 0 }

-- the latest star goes forward in the name, and between two of its steps `at` goes forward in the pattern
abbrev pub steps_left : List ℕ → List ℕ → ℕ → ℕ → ℕ
steps_left p n at from = (length n - from) * (length p + 1) + (length p - at)

module _ {e : Edition} {p n : List ℕ} {at i : ℕ} {latest : Option LatestStar} {tests : ℕ} (inv : Held e p n at i latest tests) where
  -- the name ends
  pub held_end : (b : Bool) → length n ≤ i → b ≡ matches (elements e (drop at p)) [] → record { matched = b; tests = tests } ≡ match_of e p n
  held_end b h k = over e p n (rw (chars_end n i h, turn_end, ← k) at inv.after)

  -- a star
  module _ (c : ℕ) (x : ElementAt) (g : ElementOk e p at c x) (next : ℕ) (t : x ≡ Star next) where
    star_ok : ElementStar e p at next
    star_ok = rw t at g

    -- nothing stands behind it
    pub held_last : length p ≤ next → record { matched = true; tests = tests } ≡ match_of e p n
    held_last l = over e p n (rw (star_ok.reads, elements_end e p next l, turn_last) at inv.after)

    pub held-star : Held e p n next i (Some (record { behind = next; from = i })) tests
    held-star = record { after = rw (star_ok.reads, turn_star) at inv.after; order = le_refl i }

    pub star_less : steps_left p n next i < steps_left p n at (come latest)
    star_less =
        let m : (length n - i) * (length p + 1) ≤ (length n - come latest) * (length p + 1) = mul-le-mul_right (length p + 1) (omega (arith, inv.order)) in
        omega (arith, star_ok.room, star_ok.onward)

  module _ (f : Character) (w : f ≡ character_at n i) (h : i < length n) (x : ElementAt) (g : ElementOk e p at f.number x) where
    -- an element takes the character
    module _ (next : ℕ) (t : x ≡ Takes next) where
      takes_ok : ElementTakes e p at f.number next
      takes_ok = rw t at g

      pub held-takes : Held e p n next f.next latest (tests + 1)
      held-takes =
          record {
            after = after_test takes_ok.m f.number (rw (takes_ok.reads, (walked w h).reads, turn_takes _ _ _ _ _ takes_ok.fits) at inv.after);
            order = omega (arith, inv.order, (walked w h).onward);
          }

      pub takes-fits : Limits p n → tests + 1 < 18446744073709551616
      takes-fits = fits e p n held-takes.after

      pub takes_less : steps_left p n next (come latest) < steps_left p n at (come latest)
      takes_less = omega (arith, takes_ok.room, takes_ok.onward)

    -- none does
    module _ (made : ℕ) (t : x ≡ Fails made) where
      fails_ok : ElementFails e p at f.number made
      fails_ok = rw t at g

      back : After (whole e p n) (tests + made) (left_at e p n latest)
      back = after_fails (chars (drop f.next n)) fails_ok (rw (walked w h).reads at inv.after)

      pub fails-fits : Limits p n → tests + made < 18446744073709551616
      fails-fits = fits e p n back

      -- and there is no star
      pub held_none : latest ≡ None → record { matched = false; tests = tests + made } ≡ match_of e p n
      held_none s = over e p n (rw s at back)

      -- the latest star takes one character more
      module _ (l : LatestStar) (s : latest ≡ Some l) (y : Character) (v : y ≡ character_at n l.from) where
        come_to : come latest ≡ l.from
        come_to = ap come s

        within : l.from < length n
        within = omega (arith, inv.order, come_to)

        pub held_back : Held e p n l.behind y.next (Some (record { behind = l.behind; from = y.next })) (tests + made)
        held_back = record { after = rw ((walked v within).reads, turn_back) at (rw s at back); order = le_refl y.next }

        pub back_less : steps_left p n l.behind y.next < steps_left p n at (come latest)
        back_less =
            let u : suc (length n - y.next) ≤ length n - come latest = omega (arith, (walked v within).onward, come_to) in
            let m : suc (length n - y.next) * (length p + 1) ≤ (length n - come latest) * (length p + 1) = mul-le-mul_right (length p + 1) u in
            omega (arith, suc-mul (length n - y.next) (length p + 1))
