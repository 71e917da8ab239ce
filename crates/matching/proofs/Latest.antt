-- That the matcher may remember its latest star alone (`latest-star`), so that it answers as `matches` does (`trial-matches`); how many tests it makes
-- at most (`trial-few`; 02, request 07); and its turns, one by one, for the loop that takes them. All of it speaks of elements and characters, not of
-- bytes. Assumes nothing.
use Prim.Native.Nat.{ℕ, suc, ◌+◌, ◌-◌, ◌*◌, ◌≤◌}
use mathlib.Core.Path.{◌≡◌, refl, sym, ap, ◌∙◌}
use mathlib.Core.List.{List, [], ◌∷◌}
use mathlib.Core.Bool.{Bool, true, false, cond, ◌&&◌, ◌||◌, or-true, or-false, true≢false}
use native.Mathlib.Nat.{suc-mul, suc-add, mul-le-mul_left, mul-suc, mul-one, le_refl}
use native.Mathlib.Omega.{arith}
use lib.ListN.{length}
use Rattle.pattern.specs.Patterns.{Taker, takes, Element, star, one, ended, first, somewhere, matches}
use Rattle.matching.specs.Tests.{Trial, matched, failed, tested, test, each, attempt, trial}

-- ---- truth values
-- b holds where a does
abbrev Implies : Bool → Bool → Type 0
Implies a b = a ≡ true → b ≡ true

never : (b : Bool) → Implies false b
never b h = absurd (true≢false (sym h))

-- what is implied adds nothing
absorb : (a b : Bool) → Implies b a → a || b ≡ a
absorb a true h = or-true a ∙ sym (h refl)
absorb a false h = or-false a

or_right : (a b : Bool) → Implies b (a || b)
or_right a b h = rw h (or-true a)

and_right : (a b : Bool) → Implies (a && b) b
and_right true b h = h
and_right false b h = never b h

or_split : (a b c : Bool) → Implies a c → Implies b c → Implies (a || b) c
or_split true b c f g h = f h
or_split false b c f g h = g h

-- ---- somewhere
module _ (f : List ℕ → Bool) where
  somewhere_here : (s : List ℕ) → Implies (f s) (somewhere f s)
  unfolding somewhere
  somewhere_here [] h = h
  somewhere_here (c ∷ s) h = rw h

  somewhere-twice : (s : List ℕ) → Implies (somewhere (somewhere f) s) (somewhere f s)
  unfolding somewhere
  somewhere-twice [] = λ h. h
  somewhere-twice (c ∷ s) =
      or_split (somewhere f (c ∷ s)) (somewhere (somewhere f) s) (somewhere f (c ∷ s)) (λ h. h) (λ h. or_right (f (c ∷ s)) (somewhere f s) (somewhere-twice s h))

  -- behind the character that is taken first
  somewhere_behind : (t : ℕ → Bool) (c : ℕ) (s : List ℕ) → Implies (somewhere (first t f) (c ∷ s)) (somewhere f s)
  unfolding somewhere first
  somewhere_behind t c [] = or_split (t c && f []) false (f []) (and_right (t c) (f [])) (never (f []))
  somewhere_behind t c (d ∷ s) =
      or_split (t c && f (d ∷ s)) (somewhere (first t f) (d ∷ s)) (somewhere f (d ∷ s))
      (λ h. somewhere_here (d ∷ s) (and_right (t c) (f (d ∷ s)) h))
      (λ h. or_right (f (d ∷ s)) (somewhere f s) (somewhere_behind t d s h))

-- ---- the answer
-- The latest star is enough. The matcher has come to a star, with the elements p behind it and the characters s left, and b says whether what the
-- star before it would still try finds a match. That star tries the same elements, at later places of the name, so it comes to this star at some
-- place from s on, and where it finds a match, this star has one from there. But a star that has a match from a later place has one from here too,
-- since it can also take the characters up to there. So what the star before would try adds nothing, and `attempt` drops it.
pub latest-star : (p : List Element) (s : List ℕ) (b : Bool) → Implies b (somewhere (matches (star ∷ p)) s) → matches (star ∷ p) s || b ≡ matches (star ∷ p) s
unfolding matches
latest-star p s b h = absorb (somewhere (matches p) s) b (λ y. somewhere-twice (matches p) s (h y))

-- `go` answers what f asks, or else what `back`, which is tried after it, answers. It may count on this: `back` finds a match only where f holds
-- somewhere from s on
Answers : (List ℕ → Trial → Trial) → (List ℕ → Bool) → Type 0
Answers go f = (s : List ℕ) (back : Trial) → Implies back.yes (somewhere f s) → (go s back).yes ≡ f s || back.yes

answers_end : Answers (attempt []) (matches [])
unfolding Answers attempt matches ended
answers_end [] back h = refl
answers_end (c ∷ s) back h = refl

tested-yes : (t : Bool) (m : Taker) (c : ℕ) (b : Bool) (r back : Trial) → r.yes ≡ b || back.yes → (tested m c (cond t r back)).yes ≡ t && b || back.yes
unfolding tested
tested-yes true m c b r back h = h
tested-yes false m c b r back h = refl

module _ (go : List ℕ → Trial → Trial) (f : List ℕ → Bool) (k : Answers go f) where
  answers_one : (m : Taker) → Answers (test m go) (first (takes m) f)
  unfolding Answers test first somewhere
  answers_one m [] back h = sym (absorb false back.yes h)
  answers_one m (c ∷ s) back h = tested-yes (takes m c) m c (f s) (go s back) back (k s back (λ y. somewhere_behind f (takes m) c s (h y)))

  each-yes : (s : List ℕ) → (each go s).yes ≡ somewhere f s
  unfolding Answers each somewhere
  each-yes [] = k [] failed (never (f [])) ∙ or-false (f [])
  each-yes (c ∷ s) =
      k (c ∷ s) (each go s) (λ y. or_right (f (c ∷ s)) (somewhere f s) (sym (each-yes s) ∙ y)) ∙ ap (λ (b : Bool). f (c ∷ s) || b) (each-yes s)

answers : (p : List Element) → Answers (attempt p) (matches p)
unfolding Answers attempt matches
answers [] = answers_end
answers (star ∷ p) = λ s back h. each-yes (attempt p) (matches p) (answers p) s ∙ sym (latest-star p s back.yes h)
answers (one m ∷ p) = answers_one (attempt p) (matches p) (answers p) m

pub trial-matches : (p : List Element) (s : List ℕ) → (trial p s).yes ≡ matches p s
unfolding Answers trial
trial-matches p s = answers p s failed (never (somewhere (matches p) s)) ∙ or-false (matches p s)

-- ---- how many tests
abbrev pub count : Trial → ℕ
count r = length r.tests

-- `go` tries n elements. It makes at most b tests, where n tests and then those of `back` are at most b, and n tests at each place from s on are too
Few : ℕ → (List ℕ → Trial → Trial) → Type 0
Few n go = (s : List ℕ) (back : Trial) (b : ℕ) → n + count back ≤ b → n * (length s + 1) ≤ b → count (go s back) ≤ b

few_end : Few 0 (attempt [])
unfolding Few attempt ended
few_end [] back b h k = omega arith
few_end (c ∷ s) back b h k = omega arith

tested-count : (t : Bool) (m : Taker) (c b : ℕ) (r back : Trial) → count r + 1 ≤ b → count back + 1 ≤ b → count (tested m c (cond t r back)) ≤ b
unfolding tested
tested-count true m c b r back h k = omega arith
tested-count false m c b r back h k = omega arith

module _ (n : ℕ) (go : List ℕ → Trial → Trial) (k : Few n go) where
  few-one : (m : Taker) → Few (suc n) (test m go)
  unfolding Few test
  few-one m [] back b h l = omega arith
  few-one m (c ∷ s) back b h l =
      let w : n * (length s + 1) ≤ n * (suc (length s) + 1) = mul-le-mul_left n (omega arith) in
      let d : n * (length s + 1) ≤ b - 1 = omega (arith, suc-mul n (suc (length s) + 1)) in
      tested-count (takes m c) m c b (go s back) back (omega (arith, k s back (b - 1) (omega arith) d)) (omega arith)

  each-few : (s : List ℕ) → count (each go s) ≤ n * (length s + 1)
  unfolding Few each
  each-few [] = k [] failed (n * (0 + 1)) (omega (arith, mul-one n)) (le_refl (n * (0 + 1)))
  each-few (c ∷ s) =
      k (c ∷ s) (each go s) (n * (suc (length s) + 1))
      (omega (arith, each-few s, mul-suc n (length s + 1), ap (λ (x : ℕ). n * x) (suc-add (length s) 1)))
      (le_refl (n * (suc (length s) + 1)))

few : (p : List Element) → Few (length p) (attempt p)
unfolding Few attempt
few [] = few_end
few (star ∷ p) = λ s back b h l. omega (arith, each-few (length p) (attempt p) (few p) s, suc-mul (length p) (length s + 1))
few (one m ∷ p) = few-one (length p) (attempt p) (few p) m

pub trial-few : (p : List Element) (s : List ℕ) → length (trial p s).tests ≤ length p * (length s + 1)
unfolding Few trial
trial-few p s =
    let m : length p * 1 ≤ length p * (length s + 1) = mul-le-mul_left (length p) (omega arith) in
    few p s failed (length p * (length s + 1)) (omega (arith, mul-one (length p))) (le_refl (length p * (length s + 1)))

-- ---- the turns of the matcher
-- what is left to the latest star when the elements q behind it have failed at t
unfoldable pub left_to : List Element → List ℕ → Trial
left_to q [] = failed
left_to q (c ∷ t) = each (attempt q) t

each_left : (q : List Element) (t : List ℕ) → each (attempt q) t ≡ attempt q t (left_to q t)
unfolding each left_to
each_left q [] = refl
each_left q (c ∷ t) = refl

-- it takes one character more
pub turn_back : (q : List Element) (c : ℕ) (t : List ℕ) → left_to q (c ∷ t) ≡ attempt q t (left_to q t)
unfolding left_to
turn_back q c t = each_left q t

module _ (back : Trial) where
  pub turn_star : (p : List Element) (s : List ℕ) → attempt (star ∷ p) s back ≡ attempt p s (left_to p s)
  unfolding attempt
  turn_star p s = each_left p s

  pub turn_takes : (m : Taker) (p : List Element) (c : ℕ) (s : List ℕ) → takes m c ≡ true → attempt (one m ∷ p) (c ∷ s) back ≡ tested m c (attempt p s back)
  unfolding attempt test
  turn_takes m p c s h = rw h

  pub turn_differs : (m : Taker) (p : List Element) (c : ℕ) (s : List ℕ) → takes m c ≡ false → attempt (one m ∷ p) (c ∷ s) back ≡ tested m c back
  unfolding attempt test
  turn_differs m p c s h = rw h

  -- the pattern ends before the name
  pub turn_short : (c : ℕ) (s : List ℕ) → attempt [] (c ∷ s) back ≡ back
  unfolding attempt ended
  turn_short c s = refl

  -- a star that is the last element takes all that is left
  pub turn_last : (s : List ℕ) → attempt (star ∷ []) s back ≡ matched
  unfolding attempt each ended
  turn_last [] = refl
  turn_last (c ∷ s) = turn_last s

-- the name ends: no test is made, and stars alone may be left of the pattern
pub turn_end : (p : List Element) (back : Trial) → attempt p [] back ≡ record { yes = matches p []; tests = [] }
unfolding attempt each test ended matches somewhere first
turn_end [] back = refl
turn_end (star ∷ p) back = turn_end p failed
turn_end (one m ∷ p) back = refl
