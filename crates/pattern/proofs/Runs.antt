-- Runs of stars, squeezed (`squeezed` of specs/Runs.antt). What is kept has the elements of what was given, without the stars behind a star, so that it
-- matches the same names; it is well formed where that is; it has no run, and what has none stays; and its characters are those of the bytes, squeezed.
-- Proved by a walk that goes over bytes, or characters, one after the other, and remembers where it stands: outside brackets, or where in one.
-- Assumes nothing.
use Prim.Native.Nat.{ℕ, zero, suc, ◌+◌, ◌≤◌}
use mathlib.Core.Path.{◌≡◌, refl, sym, ap, ap₂, ◌∙◌}
use mathlib.Core.List.{List, [], ◌∷◌}
use mathlib.Core.Bool.{Bool, true, false, not, cond, ◌&&◌, ◌||◌, false≢true}
use native.Mathlib.Omega.{arith}
use borrow.Author.Tests.{ne_eqb, eqb-true, lt-ltb}
use lib.Dec.{eqb, ltb, leb-suc-suc}
use lib.ListN.{length, get_or, drop}
use Rattle.lists.proofs.Tests.{both, neither}
use Rattle.lists.specs.Pieces.{piece, pieces, pieces_past, sound, sound_past}
use Rattle.numbers.specs.declared.Edition.{Edition}
use Rattle.utf8.specs.Utf8.{chars, utf8}
use Rattle.utf8.proofs.Changes.{Change, changed, AsciiOnly, chars-changed, utf8-changed}
use Rattle.pattern.specs.Patterns.{Element, star, one, any_one, literal, inside, between, member, Taker, bracket, bracketed, opened, element, elements, somewhere, first, takes, matches}
use Rattle.pattern.specs.Runs.{squeezed_past, squeezed, runless, has_run}
use Rattle.pattern.specs.Storing.{stored_byte, negated_from}

-- ---- the walk
-- outside brackets, behind a star or not; behind `[`; behind `[!`; behind the first character of a bracket
data Place : Type 0 where
  outside : Bool → Place
  opens : Place
  begins : Place
  goes_on : Place

unfoldable next : Place → ℕ → Place
next (outside b) c = cond (eqb c 42) (outside true) (cond (eqb c 91) opens (outside false))
next opens c = cond (eqb c 33) begins goes_on
next begins c = goes_on
next goes_on c = cond (eqb c 93) (outside false) goes_on

unfoldable drops : Place → ℕ → Bool
drops (outside b) c = eqb c 42 && b
drops opens c = false
drops begins c = false
drops goes_on c = false

unfoldable in_bracket : Place → Bool
in_bracket (outside b) = false
in_bracket opens = true
in_bracket begins = true
in_bracket goes_on = true

-- nothing but a star behind a star is dropped, and nothing is put for another
unfoldable squeeze : Change Place
squeeze = record { next = next; drops = drops; puts = λ q c. c }

unfoldable walk : Place → List ℕ → List ℕ
walk q [] = []
walk q (c ∷ s) = cond (drops q c) (walk (next q c) s) (c ∷ walk (next q c) s)

-- ---- the element at a place: of a star, of a `[`, and of another
module _ (e : Edition) (c : ℕ) (s : List ℕ) where
  pub element-star : eqb c 42 ≡ true → element e c s ≡ piece star 0
  unfolding element
  element-star h = rw h

  pub element-bracket : eqb c 91 ≡ true → element e c s ≡ opened e s
  unfolding element
  element-bracket h = ap (λ (x : ℕ). element e x s) (eqb-true c 91 h)

  pub element_other : eqb c 42 ≡ false → eqb c 91 ≡ false → element e c s ≡ piece (one (cond (eqb c 63) any_one (literal c))) 0
  unfolding element
  element_other h k = rw (h, k) (go (eqb c 63))
    where
      go : (q : Bool) → cond q (piece (one any_one) 0) (piece (one (literal c)) 0) ≡ piece (one (cond q any_one (literal c))) 0
      go true = refl
      go false = refl

-- ---- the walk squeezes
record Walks (e : Edition) (s : List ℕ) : Type 0 where
  out : (b : Bool) → squeezed_past e 0 b s ≡ walk (outside b) s
  behind : (b : Bool) → squeezed_past e (opened e s).more b s ≡ walk opens s
  marked : (b : Bool) → squeezed_past e (suc (length (between e s))) b s ≡ walk begins s
  on : (b : Bool) → squeezed_past e (suc (length (inside s))) b s ≡ walk goes_on s

module _ (e : Edition) where
  walks-nil : Walks e []
  unfolding squeezed_past walk
  walks-nil = record { out = λ b. refl; behind = λ b. refl; marked = λ b. refl; on = λ b. refl }

  module _ (c : ℕ) (s : List ℕ) (w : Walks e s) where
    walks_out : (b t u : Bool) → eqb c 42 ≡ t → eqb c 91 ≡ u → squeezed_past e 0 b (c ∷ s) ≡ walk (outside b) (c ∷ s)
    unfolding squeezed_past walk next drops
    walks_out true true u h k = rw h (w.out true)
    walks_out false true u h k = rw h (ap (◌∷◌ c) (w.out true))
    walks_out b false true h k = rw (h, k, element-bracket e c s k) (ap (◌∷◌ c) (w.behind false))
    walks_out b false false h k = rw (h, k, element_other e c s h k) (ap (◌∷◌ c) (w.out false))

    walks_behind : (b t : Bool) → eqb c 33 ≡ t → squeezed_past e (opened e (c ∷ s)).more b (c ∷ s) ≡ walk opens (c ∷ s)
    unfolding squeezed_past walk next drops opened bracketed between
    walks_behind b true h =
        let m : 1 + length (between e s) + 1 ≡ suc (suc (length (between e s))) = omega arith in
        rw (h, m) (ap (◌∷◌ c) (w.marked false))
    walks_behind b false h =
        let m : 0 + suc (length (inside s)) + 1 ≡ suc (suc (length (inside s))) = omega arith in
        rw (h, m) (ap (◌∷◌ c) (w.on false))

    walks-marked : (b : Bool) → squeezed_past e (suc (length (between e (c ∷ s)))) b (c ∷ s) ≡ walk begins (c ∷ s)
    unfolding squeezed_past walk next drops between
    walks-marked b = ap (◌∷◌ c) (w.on false)

    walks_on : (b t : Bool) → eqb c 93 ≡ t → squeezed_past e (suc (length (inside (c ∷ s)))) b (c ∷ s) ≡ walk goes_on (c ∷ s)
    unfolding squeezed_past walk next drops inside
    walks_on b true h = rw h (ap (◌∷◌ c) (w.out false))
    walks_on b false h = rw h (ap (◌∷◌ c) (w.on false))

  walks : (s : List ℕ) → Walks e s
  walks [] = walks-nil
  walks (c ∷ s) = record {
    out = λ b. walks_out c s (walks s) b (eqb c 42) (eqb c 91) refl refl;
    behind = λ b. walks_behind c s (walks s) b (eqb c 33) refl;
    marked = λ b. walks-marked c s (walks s) b;
    on = λ b. walks_on c s (walks s) b (eqb c 93) refl;
  }

  squeezed-walk : (s : List ℕ) → squeezed e s ≡ walk (outside false) s
  unfolding squeezed
  squeezed-walk s = (walks s).out false

ltb-suc : (m n : ℕ) → ltb (suc m) (suc n) ≡ ltb m n
ltb-suc m n = leb-suc-suc (suc m) n

-- ---- a bracket stays as it is: what stands in it, and whether it is closed
record Stays (s : List ℕ) (q : Place) : Type 0 where
  same : inside (walk q s) ≡ inside s
  closed : ltb (length (inside s)) (length (walk q s)) ≡ ltb (length (inside s)) (length s)

stays : (s : List ℕ) → Stays s goes_on
unfolding walk next drops inside
stays [] = record { same = refl; closed = refl }
stays (c ∷ s) = go (eqb c 93) refl (stays s)
  where
    go : (t : Bool) → eqb c 93 ≡ t → Stays s goes_on → Stays (c ∷ s) goes_on
    go true h k = record { same = rw h; closed = rw (h, lt-ltb 0 (suc (length (walk (outside false) s))) (omega arith), lt-ltb 0 (suc (length s)) (omega arith)) }
    go false h k = record { same = rw (h, k.same); closed = rw (h, ltb-suc (length (inside s)) (length (walk goes_on s)), ltb-suc (length (inside s)) (length s)) k.closed }

module _ (e : Edition) where
  -- a bracket is read from what stands in it, and from whether it is closed
  bracketed_by : (negated : Bool) (k : ℕ) (b c s t : List ℕ) → b ≡ c → ltb (k + length c) (length s) ≡ ltb (k + length c) (length t)
      → bracketed e negated k b s ≡ bracketed e negated k c t
  unfolding bracketed
  bracketed_by negated k b c s t h l = rw (h, l)

  opened-walk : (s : List ℕ) → opened e (walk opens s) ≡ opened e s
  unfolding walk next drops opened between
  opened-walk [] = refl
  opened-walk (c ∷ s) = go (eqb c 33) refl s
    where
      go : (t : Bool) → eqb c 33 ≡ t → (s : List ℕ) → opened e (walk opens (c ∷ s)) ≡ opened e (c ∷ s)
      go true h [] = rw h
      go true h (d ∷ s) =
          let l : 1 + suc (length (inside s)) ≡ suc (suc (length (inside s))) = omega arith in
          rw h (bracketed_by true 1 (d ∷ inside (walk goes_on s)) (d ∷ inside s) (c ∷ d ∷ walk goes_on s) (c ∷ d ∷ s) (ap (◌∷◌ d) (stays s).same)
          (rw (
            l,
            ltb-suc (suc (length (inside s))) (suc (length (walk goes_on s))),
            ltb-suc (suc (length (inside s))) (suc (length s)),
            ltb-suc (length (inside s)) (length (walk goes_on s)),
            ltb-suc (length (inside s)) (length s),
          ) (stays s).closed))
      go false h s =
          let l : 0 + suc (length (inside s)) ≡ suc (length (inside s)) = omega arith in
          rw h (bracketed_by false 0 (c ∷ inside (walk goes_on s)) (c ∷ inside s) (c ∷ walk goes_on s) (c ∷ s) (ap (◌∷◌ c) (stays s).same)
          (rw (l, ltb-suc (length (inside s)) (length (walk goes_on s)), ltb-suc (length (inside s)) (length s)) (stays s).closed))

  -- so the element at a place is the same
  element_same : (c : ℕ) (s : List ℕ) → eqb c 42 ≡ false → element e c (squeezed_past e (element e c s).more false s) ≡ element e c s
  element_same c s h = go (eqb c 91) refl
    where
      go : (t : Bool) → eqb c 91 ≡ t → element e c (squeezed_past e (element e c s).more false s) ≡ element e c s
      go true k =
          rw (element-bracket e c s k, element-bracket e c (squeezed_past e (opened e s).more false s) k, (walks e s).behind false) (opened-walk s)
      go false k = element_other e c (squeezed_past e (element e c s).more false s) h k ∙ sym (element_other e c s h k)

-- ---- the elements are those without the stars behind a star, and they are well formed where those are
record Taking (m : Element) : Type 0 where
  what : Taker
  is : m ≡ one what

module _ (e : Edition) where
  opened_taking : (s : List ℕ) → Taking (opened e s).what
  unfolding opened bracketed
  opened_taking [] = record { what = bracket false (pieces (member e) []); is = refl }
  opened_taking (c ∷ s) = go (eqb c 33)
    where
      go : (t : Bool) → Taking (cond t (bracketed e true 1 (between e s) (c ∷ s)) (bracketed e false 0 (between e (c ∷ s)) (c ∷ s))).what
      go true = record { what = bracket true (pieces (member e) (between e s)); is = refl }
      go false = record { what = bracket false (pieces (member e) (between e (c ∷ s))); is = refl }

  -- what is no star takes one character
  element_taking : (c : ℕ) (s : List ℕ) → eqb c 42 ≡ false → Taking (element e c s).what
  element_taking c s h = go (eqb c 91) refl
    where
      go : (t : Bool) → eqb c 91 ≡ t → Taking (element e c s).what
      go true k = rw (element-bracket e c s k) (opened_taking s)
      go false k = rw (element_other e c s h k) (record { what = cond (eqb c 63) any_one (literal c); is = refl })

  runless_taking : (m : Element) (p : List Element) (b : Bool) → Taking m → runless b (m ∷ p) ≡ m ∷ runless false p
  unfolding runless
  runless_taking m p b t = rw t.is

  record Squeezes (s : List ℕ) : Type 0 where
    apart : (k : ℕ) → pieces_past (element e) k (squeezed_past e k false s) ≡ runless false (pieces_past (element e) k s)
    starred : pieces_past (element e) 0 (squeezed_past e 0 true s) ≡ runless true (pieces_past (element e) 0 s)
    good : (k : ℕ) → sound_past (element e) k (squeezed_past e k false s) ≡ sound_past (element e) k s
    good_starred : sound_past (element e) 0 (squeezed_past e 0 true s) ≡ sound_past (element e) 0 s

  squeezes_nil : Squeezes []
  unfolding squeezed_past pieces_past sound_past runless
  squeezes_nil = record { apart = λ k. refl; starred = refl; good = λ k. refl; good_starred = refl }

  module _ (c : ℕ) (s : List ℕ) (w : Squeezes s) where
    -- a star
    module _ (h : eqb c 42 ≡ true) where
      star-apart : pieces_past (element e) 0 (squeezed_past e 0 false (c ∷ s)) ≡ runless false (pieces_past (element e) 0 (c ∷ s))
      unfolding squeezed_past pieces_past runless
      star-apart = rw (h, element-star e c (squeezed_past e 0 true s) h, element-star e c s h) (ap (◌∷◌ star) w.starred)

      star-starred : pieces_past (element e) 0 (squeezed_past e 0 true (c ∷ s)) ≡ runless true (pieces_past (element e) 0 (c ∷ s))
      unfolding squeezed_past pieces_past runless
      star-starred = rw (h, element-star e c s h) w.starred

      star_good : (b : Bool) → sound_past (element e) 0 (squeezed_past e 0 b (c ∷ s)) ≡ sound_past (element e) 0 (c ∷ s)
      unfolding squeezed_past sound_past
      star_good true = rw (h, element-star e c s h) w.good_starred
      star_good false = rw (h, element-star e c (squeezed_past e 0 true s) h, element-star e c s h) w.good_starred

    -- another
    module _ (h : eqb c 42 ≡ false) where
      other_apart : (b : Bool) → pieces_past (element e) 0 (squeezed_past e 0 b (c ∷ s)) ≡ runless b (pieces_past (element e) 0 (c ∷ s))
      unfolding squeezed_past pieces_past
      other_apart b =
          rw (h, element_same e c s h, runless_taking (element e c s).what (pieces_past (element e) (element e c s).more s) b (element_taking c s h))
          (ap (◌∷◌ (element e c s).what) (w.apart (element e c s).more))

      other_good : (b : Bool) → sound_past (element e) 0 (squeezed_past e 0 b (c ∷ s)) ≡ sound_past (element e) 0 (c ∷ s)
      unfolding squeezed_past sound_past
      other_good b = rw (h, element_same e c s h, w.good (element e c s).more)

    squeezes_cons : (t : Bool) → eqb c 42 ≡ t → Squeezes (c ∷ s)
    unfolding squeezed_past pieces_past sound_past
    squeezes_cons true h = record {
      apart = elim [ zero ↦ star-apart h | suc k ↦ w.apart k ];
      starred = star-starred h;
      good = elim [ zero ↦ star_good h false | suc k ↦ w.good k ];
      good_starred = star_good h true;
    }
    squeezes_cons false h = record {
      apart = elim [ zero ↦ other_apart h false | suc k ↦ w.apart k ];
      starred = other_apart h true;
      good = elim [ zero ↦ other_good h false | suc k ↦ w.good k ];
      good_starred = other_good h true;
    }

  squeezes : (s : List ℕ) → Squeezes s
  squeezes [] = squeezes_nil
  squeezes (c ∷ s) = squeezes_cons c s (squeezes s) (eqb c 42) refl

  module _ (s : List ℕ) where
    -- "a run … is kept as one star"
    pub pieces-runless : pieces (element e) (squeezed e s) ≡ runless false (pieces (element e) s)
    unfolding squeezed pieces
    pieces-runless = (squeezes s).apart 0

    pub sound-squeezed : sound (element e) (squeezed e s) ≡ sound (element e) s
    unfolding squeezed sound
    sound-squeezed = (squeezes s).good 0

-- ---- they have no run; and where there is none all stays
pub runless-apart : (b : Bool) (p : List Element) → has_run b (runless b p) ≡ false
unfolding has_run runless
runless-apart b [] = refl
runless-apart true (star ∷ p) = runless-apart true p
runless-apart false (star ∷ p) = runless-apart true p
runless-apart b (one m ∷ p) = runless-apart false p

-- no star just before makes no run
apart_behind : (b : Bool) (p : List Element) → has_run b p ≡ false → has_run false p ≡ false
unfolding has_run
apart_behind b [] h = refl
apart_behind b (star ∷ p) h = (neither b (has_run true p) h).1
apart_behind b (one m ∷ p) h = h

module _ (e : Edition) where
  apart-stays : (k : ℕ) (b : Bool) (s : List ℕ) → has_run b (pieces_past (element e) k s) ≡ false → squeezed_past e k b s ≡ s
  unfolding squeezed_past pieces_past has_run
  apart-stays zero b [] h = refl
  apart-stays (suc k) b [] h = refl
  apart-stays (suc k) b (c ∷ s) h = ap (◌∷◌ c) (apart-stays k false s (apart_behind b (pieces_past (element e) k s) h))
  apart-stays zero b (c ∷ s) h = go (eqb c 42) refl (apart-stays 0 true s) (apart-stays (element e c s).more false s)
    where
      go : (t : Bool) → eqb c 42 ≡ t → (has_run true (pieces_past (element e) 0 s) ≡ false → squeezed_past e 0 true s ≡ s)
          → (has_run false (pieces_past (element e) (element e c s).more s) ≡ false → squeezed_past e (element e c s).more false s ≡ s)
          → cond t (cond b (squeezed_past e 0 true s) (c ∷ squeezed_past e 0 true s)) (c ∷ squeezed_past e (element e c s).more false s) ≡ c ∷ s
      go true q k l =
          let n = neither b (has_run true (pieces_past (element e) 0 s)) (rw (element-star e c s q) at h) in
          rw n.0 (ap (◌∷◌ c) (k n.1))
      go false q k l = ap (◌∷◌ c) (l (rw (element_taking e c s q).is at h))

  pub squeezed-stays : (s : List ℕ) → has_run false (pieces (element e) s) ≡ false → squeezed e s ≡ s
  unfolding squeezed pieces
  squeezed-stays s = apart-stays 0 false s

-- ---- and they match the same: a run of stars means what one star means
somewhere_by : (f g : List ℕ → Bool) → ((s : List ℕ) → f s ≡ g s) → (s : List ℕ) → somewhere f s ≡ somewhere g s
unfolding somewhere
somewhere_by f g h [] = h []
somewhere_by f g h (c ∷ s) = rw (h (c ∷ s), somewhere_by f g h s)

somewhere-twice : (f : List ℕ → Bool) (s : List ℕ) → somewhere (somewhere f) s ≡ somewhere f s
unfolding somewhere
somewhere-twice f [] = refl
somewhere-twice f (c ∷ s) = rw (somewhere-twice f s) (go (f (c ∷ s)) (somewhere f s))
  where
    go : (a b : Bool) → ((a || b) || b) ≡ (a || b)
    go true b = refl
    go false true = refl
    go false false = refl

first_by : (t : ℕ → Bool) (f g : List ℕ → Bool) → ((s : List ℕ) → f s ≡ g s) → (s : List ℕ) → first t f s ≡ first t g s
unfolding first
first_by t f g h [] = refl
first_by t f g h (c ∷ s) = rw (h s)

record MatchesAs (p : List Element) : Type 0 where
  behind_one : (s : List ℕ) → matches (runless false p) s ≡ matches p s
  behind_star : (s : List ℕ) → somewhere (matches (runless true p)) s ≡ somewhere (matches p) s

matches_as : (p : List Element) → MatchesAs p
unfolding runless matches
matches_as [] = record { behind_one = λ s. refl; behind_star = λ s. refl }
matches_as (star ∷ p) =
    let k = matches_as p in
    record {
      behind_one = k.behind_star;
      behind_star = λ s. k.behind_star s ∙ sym (somewhere-twice (matches p) s);
    }
matches_as (one m ∷ p) =
    let k : (s : List ℕ) → first (takes m) (matches (runless false p)) s ≡ first (takes m) (matches p) s
    = first_by (takes m) (matches (runless false p)) (matches p) (matches_as p).behind_one in
    record { behind_one = k; behind_star = somewhere_by (first (takes m) (matches (runless false p))) (first (takes m) (matches p)) k }

-- for every pattern and every name
pub runless-matches : (p : List Element) (s : List ℕ) → matches (runless false p) s ≡ matches p s
runless-matches p = (matches_as p).behind_one

-- ---- it is no longer
pub squeezed-few : (e : Edition) (k : ℕ) (b : Bool) (s : List ℕ) → length (squeezed_past e k b s) ≤ length s
unfolding squeezed_past
squeezed-few e zero b [] = omega arith
squeezed-few e (suc k) b [] = omega arith
squeezed-few e (suc k) b (c ∷ s) = omega (arith, squeezed-few e k false s)
squeezed-few e zero b (c ∷ s) = go (eqb c 42) b (squeezed-few e 0 true s) (squeezed-few e (element e c s).more false s)
  where
    go : (t b : Bool) → length (squeezed_past e 0 true s) ≤ length s → length (squeezed_past e (element e c s).more false s) ≤ length s
        → length (cond t (cond b (squeezed_past e 0 true s) (c ∷ squeezed_past e 0 true s)) (c ∷ squeezed_past e (element e c s).more false s)) ≤ length (c ∷ s)
    go true true h k = omega arith
    go true false h k = omega arith
    go false b h k = omega arith

-- ---- squeezed again it stays
module _ (q : Place) (c : ℕ) (s : List ℕ) where
  walk_kept : drops q c ≡ false → walk q (c ∷ s) ≡ c ∷ walk (next q c) s
  unfolding walk
  walk_kept h = rw h

  walk-dropped : drops q c ≡ true → walk q (c ∷ s) ≡ walk (next q c) s
  unfolding walk
  walk-dropped h = rw h

-- a star is dropped behind a star alone
starred : (q : Place) (c : ℕ) → drops q c ≡ true → (q ≡ outside true) × (eqb c 42 ≡ true)
unfolding drops
starred (outside true) c d = (refl, (both (eqb c 42) true d).0)
starred (outside false) c d = absurd (false≢true (both (eqb c 42) false d).1)
starred opens c d = absurd (false≢true d)
starred begins c d = absurd (false≢true d)
starred goes_on c d = absurd (false≢true d)

next_starred : (q : Place) (c : ℕ) → drops q c ≡ true → next q c ≡ q
unfolding next
next_starred q c d = let h = starred q c d in rw (h.0, h.1)

walk-again : (q : Place) (s : List ℕ) → walk q (walk q s) ≡ walk q s
unfolding walk
walk-again q [] = refl
walk-again q (c ∷ s) = go (drops q c) refl (walk-again (next q c) s)
  where
    go : (t : Bool) → drops q c ≡ t → walk (next q c) (walk (next q c) s) ≡ walk (next q c) s → walk q (walk q (c ∷ s)) ≡ walk q (c ∷ s)
    go true h k = rw (walk-dropped q c s h, next_starred q c h) (rw (next_starred q c h) at k)
    go false h k = rw (walk_kept q c s h, walk_kept q c (walk (next q c) s) h, k)

module _ (e : Edition) (s : List ℕ) where
  pub squeezed-again : squeezed e (squeezed e s) ≡ squeezed e s
  squeezed-again = squeezed-walk e (squeezed e s) ∙ rw (squeezed-walk e s) (walk-again (outside false) s)

-- ---- no `[^` comes about: what stands behind a star that is dropped stood behind a star
-- a byte that stands behind a star, as far as the walk knows, does not stand behind `[`
unfoldable may : Place → Bool → Bool
may (outside true) b = not b
may (outside false) b = true
may opens b = true
may begins b = true
may goes_on b = true

record Negated (b : Bool) (c : ℕ) (s : List ℕ) : Type 0 where
  first_byte : stored_byte b c ≡ c
  others : negated_from (eqb c 91) s ≡ s

negated_is : (b : Bool) (c : ℕ) (s : List ℕ) → negated_from b (c ∷ s) ≡ c ∷ s → Negated b c s
unfolding negated_from
negated_is b c s h = record { first_byte = ap (λ (l : List ℕ). get_or l 0 0) h; others = ap (drop 1) h }

may_next : (q : Place) (c : ℕ) → may (next q c) (eqb c 91) ≡ true
unfolding may next
may_next (outside b) c = go (eqb c 42) refl (eqb c 91) refl
  where
    go : (t : Bool) → eqb c 42 ≡ t → (u : Bool) → eqb c 91 ≡ u → may (cond t (outside true) (cond u opens (outside false))) u ≡ true
    go true h true k = absurd (omega (arith, eqb-true c 42 h, eqb-true c 91 k))
    go true h false k = refl
    go false h true k = refl
    go false h false k = refl
may_next opens c = go (eqb c 33)
  where
    go : (t : Bool) → may (cond t begins goes_on) (eqb c 91) ≡ true
    go true = refl
    go false = refl
may_next begins c = refl
may_next goes_on c = go (eqb c 93)
  where
    go : (t : Bool) → may (cond t (outside false) goes_on) (eqb c 91) ≡ true
    go true = refl
    go false = refl

-- a star that is dropped is no `[`, and does not stand behind one
dropped : (q : Place) (b : Bool) (c : ℕ) → may q b ≡ true → drops q c ≡ true → b ≡ eqb c 91
unfolding may
dropped q b c m d =
    let h = starred q c d in
    go b (rw h.0 at m) ∙ sym (ne_eqb c 91 (λ k. omega (arith, eqb-true c 42 h.1)))
  where
    go : (b : Bool) → may (outside true) b ≡ true → b ≡ false
    go true m = sym m
    go false m = refl

negated-walk : (q : Place) (b : Bool) (s : List ℕ) → may q b ≡ true → negated_from b s ≡ s → negated_from b (walk q s) ≡ walk q s
unfolding walk negated_from
negated-walk q b [] m h = refl
negated-walk q b (c ∷ s) m h = go (drops q c) refl (negated_is b c s h) (negated-walk (next q c) (eqb c 91) s (may_next q c))
  where
    go : (t : Bool) → drops q c ≡ t → Negated b c s → (negated_from (eqb c 91) s ≡ s → negated_from (eqb c 91) (walk (next q c) s) ≡ walk (next q c) s)
        → negated_from b (cond t (walk (next q c) s) (c ∷ walk (next q c) s)) ≡ cond t (walk (next q c) s) (c ∷ walk (next q c) s)
    go true d n k = rw (dropped q b c m d) (k n.others)
    go false d n k = ap₂ (λ (x : ℕ) (l : List ℕ). x ∷ l) n.first_byte (k n.others)

module _ (e : Edition) where
  -- what storing has made of a token it makes of it again
  pub negated-squeezed : (s : List ℕ) → negated_from false s ≡ s → negated_from false (squeezed e s) ≡ squeezed e s
  unfolding may
  negated-squeezed s h = rw (squeezed-walk e s) (negated-walk (outside false) false s refl h)

-- ---- bytes and characters: the walk looks at ASCII alone
never : (b : Bool) → (b && false) ≡ false
never true = refl
never false = refl

next_high : (q : Place) (c : ℕ) → 128 ≤ c → next q c ≡ cond (in_bracket q) goes_on (outside false)
unfolding next in_bracket
next_high (outside b) c h = rw (ne_eqb c 42 (omega arith), ne_eqb c 91 (omega arith))
next_high opens c h = rw (ne_eqb c 33 (omega arith))
next_high begins c h = refl
next_high goes_on c h = rw (ne_eqb c 93 (omega arith))

module _ (q : Place) (c : ℕ) (h : 128 ≤ c) where
  drops-high : drops q c ≡ false
  unfolding drops
  drops-high = go q
    where
      go : (q : Place) → drops q c ≡ false
      go (outside b) = rw (ne_eqb c 42 (omega arith))
      go opens = refl
      go begins = refl
      go goes_on = refl

  drops_behind : (d : ℕ) → drops (next q c) d ≡ false
  unfolding drops
  drops_behind d = rw (next_high q c h) (go (in_bracket q))
    where
      go : (t : Bool) → drops (cond t goes_on (outside false)) d ≡ false
      go true = refl
      go false = never (eqb d 42)

  next_again : (d : ℕ) → 128 ≤ d → next (next q c) d ≡ next q c
  unfolding in_bracket
  next_again d l = rw (next_high q c h) (go (in_bracket q))
    where
      go : (t : Bool) → next (cond t goes_on (outside false)) d ≡ cond t goes_on (outside false)
      go true = next_high goes_on d l
      go false = next_high (outside false) d l

squeeze_ascii : AsciiOnly squeeze
unfolding squeeze
squeeze_ascii = record {
  low = λ q c h. h;
  high = λ q c h. refl;
  kept = drops-high;
  alike = λ q c d h l. next_high q c h ∙ sym (next_high q d l);
  steady = λ q c d h l. next_again q c h d l;
  held = λ q c d h. drops_behind q c h d;
}

walk-changed : (q : Place) (s : List ℕ) → walk q s ≡ changed squeeze q s
unfolding walk changed squeeze
walk-changed q [] = refl
walk-changed q (c ∷ s) = rw (walk-changed (next q c) s)

module _ (e : Edition) (s : List ℕ) where
  squeezed-changed : (t : List ℕ) → squeezed e t ≡ changed squeeze (outside false) t
  squeezed-changed t = squeezed-walk e t ∙ walk-changed (outside false) t

  pub chars-squeezed : chars (squeezed e s) ≡ squeezed e (chars s)
  chars-squeezed = rw (squeezed-changed s, squeezed-changed (chars s)) (chars-changed squeeze_ascii (outside false) s)

  pub utf8-squeezed : utf8 (squeezed e s) ≡ utf8 s
  utf8-squeezed = rw (squeezed-changed s) (utf8-changed squeeze_ascii (outside false) s)

  -- the elements of what is kept are those of the bytes, without the stars behind a star
  pub elements-squeezed : elements e (squeezed e s) ≡ runless false (elements e s)
  unfolding elements
  elements-squeezed = rw chars-squeezed (pieces-runless e (chars s))

  -- so that it matches what the bytes match
  pub matches-squeezed : (n : List ℕ) → matches (elements e (squeezed e s)) n ≡ matches (elements e s) n
  matches-squeezed n = rw elements-squeezed (runless-matches (elements e s) n)
