-- A walk over a glob token's bytes, where `[^` becomes `[!` and runs of stars are squeezed: what one step puts, how many bytes are kept, and that they
-- stand at a buffer's front; and whether all are. Assumes nothing.
use Prim.Native.Nat.{ℕ, zero, suc, ◌+◌, ◌-◌, ◌<◌, ◌≤◌}
use mathlib.Core.Path.{◌≡◌, refl, sym, ap, ◌∙◌}
use mathlib.Core.List.{List, [], ◌∷◌}
use mathlib.Core.Bool.{Bool, true, false, not, cond, ◌&&◌, false≢true}
use Rattle.std.specs.Prelude.{Option, Some, None}
use Rattle.std.specs.Option.{is_some, option_eq}
use Rattle.std.specs.Bool.{then_some}
use native.Mathlib.Omega.{arith}
use borrow.Author.Tests.{eq-eqb, eqb-true, le-leb, ne_eqb, not-false}
use mir.Syntax.{w64}
use mir.Val.{Fits}
use lib.Dec.{eqb, leb}
use lib.ListN.{length, get_or, set, drop, length-drop, drop_of_length-le}
use lib.Seq.{drop-drop}
use Rattle.lists.specs.Front.{front}
use Rattle.lists.specs.Same.{same}
use Rattle.lists.proofs.SameLaws.{same_lengths}
use Rattle.lists.proofs.FrontLaws.{Written, written_start, written-room, written_more, written_end, written_count}
use Rattle.numbers.specs.declared.Edition.{Edition}
use Rattle.pattern.specs.Patterns.{between}
use Rattle.pattern.specs.Post.{mark_as}
use Rattle.pattern.specs.Storing.{stored_byte, negated_from, negated, stored}
use Rattle.pattern.specs.Runs.{squeezed, squeezed_past}
use Rattle.pattern.proofs.BracketExits.{mark-few, bracket-fits}
use Rattle.pattern.proofs.Runs.{element-bracket, element_other, squeezed-few}
use Rattle.pattern.proofs.Stored.{length-negated, sign-stored}
use Rattle.pattern_check.proofs.Negations.{token_more}
use Rattle.storing.specs.declared.runs.Walk.{Walk}
use Rattle.storing.specs.declared.runs.Step.{Step}
use Rattle.storing.specs.Post.{at_start, bracket_more, kept_from, kept_step, put_before, put_by}
use Rattle.storing.proofs.Keeping.{byte_here, negated_here, stored-few}

-- ---- `bracket_length`: the mark behind the `[` at i takes m bytes, and what stands between x
module _ (t : List ℕ) (i m : ℕ) (token : Bool) (k : m ≡ mark_as token (drop (i + 1) t)) (h : i < length t) where
  marked : i + 1 + m ≤ length t
  marked = omega (arith, mark-few token (drop (i + 1) t), length-drop (i + 1) t)

  pub from-fits : Fits w64 (length t) → Fits w64 (i + 1 + m)
  from-fits f = omega (arith, marked)

  module _ (e : Edition) (x : ℕ) (l : x ≡ length (between e (drop (i + 1 + m) t))) where
    lies : m + x ≤ length (drop (i + 1) t)
    lies = bracket-fits e token (drop (i + 1) t) k (rw drop-drop l)

    pub part-fits : Fits w64 (length t) → Fits w64 (m + x)
    part-fits f = omega (arith, lies, length-drop (i + 1) t)

    pub past_fits : Fits w64 (length t) → Fits w64 (m + x + 1)
    past_fits f = omega (arith, lies, length-drop (i + 1) t)

pub bracket_is : (e : Edition) (t : List ℕ) (i m x : ℕ) → m ≡ mark_as true (drop (i + 1) t) → x ≡ length (between e (drop (i + 1 + m) t))
    → m + x + 1 ≡ bracket_more e (drop (i + 1) t)
bracket_is e t i m x k l = rw (← k, drop-drop, l)

-- ---- within an element a byte stays
within-element : (e : Edition) (n : ℕ) (b : Bool) (x : ℕ) (s : List ℕ) → (n ≡ 0 → ⊥) → squeezed_past e n b (x ∷ s) ≡ x ∷ squeezed_past e (n - 1) false s
unfolding squeezed_past
within-element e zero b x s z = absurd (z refl)
within-element e (suc n) b x s z = let k : n ≡ suc n - 1 = omega arith in ap (λ (m : ℕ). x ∷ squeezed_past e m false s) k

-- ---- `step_at`: at i stands c, for which x is put
module _ (e : Edition) (t : List ℕ) (i : ℕ) (w : Walk) (h : i < length t) (x : ℕ) (q : x ≡ stored_byte w.opened (get_or t i 0)) where
  here : kept_from e w (drop i t) ≡ squeezed_past e w.left w.starred (x ∷ negated_from (eqb (get_or t i 0) 91) (drop (i + 1) t))
  unfolding kept_from
  here = rw (negated_here w.opened t i h x q)

  pub step-within : (w.left ≡ 0 → ⊥) → (r : Step) → r ≡ kept_step x (w.left - 1) (eqb (get_or t i 0) 91)
      → kept_from e w (drop i t) ≡ put_by r (kept_from e r.then (drop (i + 1) t))
  unfolding kept_from
  step-within z r l = rw l (here ∙ within-element e w.left w.starred x (negated_from (eqb (get_or t i 0) 91) (drop (i + 1) t)) z)

  module _ (z : w.left ≡ 0) where
    outside : kept_from e w (drop i t) ≡ squeezed_past e 0 w.starred (x ∷ negated_from (eqb (get_or t i 0) 91) (drop (i + 1) t))
    outside = here ∙ rw z

    module _ (k : get_or t i 0 ≡ 42) where
      is_star : eqb x 42 ≡ true
      is_star = rw (q, sign-stored 42 refl refl w.opened (get_or t i 0)) (eq-eqb (get_or t i 0) 42 k)

      pub step-star : (o : Option ℕ) → o ≡ then_some (not w.starred) x
          → kept_from e w (drop i t) ≡ put_before o (kept_from e (record { left = 0; starred = true; opened = eqb (get_or t i 0) 91 }) (drop (i + 1) t))
      unfolding kept_from squeezed_past
      step-star o p = outside ∙ rw (is_star, p) (go w.starred)
        where
          go : (b : Bool) → cond b (squeezed_past e 0 true (negated_from (eqb (get_or t i 0) 91) (drop (i + 1) t)))
              (x ∷ squeezed_past e 0 true (negated_from (eqb (get_or t i 0) 91) (drop (i + 1) t)))
              ≡ put_before (then_some (not b) x) (squeezed_past e 0 true (negated_from (eqb (get_or t i 0) 91) (drop (i + 1) t)))
          go true = refl
          go false = refl

    module _ (n : get_or t i 0 ≡ 42 → ⊥) where
      no_star : eqb x 42 ≡ false
      no_star = rw (q, sign-stored 42 refl refl w.opened (get_or t i 0)) (ne_eqb (get_or t i 0) 42 n)

      pub step-bracket : eqb (get_or t i 0) 91 ≡ true → (m : ℕ) → m ≡ bracket_more e (drop (i + 1) t) → (r : Step) → r ≡ kept_step x m (eqb (get_or t i 0) 91)
          → kept_from e w (drop i t) ≡ put_by r (kept_from e r.then (drop (i + 1) t))
      unfolding kept_from squeezed_past
      step-bracket k m l r z =
          let b : eqb x 91 ≡ true = rw (q, sign-stored 91 refl refl w.opened (get_or t i 0)) k in
          rw z (outside ∙ rw (no_star, k, element-bracket e x (negated_from true (drop (i + 1) t)) b, token_more e (drop (i + 1) t), ← l))

      pub step_other : eqb (get_or t i 0) 91 ≡ false → (r : Step) → r ≡ kept_step x 0 (eqb (get_or t i 0) 91)
          → kept_from e w (drop i t) ≡ put_by r (kept_from e r.then (drop (i + 1) t))
      unfolding kept_from squeezed_past
      step_other k r z =
          let b : eqb x 91 ≡ false = rw (q, sign-stored 91 refl refl w.opened (get_or t i 0)) k in
          rw z (outside ∙ rw (no_star, k, element_other e x (negated_from false (drop (i + 1) t)) no_star b))

-- ---- the walk's start and its end
pub kept_start : (e : Edition) (t : List ℕ) → stored e t ≡ kept_from e at_start t
unfolding kept_from squeezed stored negated
kept_start e t = refl

pub kept_end : (e : Edition) (w : Walk) (t : List ℕ) (i : ℕ) → length t ≤ i → kept_from e w (drop i t) ≡ []
unfolding kept_from negated_from squeezed_past
kept_end e w t i h = rw (drop_of_length-le t h)

pub kept-few : (e : Edition) (w : Walk) (s : List ℕ) → length (kept_from e w s) ≤ length s
unfolding kept_from
kept-few e w s = omega (arith, squeezed-few e w.left w.starred (negated_from w.opened s), length-negated w.opened s)

-- ---- `kept_length`: of the first i bytes n are kept, and with what is kept of the others they are all
pub record Kept (e : Edition) (t : List ℕ) (w : Walk) (i n : ℕ) : Type 0 where
  pub few : n ≤ i
  pub rest : length (stored e t) ≡ n + length (kept_from e w (drop i t))

pub kept_none : (e : Edition) (t : List ℕ) (w : Walk) → w ≡ at_start → Kept e t w 0 0
kept_none e t w h = rw h (record { few = omega arith; rest = omega (arith, ap length (kept_start e t)) })

module _ {e : Edition} {t : List ℕ} {w : Walk} {i n : ℕ} (z : Kept e t w i n) where
  pub kept_all : length t ≤ i → n ≡ length (stored e t)
  kept_all h = omega (arith, z.rest, ap length (kept_end e w t i h))

  module _ (r : Step) (q : kept_from e w (drop i t) ≡ put_by r (kept_from e r.then (drop (i + 1) t))) where
    kept_on : (o : Option ℕ) → r.put ≡ o → (m : ℕ) → m ≡ cond (is_some o) (n + 1) n → Kept e t r.then (i + 1) m
    kept_on (Some x) h m k = record { few = omega (arith, z.few, k); rest = z.rest ∙ rw (q, h, k) (omega arith) }
    kept_on None h m k = record { few = omega (arith, z.few, k); rest = z.rest ∙ rw (q, h, k) refl }

    -- b is what `is_some` answers
    module _ (b : Bool) (p : b ≡ is_some r.put) (m : ℕ) where
      pub kept_more : b ≡ true → m ≡ n + 1 → Kept e t r.then (i + 1) m
      kept_more h k = kept_on r.put refl m (rw (← p, h) k)

      pub kept_less : b ≡ false → m ≡ n → Kept e t r.then (i + 1) m
      kept_less h k = kept_on r.put refl m (rw (← p, h) k)

-- ---- `has_room`: what is kept is no longer than the token
module _ (e : Edition) (t : List ℕ) (room : ℕ) where
  pub token-fits : length t ≤ room → true ≡ leb (length (stored e t)) room
  token-fits h = sym (le-leb (length (stored e t)) room (omega (arith, stored-few e t)))

  pub kept-fits : (n : ℕ) → n ≡ length (stored e t) → leb n room ≡ leb (length (stored e t)) room
  kept-fits n q = rw q

-- ---- `copy_kept`: n bytes, at the front of the buffer that was d, are what is kept of the first i
pub record Copied (e : Edition) (t d l : List ℕ) (w : Walk) (i n : ℕ) : Type 0 where
  pub few : n ≤ i
  pub written : Written (stored e t) d l n (kept_from e w (drop i t))

pub copied_none : (e : Edition) (t d : List ℕ) (w : Walk) → w ≡ at_start → Copied e t d d w 0 0
unfolding kept_from squeezed stored negated
copied_none e t d w h = rw h (record { few = omega arith; written = written_start })

module _ {e : Edition} {t d l : List ℕ} {w : Walk} {i n : ℕ} (z : Copied e t d l w i n) where
  pub copied_all : length t ≤ i → l ≡ front (stored e t) d
  copied_all h = written_end z.written (kept_end e w t i h)

  pub copied_count : length t ≤ i → n ≡ length (stored e t)
  copied_count h = written_count z.written (kept_end e w t i h)

  pub copied_long : length l ≡ length d
  copied_long = z.written.long

  module _ (r : Step) (q : kept_from e w (drop i t) ≡ put_by r (kept_from e r.then (drop (i + 1) t))) where
    pub copied_less : r.put ≡ None → Copied e t d l r.then (i + 1) n
    copied_less h =
        let k : kept_from e w (drop i t) ≡ kept_from e r.then (drop (i + 1) t) = q ∙ rw h in
        record { few = omega (arith, z.few); written = rw k at z.written }

    module _ (x : ℕ) (h : r.put ≡ Some x) (fits : length (stored e t) ≤ length d) where
      next_put : kept_from e w (drop i t) ≡ x ∷ kept_from e r.then (drop (i + 1) t)
      next_put = q ∙ rw h

      pub copied_room : n < length l
      copied_room = written-room z.written fits (rw next_put (omega arith))

      pub copied_more : Copied e t d (set l n x) r.then (i + 1) (n + 1)
      copied_more = record {
        few = omega (arith, z.few);
        written = written_more z.written fits next_put;
      }

-- ---- `is_as_stored`: what is left from i on decides
pub record Unchanged (e : Edition) (t : List ℕ) (w : Walk) (i : ℕ) : Type 0 where
  pub rest : same (stored e t) t ≡ same (kept_from e w (drop i t)) (drop i t)

pub unchanged_none : (e : Edition) (t : List ℕ) (w : Walk) → w ≡ at_start → Unchanged e t w 0
unchanged_none e t w h = record { rest = rw (h, kept_start e t) }

module _ {e : Edition} {t : List ℕ} {w : Walk} {i : ℕ} (z : Unchanged e t w i) where
  pub unchanged_all : length t ≤ i → true ≡ same (stored e t) t
  unfolding same
  unchanged_all h = sym (z.rest ∙ rw (kept_end e w t i h, drop_of_length-le t h))

  module _ (h : i < length t) (r : Step) (q : kept_from e w (drop i t) ≡ put_by r (kept_from e r.then (drop (i + 1) t))) where
    -- a star that goes leaves less than there is
    unchanged_less : r.put ≡ None → false ≡ same (stored e t) t
    unchanged_less d =
        let k : kept_from e w (drop i t) ≡ kept_from e r.then (drop (i + 1) t) = q ∙ rw d in
        let n = kept-few e r.then (drop (i + 1) t) in
        same_lengths (kept_from e w (drop i t)) (drop i t) (λ l. omega (arith, l, ap length k, n, length-drop i t, length-drop (i + 1) t)) ∙ sym z.rest

    module _ (x : ℕ) (d : r.put ≡ Some x) where
      compared : same (stored e t) t ≡ eqb x (get_or t i 0) && same (kept_from e r.then (drop (i + 1) t)) (drop (i + 1) t)
      unfolding same
      compared = z.rest ∙ rw (q, d, byte_here t i h)

      unchanged_put : (x ≡ get_or t i 0 → ⊥) → false ≡ same (stored e t) t
      unchanged_put n = sym (compared ∙ rw (ne_eqb x (get_or t i 0) n))

      unchanged_as : x ≡ get_or t i 0 → Unchanged e t r.then (i + 1)
      unchanged_as n = record { rest = compared ∙ rw (eq-eqb x (get_or t i 0) n) }

    -- b is what `!=` answers of what is put and what stands there
    module _ (b : Bool) (p : b ≡ not (option_eq eqb r.put (Some (get_or t i 0)))) where
      pub unchanged_other : b ≡ true → false ≡ same (stored e t) t
      unchanged_other n = go r.put refl
        where
          go : (o : Option ℕ) → r.put ≡ o → false ≡ same (stored e t) t
          go None h = unchanged_less h
          go (Some x) h = unchanged_put x h (λ k. absurd (false≢true (sym (rw (h, eq-eqb x (get_or t i 0) k) at p) ∙ n)))

      pub unchanged_more : b ≡ false → Unchanged e t r.then (i + 1)
      unchanged_more n = go r.put refl
        where
          go : (o : Option ℕ) → r.put ≡ o → Unchanged e t r.then (i + 1)
          go None h = absurd (false≢true (sym n ∙ rw h at p))
          go (Some x) h = unchanged_as x h (eqb-true x (get_or t i 0) (not-false (eqb x (get_or t i 0)) (sym (rw h at p) ∙ n)))
