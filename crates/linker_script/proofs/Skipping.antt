-- The turns of `skip_comments_and_whitespace`, and where a skip ends. Assumes nothing.
use Prim.Native.Nat.{ℕ, zero, suc, ◌+◌, ◌-◌, ◌<◌, ◌≤◌}
use mathlib.Core.Path.{◌≡◌, refl, sym, ◌∙◌}
use mathlib.Core.List.{List, [], ◌∷◌}
use mathlib.Core.Bool.{Bool, true, false, and-eq-true_iff}
use native.Mathlib.Decide.{dec_lt}
use native.Mathlib.Nat.{add-zero}
use native.Mathlib.Omega.{arith}
use borrow.Author.Tests.{eq-eqb, ne_eqb, eqb-true, eqb-false}
use mir.Syntax.{w64}
use mir.Val.{Fits}
use lib.Dec.{eqb}
use lib.ListN.{length, get_or, drop, length-drop, drop_of_length-le, get_or-eq_default}
use lib.Seq.{drop-drop}
use Rattle.numbers.specs.declared.Edition.{Edition}
use Rattle.numbers.specs.Signs.{asterisk, hash, line_feed, slash}
use Rattle.std.specs.Prelude.{Option, Some, None, Ok, Err}
use Rattle.linker_script.specs.Finding.{Test, first_from, is, are}
use Rattle.linker_script.specs.Skip.{blank, closes_after, comment_end, Move, stop, pass, past, move, go, skip, skip_past}
use Rattle.linker_script.proofs.Searches.{drop_next, next_byte, byte_within, passes, First, first_within}

-- the first k bytes of a text are passed as they are
pub skip_past-drop : (x : Edition) (k p : ℕ) (l : List ℕ) → k ≤ length l → skip_past x k p l ≡ skip_past x 0 (p + k) (drop k l)
unfolding skip_past
skip_past-drop x zero p l h = rw add-zero
skip_past-drop x (suc k) p [] h = absurd (omega arith)
skip_past-drop x (suc k) p (b ∷ l) h =
    let z : p + suc k ≡ p + 1 + k = omega arith in
    rw z (skip_past-drop x k (p + 1) l (omega arith))

-- ---- one move, from the place i on
abbrev move_at : Edition → List ℕ → ℕ → Move
move_at x s i = move x i (get_or s i 0) (drop (i + 1) s)

module _ (x : Edition) (s : List ℕ) (i : ℕ) (h : i < length s) where
  skip_step : skip x s i ≡ go (move_at x s i) i (λ k. skip_past x k (i + 1) (drop (i + 1) s))
  unfolding skip skip_past
  skip_step = rw (drop_next s i h)

  skip_to : (k q : ℕ) → move_at x s i ≡ pass k → i + 1 + k ≡ q → q ≤ length s → skip x s i ≡ skip x s q
  unfolding skip
  skip_to k q e z n =
      let f : k ≤ length (drop (i + 1) s) = rw length-drop (omega arith) in
      skip_step ∙ rw (e, skip_past-drop x k (i + 1) (drop (i + 1) s) f, drop-drop, z)

blank-move : (x : Edition) (s : List ℕ) (i : ℕ) → blank (get_or s i 0) ≡ true → move_at x s i ≡ pass 0
unfolding move
blank-move x s i e = rw e

module _ (x : Edition) (s : List ℕ) (i : ℕ) (n : blank (get_or s i 0) ≡ false) where
  line-move : get_or s i 0 ≡ hash → move_at x s i ≡ past i 0 (first_from (is line_feed) s (i + 1))
  unfolding move first_from
  line-move k = rw (n, eq-eqb (get_or s i 0) hash k)

  module _ (k : get_or s i 0 ≡ hash → ⊥) where
    comment-move : i < length s → passes (are slash asterisk) s i ≡ true → move_at x s i ≡ past i 1 (comment_end x s i)
    unfolding move
    comment-move h c = rw (n, ne_eqb (get_or s i 0) hash k, next_byte, c, drop_next s i h)

    stop-move : passes (are slash asterisk) s i ≡ false → move_at x s i ≡ stop
    unfolding move
    stop-move c = rw (n, ne_eqb (get_or s i 0) hash k, next_byte, c)

-- ---- where a comment ends
pair-within : (s : List ℕ) (p x y : ℕ) {q : ℕ} → 0 < y → first_from (are x y) s p ≡ Some q → (p ≤ q) × (q + 1 < length s)
pair-within s p x y {q} h e =
    let f = first_within e in
    let z = eqb-true (get_or s (q + 1) 0) y ((and-eq-true_iff (eqb (get_or s q 0) x) (eqb (get_or s (q + 1) 0) y)).0 f.holds).1 in
    (f.onward, byte_within s (q + 1) (omega arith))

pub comment-from : (x : Edition) (s : List ℕ) (p : ℕ) → comment_end x s p ≡ first_from (are asterisk slash) s (p + closes_after x)
unfolding first_from
comment-from x s p = rw drop-drop

comment-within : (x : Edition) (s : List ℕ) (p : ℕ) {q : ℕ} → comment_end x s p ≡ Some q → (p + closes_after x ≤ q) × (q + 1 < length s)
comment-within x s p e = pair-within s (p + closes_after x) asterisk slash (omega arith) (sym (comment-from x s p) ∙ e)

-- ---- the loop of `skip_comments_and_whitespace`: the skip from i on decides
module _ (x : Edition) (s : List ℕ) (at i : ℕ) (inv : skip x s at ≡ skip x s i) where
  pub skip-ends : length s ≤ i → Ok i ≡ skip x s at
  unfolding skip skip_past
  skip-ends h = sym (inv ∙ rw (drop_of_length-le s h))

  module _ (h : i < length s) {v : Bool} (e : v ≡ blank (get_or s i 0)) where
    pub past_blank : v ≡ true → skip x s at ≡ skip x s (i + 1)
    past_blank k = inv ∙ skip_to x s i h 0 (i + 1) (blank-move x s i (sym e ∙ k)) (omega arith) (omega arith)

    module _ (n : v ≡ false) where
      -- at `#`
      module _ (k : get_or s i 0 ≡ hash) {f : Option ℕ} (g : f ≡ first_from (is line_feed) s (i + 1)) where
        pub past_line : {q : ℕ} → f ≡ Some q → skip x s at ≡ skip x s (q + 1)
        past_line {q} m =
            let r = first_within (sym g ∙ m) in
            let a = line-move x s i (sym e ∙ n) k in
            inv ∙ skip_to x s i h (q + 0 - i) (q + 1) (a ∙ rw (← g, m)) (omega (arith, r.onward)) (omega (arith, r.within))

        pub line-opens : f ≡ None → Err i ≡ skip x s at
        line-opens m = sym (inv ∙ skip_step x s i h ∙ rw (line-move x s i (sym e ∙ n) k, ← g, m))

      module _ (k : get_or s i 0 ≡ hash → ⊥) {w : Bool} (c : w ≡ passes (are slash asterisk) s i) where
        pub stops : w ≡ false → Ok i ≡ skip x s at
        stops o = sym (inv ∙ skip_step x s i h ∙ rw (stop-move x s i (sym e ∙ n) k (sym c ∙ o)))

        -- at `/*`
        module _ (o : w ≡ true) {f : Option ℕ} (g : f ≡ comment_end x s i) where
          pub past_comment : {q : ℕ} → f ≡ Some q → skip x s at ≡ skip x s (q + 2)
          past_comment {q} m =
              let r = comment-within x s i (sym g ∙ m) in
              let a = comment-move x s i (sym e ∙ n) k h (sym c ∙ o) in
              inv ∙ skip_to x s i h (q + 1 - i) (q + 2) (a ∙ rw (← g, m)) (omega (arith, r.0)) (omega (arith, r.1))

          pub comment-opens : f ≡ None → Err i ≡ skip x s at
          comment-opens m = sym (inv ∙ skip_step x s i h ∙ rw (comment-move x s i (sym e ∙ n) k h (sym c ∙ o), ← g, m))

-- the place behind what was found fits, and lies behind i
module _ (s : List ℕ) (i q : ℕ) (f : Option ℕ) (m : f ≡ Some q) where
  module _ (t : Test) (d : ℕ) (g : f ≡ first_from t s (i + d)) where
    line_found : First t s (i + d) q
    line_found = first_within (sym g ∙ m)

    pub line-fits : Fits w64 (length s) → Fits w64 (q + 1)
    line-fits n = omega (arith, line_found.within)

    pub line_less : 0 < d → length s - (q + 1) < length s - i
    line_less h = omega (arith, line_found.within, line_found.onward)

  module _ (x : Edition) (g : f ≡ comment_end x s i) where
    comment-found : (i + closes_after x ≤ q) × (q + 1 < length s)
    comment-found = comment-within x s i (sym g ∙ m)

    pub comment-fits : Fits w64 (length s) → Fits w64 (q + 2)
    comment-fits n = omega (arith, comment-found.1)

    pub comment_less : length s - (q + 2) < length s - i
    comment_less = omega (arith, comment-found.0, comment-found.1)

-- ---- where a skip ends
-- at q stand neither a blank nor the first byte of a comment
pub record Stopped (s : List ℕ) (q : ℕ) : Type 0 where
  pub no_blank : blank (get_or s q 0) ≡ false
  pub no_hash : eqb (get_or s q 0) hash ≡ false
  pub no_comment : passes (are slash asterisk) s q ≡ false

data Step (x : Edition) (s : List ℕ) (p : ℕ) : Type 0 where
  stays : skip x s p ≡ Ok p → Stopped s p → Step x s p
  goes : (r : ℕ) → p < r → r ≤ length s → skip x s p ≡ skip x s r → Step x s p
  opens : skip x s p ≡ Err p → Step x s p

step-outside : (x : Edition) (s : List ℕ) (p : ℕ) → length s ≤ p → Step x s p
unfolding blank
step-outside x s p h =
    let z = get_or-eq_default s 0 h in
    stays (sym (skip-ends x s p p refl h)) (record { no_blank = rw z; no_hash = rw z; no_comment = rw z })

module _ (x : Edition) (s : List ℕ) (p : ℕ) (h : p < length s) where
  module _ (n : false ≡ blank (get_or s p 0)) where
    step_line : get_or s p 0 ≡ hash → (f : Option ℕ) → f ≡ first_from (is line_feed) s (p + 1) → Step x s p
    step_line k (Some q) g =
        let r = first_within (sym g) in
        goes (q + 1) (omega (arith, r.onward)) (omega (arith, r.within)) (past_line x s p p refl h n refl k g refl)
    step_line k None g = opens (sym (line-opens x s p p refl h n refl k g refl))

    module _ (k : eqb (get_or s p 0) hash ≡ false) where
      other : get_or s p 0 ≡ hash → ⊥
      other = eqb-false (get_or s p 0) hash k

      step-comment : true ≡ passes (are slash asterisk) s p → (f : Option ℕ) → f ≡ comment_end x s p → Step x s p
      step-comment c (Some q) g =
          let r = comment-within x s p (sym g) in
          goes (q + 2) (omega (arith, r.0)) (omega (arith, r.1)) (past_comment x s p p refl h n refl other c refl g refl)
      step-comment c None g = opens (sym (comment-opens x s p p refl h n refl other c refl g refl))

      step-pair : (w : Bool) → w ≡ passes (are slash asterisk) s p → Step x s p
      step-pair true c = step-comment c (comment_end x s p) refl
      step-pair false c =
          stays (sym (stops x s p p refl h n refl other c refl)) (record { no_blank = sym n; no_hash = k; no_comment = sym c })

    step_byte : (w : Bool) → eqb (get_or s p 0) hash ≡ w → Step x s p
    step_byte true k = step_line (eqb-true (get_or s p 0) hash k) (first_from (is line_feed) s (p + 1)) refl
    step_byte false k = step-pair k (passes (are slash asterisk) s p) refl

  step-inside : (v : Bool) → v ≡ blank (get_or s p 0) → Step x s p
  step-inside true e = goes (p + 1) (omega arith) (omega arith) (past_blank x s p p refl h e refl)
  step-inside false e = step_byte e (eqb (get_or s p 0) hash) refl

step : (x : Edition) (s : List ℕ) (p : ℕ) → Dec (p < length s) → Step x s p
step x s p (yes h) = step-inside x s p h (blank (get_or s p 0)) refl
step x s p (no h) = step-outside x s p (omega arith)

-- a skip from p ends at q
pub record Ended (x : Edition) (s : List ℕ) (p q : ℕ) : Type 0 where
  pub onward : p ≤ q
  pub within : p ≤ length s → q ≤ length s
  pub again : skip x s q ≡ Ok q
  pub stopped : Stopped s q

module _ (x : Edition) (s : List ℕ) (q : ℕ) where
  turn : {p : ℕ} → skip x s p ≡ Ok q → ((r : ℕ) → p < r → r ≤ length s → skip x s r ≡ Ok q → Ended x s r q) → Step x s p → Ended x s p q
  turn {p} e on (stays f g) =
      let z : p ≡ q = cc in
      record { onward = omega arith; within = λ l. omega arith; again = rw z at e; stopped = rw z at g }
  turn e on (goes r a b f) =
      let n = on r a b (sym f ∙ e) in
      record { onward = omega (arith, n.onward); within = λ l. n.within b; again = n.again; stopped = n.stopped }
  turn e on (opens f) =
      let z : ◌≡◌ {A = ℕ} 0 1 = cc in
      absurd (omega arith)

  ended_in : (n p : ℕ) → length s - p ≤ n → skip x s p ≡ Ok q → Ended x s p q
  ended_in zero p h e = turn e (λ r a b f. absurd (omega arith)) (step x s p (dec_lt p (length s)))
  ended_in (suc n) p h e = turn e (λ r a b f. ended_in n r (omega arith) f) (step x s p (dec_lt p (length s)))

pub skip-ended : {x : Edition} {s : List ℕ} {p q : ℕ} → skip x s p ≡ Ok q → Ended x s p q
skip-ended {x} {s} {p} {q} e = ended_in x s q (length s - p) p (omega arith) e
