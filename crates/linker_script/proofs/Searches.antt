-- A search goes on by one byte or ends, what it finds passes its test, and a `};` is left exactly before the last one. Assumes nothing.
use Prim.Native.Nat.{ℕ, zero, suc, ◌+◌, ◌-◌, ◌<◌, ◌≤◌}
use mathlib.Core.Path.{◌≡◌, refl, sym, ◌∙◌}
use mathlib.Core.List.{List, [], ◌∷◌}
use mathlib.Core.Bool.{Bool, true, false, ◌&&◌}
use native.Mathlib.Decide.{dec_le, dec_lt}
use native.Mathlib.Nat.{add-zero, zero-add, le_refl}
use native.Mathlib.Numerals.{add-one}
use native.Mathlib.Omega.{arith}
use borrow.Author.Tests.{eq-eqb, ne_eqb}
use lib.Dec.{eqb}
use lib.ListN.{length, get_or, drop, drop_of_length-le}
use lib.Seq.{drop-cons, get_or-drop}
use Rattle.numbers.specs.Signs.{closing_brace, semicolon}
use Rattle.std.specs.Prelude.{Option, Some, None}
use Rattle.linker_script.specs.Finding.{Test, found, first_in, first_from, is, are, closes, later, last_in, last_close}

-- ---- from a place on
-- a text is the byte there and the text behind it
pub drop_next : (s : List ℕ) (i : ℕ) → i < length s → drop i s ≡ get_or s i 0 ∷ drop (i + 1) s
drop_next s i h = rw (add-one, drop-cons s i 0)

pub next_byte : (s : List ℕ) (i : ℕ) → get_or (drop (i + 1) s) 0 0 ≡ get_or s (i + 1) 0
next_byte s i = rw (get_or-drop, add-zero)

-- a byte that isn't 0 stands in the text
pub byte_within : (s : List ℕ) (i : ℕ) → 0 < get_or s i 0 → i < length s
byte_within [] i h = absurd (omega arith)
byte_within (b ∷ s) zero h = omega arith
byte_within (b ∷ s) (suc i) h = omega (arith, byte_within s i h)

-- a byte within the text is the same, whatever is read past its end
pub byte_any : (s : List ℕ) (i d e : ℕ) → i < length s → get_or s i d ≡ get_or s i e
byte_any s i d e h =
    let a = drop-cons s i d h in
    let b = drop-cons s i e h in
    cc

-- ---- the first place
abbrev pub passes : Test → List ℕ → ℕ → Bool
passes t s i = t (get_or s i 0) (get_or s (i + 1) 0)

module _ (t : Test) (s : List ℕ) where
  first_step : (i : ℕ) → i < length s → first_from t s i ≡ found (passes t s i) i (first_from t s (i + 1))
  unfolding first_from first_in
  first_step i h = rw (drop_next s i h, next_byte)

  pub first_here : (i : ℕ) → i < length s → passes t s i ≡ true → first_from t s i ≡ Some i
  first_here i h e = first_step i h ∙ rw e

  pub first_on : (i : ℕ) → i < length s → passes t s i ≡ false → first_from t s i ≡ first_from t s (i + 1)
  first_on i h e = first_step i h ∙ rw e

  pub first_none : (i : ℕ) → length s ≤ i → first_from t s i ≡ None
  unfolding first_from first_in
  first_none i h = rw (drop_of_length-le s h)

-- q is the first place from p on that passes the test
pub record First (t : Test) (s : List ℕ) (p q : ℕ) : Type 0 where
  pub onward : p ≤ q
  pub within : q < length s
  pub holds : passes t s q ≡ true
  pub before : (k : ℕ) → p ≤ k → k < q → passes t s k ≡ false

module _ (t : Test) (s : List ℕ) (q : ℕ) where
  found_within : (p : ℕ) → first_from t s p ≡ Some q → p < length s
  found_within p e = go (dec_lt p (length s))
    where
      go : Dec (p < length s) → p < length s
      go (yes h) = h
      go (no h) =
          let n : first_from t s p ≡ None = first_none t s p (omega arith) in
          let z : ◌≡◌ {A = ℕ} 0 1 = cc in
          absurd (omega arith)

  first_turn : (p : ℕ) → first_from t s p ≡ Some q → (first_from t s (p + 1) ≡ Some q → First t s (p + 1) q)
      → (v : Bool) → passes t s p ≡ v → First t s p q
  first_turn p e on true k =
      let h = found_within p e in
      let z : p ≡ q = cc (first_here t s p h k) in
      record { onward = omega arith; within = omega arith; holds = rw (← z) k; before = λ j x y. absurd (omega arith) }
  first_turn p e on false k =
      let h = found_within p e in
      let r = on (sym (first_on t s p h k) ∙ e) in
      record { onward = omega arith; within = r.within; holds = r.holds; before = λ j x y. at j x y r (dec_le (p + 1) j) }
    where
      at : (j : ℕ) → p ≤ j → j < q → First t s (p + 1) q → Dec (p + 1 ≤ j) → passes t s j ≡ false
      at j x y r (yes g) = r.before j g y
      at j x y r (no g) =
          let z : p ≡ j = omega arith in
          rw (← z) k

  first_search : (n p : ℕ) → length s - p ≤ n → first_from t s p ≡ Some q → First t s p q
  first_search zero p h e = absurd (omega (arith, found_within p e))
  first_search (suc n) p h e = first_turn p e (first_search n (p + 1) (omega arith)) (passes t s p) refl

pub first_within : {t : Test} {s : List ℕ} {p q : ℕ} → first_from t s p ≡ Some q → First t s p q
first_within {t} {s} {p} {q} e = first_search t s q (length s - p) p (omega arith) e

-- ---- the loops of `find` and `find_pair`: what is found from i on decides
module _ (s : List ℕ) (x at i : ℕ) (inv : first_from (is x) s at ≡ first_from (is x) s i) where
  pub find_here : i < length s → get_or s i 0 ≡ x → Some i ≡ first_from (is x) s at
  find_here h k = sym (inv ∙ first_here (is x) s i h (eq-eqb (get_or s i 0) x k))

  pub find_on : i < length s → (get_or s i 0 ≡ x → ⊥) → first_from (is x) s at ≡ first_from (is x) s (i + 1)
  find_on h k = inv ∙ first_on (is x) s i h (ne_eqb (get_or s i 0) x k)

  pub find_none : length s ≤ i → None ≡ first_from (is x) s at
  find_none h = sym (inv ∙ first_none (is x) s i h)

module _ (s : List ℕ) (x y at i : ℕ) (inv : first_from (are x y) s at ≡ first_from (are x y) s i) where
  pub pair_none : length s ≤ i → None ≡ first_from (are x y) s at
  pair_none h = sym (inv ∙ first_none (are x y) s i h)

  module _ (h : i < length s) (v : Bool) (e : v ≡ passes (are x y) s i) where
    pub pair_here : v ≡ true → Some i ≡ first_from (are x y) s at
    pair_here k = sym (inv ∙ first_here (are x y) s i h (sym e ∙ k))

    pub pair_on : v ≡ false → first_from (are x y) s at ≡ first_from (are x y) s (i + 1)
    pair_on k = inv ∙ first_on (are x y) s i h (sym e ∙ k)

-- ---- what is left
-- of the text l, which begins at p: no `};` is left and the last one stays, or one is left and the last one ends behind p
data Left (p r : ℕ) (l : List ℕ) : Type 0 where
  none : first_in closes p l ≡ None → last_in p r l ≡ r → Left p r l
  some : (c : ℕ) → first_in closes p l ≡ Some c → p < last_in p r l → Left p r l

left_behind : (p : ℕ) (l : List ℕ) → Left (p + 1) (p + 1) l → p < last_in (p + 1) (p + 1) l
left_behind p l (none f e) = omega arith
left_behind p l (some c f e) = omega arith

left : (p r : ℕ) (l : List ℕ) → r ≤ p → Left p r l
unfolding first_in last_in
left p r [] h = none refl refl
left p r (b ∷ l) h = turn (closes b (get_or l 0 0)) refl (λ k g. left (p + 1) k l g)
  where
    on : closes b (get_or l 0 0) ≡ false → Left (p + 1) r l → Left p r (b ∷ l)
    on e (none f k) = none (rw e f) (rw e k)
    on e (some c f k) = some c (rw e f) (rw e (omega arith))

    turn : (v : Bool) → closes b (get_or l 0 0) ≡ v → ((k : ℕ) → k ≤ p + 1 → Left (p + 1) k l) → Left p r (b ∷ l)
    turn true e ih = some p (rw e) (rw e (left_behind p l (ih (p + 1) (omega arith))))
    turn false e ih = on e (ih r (omega arith))

-- from the place p of a text on, whose last `};` ends at n, the first is f
data Ahead (p n : ℕ) (f : Option ℕ) : Type 0 where
  none_left : f ≡ None → n ≤ p → Ahead p n f
  one_left : (c : ℕ) → f ≡ Some c → p < n → Ahead p n f

ahead_now : {p r : ℕ} {l : List ℕ} → r ≤ p → Left p r l → Ahead p (last_in p r l) (first_in closes p l)
ahead_now h (none f e) = none_left f (omega arith)
ahead_now h (some c f e) = one_left c f e

later-few : (v : Bool) (p r : ℕ) → r ≤ p → later v p r ≤ p + 1
later-few true p r h = omega arith
later-few false p r h = omega arith

ahead : (j p r : ℕ) (l : List ℕ) → r ≤ p → Ahead (p + j) (last_in p r l) (first_in closes (p + j) (drop j l))
unfolding first_in last_in
ahead zero p r l h = rw add-zero (ahead_now h (left p r l h))
ahead (suc j) p r [] h = none_left refl (omega arith)
ahead (suc j) p r (b ∷ l) h =
    let z : p + suc j ≡ p + 1 + j = omega arith in
    rw z (ahead j (p + 1) (later (closes b (get_or l 0 0)) p r) l (later-few (closes b (get_or l 0 0)) p r h))

ahead_close : (s : List ℕ) (p : ℕ) → Ahead p (last_close s) (first_from closes s p)
unfolding first_from last_close
ahead_close s p = rw zero-add at (ahead p 0 0 s (le_refl 0))

pub last_close_none : (s : List ℕ) (p : ℕ) → last_close s ≤ p → first_from closes s p ≡ None
last_close_none s p h = go (ahead_close s p)
  where
    go : Ahead p (last_close s) (first_from closes s p) → first_from closes s p ≡ None
    go (none_left f e) = f
    go (one_left c f e) = absurd (omega arith)

pub last_close_some : (s : List ℕ) (p : ℕ) → p < last_close s → (c : ℕ) × (first_from closes s p ≡ Some c)
last_close_some s p h = go (ahead_close s p)
  where
    go : Ahead p (last_close s) (first_from closes s p) → (c : ℕ) × (first_from closes s p ≡ Some c)
    go (none_left f e) = absurd (omega arith)
    go (one_left c f e) = (c, f)

-- where none is left from p on, the last one ends there or before
none_from : (s : List ℕ) (p : ℕ) → first_from closes s p ≡ None → last_close s ≤ p
none_from s p e = go (ahead_close s p)
  where
    go : Ahead p (last_close s) (first_from closes s p) → last_close s ≤ p
    go (none_left f k) = k
    go (one_left c f k) =
        let z : ◌≡◌ {A = ℕ} 0 1 = cc in
        absurd (omega arith)

-- where one is left, the last one ends behind p
one_from : (s : List ℕ) (p c : ℕ) → first_from closes s p ≡ Some c → p < last_close s
one_from s p c e = go (ahead_close s p)
  where
    go : Ahead p (last_close s) (first_from closes s p) → p < last_close s
    go (none_left f k) =
        let z : ◌≡◌ {A = ℕ} 0 1 = cc in
        absurd (omega arith)
    go (one_left d f k) = k

-- a place without its brace or its semicolon does not close
no_brace : (b n : ℕ) → (b ≡ closing_brace → ⊥) → closes b n ≡ false
no_brace b n f = rw (ne_eqb b closing_brace f)

no_semicolon : (b n : ℕ) → (n ≡ semicolon → ⊥) → closes b n ≡ false
no_semicolon b n f = rw (ne_eqb n semicolon f) (go (eqb b closing_brace))
  where
    go : (v : Bool) → (v && false) ≡ false
    go true = refl
    go false = refl

-- ---- the loop of `last_close`: no `};` has its semicolon at i or behind it
pub record Behind (s : List ℕ) (i : ℕ) : Type 0 where
  pub within : i ≤ length s
  pub last : last_close s ≤ i - 1

module _ (s : List ℕ) where
  -- a place that does not close leaves the last one before it
  not_here : (p : ℕ) → p < length s → last_close s ≤ p + 1 → passes closes s p ≡ false → last_close s ≤ p
  not_here p h k e = none_from s p (first_on closes s p h e ∙ last_close_none s (p + 1) k)

  -- none ends behind the text
  pub behind_all : Behind s (length s)
  behind_all = record { within = omega arith; last = go (dec_lt 0 (length s)) }
    where
      go : Dec (0 < length s) → last_close s ≤ length s - 1
      go (no h) = none_from s (length s - 1) (first_none closes s (length s - 1) (omega arith))
      go (yes h) =
          let n : length s - 1 + 1 ≡ length s = omega arith in
          let k : last_close s ≤ length s = none_from s (length s) (first_none closes s (length s) (omega arith)) in
          let f : get_or s (length s - 1 + 1) 0 ≡ semicolon → ⊥ = λ e. absurd (omega (arith, byte_within s (length s - 1 + 1) (omega arith))) in
          not_here (length s - 1) (omega arith) (omega arith) (no_semicolon (get_or s (length s - 1) 0) (get_or s (length s - 1 + 1) 0) f)

  module _ {i : ℕ} (inv : Behind s i) where
    -- at the start there is none
    pub behind_none : i ≤ 1 → 0 ≡ last_close s
    behind_none h = omega (arith, inv.last)

    module _ (h : 1 < i) where
      place : i - 1 - 1 + 1 ≡ i - 1
      place = omega arith

      on : passes closes s (i - 1 - 1) ≡ false → Behind s (i - 1)
      on e =
          record {
            within = omega (arith, inv.within);
            last = not_here (i - 1 - 1) (omega (arith, inv.within)) (omega (arith, inv.last)) e;
          }

      -- without its semicolon or its brace the search goes on, and with both it ends
      pub behind_other : (get_or s (i - 1) 0 ≡ semicolon → ⊥) → Behind s (i - 1)
      behind_other f = on (no_semicolon (get_or s (i - 1 - 1) 0) (get_or s (i - 1 - 1 + 1) 0) (rw place f))

      pub behind_open : (get_or s (i - 1 - 1) 0 ≡ closing_brace → ⊥) → Behind s (i - 1)
      behind_open f = on (no_brace (get_or s (i - 1 - 1) 0) (get_or s (i - 1 - 1 + 1) 0) f)

      pub behind_ends : get_or s (i - 1) 0 ≡ semicolon → get_or s (i - 1 - 1) 0 ≡ closing_brace → i - 1 ≡ last_close s
      behind_ends e b =
          let v : passes closes s (i - 1 - 1) ≡ true = rw (place, e, b) in
          let f : first_from closes s (i - 1 - 1) ≡ Some (i - 1 - 1) = first_here closes s (i - 1 - 1) (omega (arith, inv.within)) v in
          omega (arith, inv.last, one_from s (i - 1 - 1) (i - 1 - 1) f)
