-- How far the search for the first `;` looks ahead in an extern block. Any other search of a step ends where what it reads ends; this one can go past the token,
-- where that ends at a `}` before the `;`. Then the `;` stands one byte behind the token's end, as that of a `};`, or the token that would start at that end is
-- refused (`semicolon-near`). This is a law of the places that are found: of the bytes that the code reads on the way no contract speaks.
-- Assumes nothing.
use Prim.Native.Nat.{ℕ, ◌+◌, ◌-◌, ◌<◌, ◌≤◌}
use mathlib.Core.Path.{◌≡◌, refl, sym, ◌∙◌}
use mathlib.Core.List.{List}
use mathlib.Core.Bool.{Bool, true, false, cond, true≢false}
use native.Mathlib.Decide.{dec_le, dec_lt}
use native.Mathlib.Omega.{arith}
use borrow.Author.Tests.{eq-eqb, eqb-true, lt-ltb, le-ltb, ltb-true}
use lib.Dec.{eqb, ltb}
use lib.ListN.{get_or}
use Rattle.lists.proofs.Tests.{both}
use Rattle.numbers.specs.declared.Edition.{Edition}
use Rattle.numbers.specs.declared.Refusal.{Refusal}
use Rattle.numbers.specs.declared.Refusal.TheVariants as no
use Rattle.numbers.specs.Signs.{closing_brace, semicolon}
use Rattle.std.specs.Prelude.{Option, Some, None, Ok, Err}
use Rattle.linker_script.specs.Finding.{Test, first_from, is, last_close}
use Rattle.linker_script.proofs.Searches.{First, first_within, last_close_none}
use Rattle.reading_tokens.specs.Tokens.{end_at, to_semicolon, to_brace, to_either}
use Rattle.reading_tokens.proofs.Ends.{brace_before, either_left}
use Rattle.reading.specs.Rules.{Byte}
use Rattle.reading.proofs.Absence.{nowhere_in, nowhere-pair, stands_first}

-- what is first from p on is first from any place between
first_later : {t : Test} {s : List ℕ} {p q : ℕ} (r : ℕ) → First t s p q → p ≤ r → r ≤ q → first_from t s r ≡ Some q
first_later {t} {s} {p} {q} r f a b = go (first_from t s r) refl
  where
    at : {x : ℕ} → First t s r x → Dec (x < q) → Dec (q < x) → x ≡ q
    at {x} g (yes h) k = absurd (true≢false (sym g.holds ∙ f.before x (omega (arith, g.onward)) h))
    at g (no h) (yes k) = absurd (true≢false (sym f.holds ∙ g.before q b k))
    at g (no h) (no k) = omega arith

    go : (w : Option ℕ) → first_from t s r ≡ w → first_from t s r ≡ Some q
    go (Some x) e =
        let z = at (first_within e) (dec_lt x q) (dec_lt q x) in
        e ∙ rw z
    go None e = absurd (true≢false (sym f.holds ∙ nowhere_in t s q f.within (q - r) r (omega arith) b e))

-- a token that ends has found its end
end_found : (p : ℕ) (n : Refusal) (r : ℕ) (f : Option ℕ) → end_at p n f ≡ Ok r → (f ≡ Some r) × (p < r)
end_found p n r (Some q) e = go (ltb p q) refl e
  where
    go : (v : Bool) → ltb p q ≡ v → cond v (Ok q) (Err no.Unreadable) ≡ Ok r → (Some q ≡ Some r) × (p < r)
    go true h k =
        let z : q ≡ r = cc in
        (rw z, omega (arith, ltb-true p q h))
    go false h k =
        let z : ◌≡◌ {A = ℕ} 0 1 = cc in
        absurd (omega arith)
end_found p n r None e =
    let z : ◌≡◌ {A = ℕ} 0 1 = cc in
    absurd (omega arith)

-- the token ends at r, and the search for `;` at q
pub data Looked (x : Edition) (s : List ℕ) (q r : ℕ) : Type 0 where
  near : q ≤ r + 1 → Looked x s q r
  at_last : to_either x s r ≡ Err no.Unreadable → Looked x s q r

-- a `};` is left from p on, so the first `;` from there is looked for
module _ (x : Edition) (s : List ℕ) (p q r : ℕ) (h : p < last_close s) (e : first_from (is semicolon) s p ≡ Some q) where
  found : First (is semicolon) s p q
  found = first_within e

  ends_at-semicolon : to_semicolon x s p ≡ Ok r → Looked x s q r
  unfolding to_semicolon
  ends_at-semicolon k =
      let f = (end_found p no.Unreadable r (first_from (is semicolon) s p) k).0 in
      let z : q ≡ r = cc in
      near (omega arith)

  ends_at-brace : brace_before s p (Some q) ≡ true → to_brace x s p ≡ Ok r → Looked x s q r
  unfolding to_brace
  ends_at-brace b k = go (dec_le q (r + 1))
    where
      brace : (first_from (is closing_brace) s p ≡ Some r) × (p < r)
      brace = end_found p no.Unclosed r (first_from (is closing_brace) s p) k

      before : Byte closing_brace s (q - 1)
      before = eqb-true (get_or s (q - 1) 0) closing_brace (both (ltb p q) (eqb (get_or s (q - 1) 0) closing_brace) b).1

      here : Byte closing_brace s r
      here = eqb-true (get_or s r 0) closing_brace (first_within brace.0).holds

      -- the `};` before q is left from r on
      left : r + 1 < q → r < last_close s
      left l = go_left (dec_lt r (last_close s))
        where
          go_left : Dec (r < last_close s) → r < last_close s
          go_left (yes y) = y
          go_left (no y) =
              let n = nowhere-pair closing_brace semicolon s r (omega arith) (last_close_none s r (omega arith)) in
              let z : q - 1 + 1 ≡ q = omega arith in
              absurd (n (q - 1) (omega arith) before (rw z (eqb-true (get_or s q 0) semicolon found.holds)))

      go : Dec (q ≤ r + 1) → Looked x s q r
      go (yes l) = near l
      go (no l) =
          let m : r < q = omega arith in
          let f = first_later r found (omega (arith, brace.1)) (omega arith) in
          let b = eq-eqb (get_or s (q - 1) 0) closing_brace before in
          at_last (either_left x s r (left (omega arith)) (Some q) f
          ∙ rw (lt-ltb r q m, b, stands_first closing_brace s r (omega arith) here, le-ltb r r (omega arith)))

  pub semicolon-near : to_either x s p ≡ Ok r → Looked x s q r
  semicolon-near k = go (brace_before s p (Some q)) refl (sym (either_left x s p h (Some q) e) ∙ k)
    where
      go : (v : Bool) → brace_before s p (Some q) ≡ v → cond v (to_brace x s p) (to_semicolon x s p) ≡ Ok r → Looked x s q r
      go true b x = ends_at-brace b x
      go false b x = ends_at-semicolon x
