-- What searches and skips tell of the bytes, in the words of specs/Rules.antt: that none is left, and how a skip goes on at a byte. Assumes nothing.
use Prim.Native.Nat.{ℕ, zero, suc, ◌+◌, ◌-◌, ◌<◌, ◌≤◌}
use mathlib.Core.Path.{◌≡◌, refl, sym, ◌∙◌}
use mathlib.Core.List.{List}
use mathlib.Core.Bool.{Bool, true, false, ◌&&◌, ◌||◌, true≢false}
use native.Mathlib.Decide.{dec_le, dec_lt}
use native.Mathlib.Omega.{arith}
use borrow.Author.Tests.{eq-eqb, eqb-true, eqb-false}
use lib.Dec.{eqb}
use lib.ListN.{length, get_or, get_or-eq_default}
use Rattle.numbers.specs.declared.Edition.{Edition}
use Rattle.numbers.specs.Signs.{asterisk, closing_brace, hash, line_feed, semicolon, slash}
use Rattle.lists.proofs.Tests.{both, neither}
use Rattle.std.specs.Prelude.{Option, Some, None, Ok, Err}
use Rattle.linker_script.specs.Finding.{Test, are, first_from, is}
use Rattle.linker_script.specs.Skip.{blank, closes_after, comment_end, skip, skips}
use Rattle.linker_script.proofs.Searches.{byte_within, first_here, first_on, first_within, passes}
use Rattle.linker_script.proofs.Skipping.{comment-from, skip-ends, past_blank, past_line, line-opens, stops, past_comment, comment-opens}
use Rattle.reading.specs.Rules.{Byte, NoByte, NoPair}

-- ---- nothing is found
module _ (t : Test) (s : List ℕ) (k : ℕ) (l : k < length s) where
  nowhere_turn : (p : ℕ) → first_from t s p ≡ None → p ≤ k → (p + 1 ≤ k → first_from t s (p + 1) ≡ None → passes t s k ≡ false)
      → (v : Bool) → passes t s p ≡ v → passes t s k ≡ false
  nowhere_turn p e a on true x =
      let n = first_here t s p (omega arith) x in
      let z : ◌≡◌ {A = ℕ} 0 1 = cc in
      absurd (omega arith)
  nowhere_turn p e a on false x = go (dec_le (p + 1) k)
    where
      go : Dec (p + 1 ≤ k) → passes t s k ≡ false
      go (yes g) = on g (sym (first_on t s p (omega arith) x) ∙ e)
      go (no g) =
          let z : p ≡ k = omega arith in
          rw (← z) x

  pub nowhere_in : (n p : ℕ) → k - p ≤ n → p ≤ k → first_from t s p ≡ None → passes t s k ≡ false
  nowhere_in zero p h a e = nowhere_turn p e a (λ g f. absurd (omega arith)) (passes t s p) refl
  nowhere_in (suc n) p h a e = nowhere_turn p e a (λ g f. nowhere_in n (p + 1) (omega arith) g f) (passes t s p) refl

module _ (b : ℕ) (s : List ℕ) (p : ℕ) where
  pub nowhere_none : 0 < b → first_from (is b) s p ≡ None → NoByte b s p
  nowhere_none h e q l k =
      let w = byte_within s q (omega arith) in
      true≢false (sym (eq-eqb (get_or s q 0) b k) ∙ nowhere_in (is b) s q w (q - p) p (omega arith) l e)

  pub none_nowhere : NoByte b s p → first_from (is b) s p ≡ None
  none_nowhere h = go (first_from (is b) s p) refl
    where
      go : (f : Option ℕ) → first_from (is b) s p ≡ f → first_from (is b) s p ≡ None
      go (Some q) e =
          let f = first_within e in
          absurd (h q f.onward (eqb-true (get_or s q 0) b f.holds))
      go None e = e

  pub stands_first : 0 < b → Byte b s p → first_from (is b) s p ≡ Some p
  stands_first h k = first_here (is b) s p (byte_within s p (omega arith)) (eq-eqb (get_or s p 0) b k)

module _ (a b : ℕ) (s : List ℕ) (p : ℕ) where
  pub pair_found : (q : ℕ) → first_from (are a b) s p ≡ Some q → (p ≤ q) × (Byte a s q × Byte b s (q + 1))
  pair_found q e =
      let f = first_within e in
      let k = both (eqb (get_or s q 0) a) (eqb (get_or s (q + 1) 0) b) f.holds in
      (f.onward, (eqb-true (get_or s q 0) a k.0, eqb-true (get_or s (q + 1) 0) b k.1))

  pub nowhere-pair : 0 < a → first_from (are a b) s p ≡ None → NoPair a b s p
  nowhere-pair h e q l j k =
      let w = byte_within s q (omega arith) in
      let n = nowhere_in (are a b) s q w (q - p) p (omega arith) l e in
      let y : eqb (get_or s q 0) a && eqb (get_or s (q + 1) 0) b ≡ true = rw (eq-eqb (get_or s q 0) a j, eq-eqb (get_or s (q + 1) 0) b k) in
      true≢false (sym y ∙ n)

  pub pair-nowhere : NoPair a b s p → first_from (are a b) s p ≡ None
  pair-nowhere h = go (first_from (are a b) s p) refl
    where
      go : (f : Option ℕ) → first_from (are a b) s p ≡ f → first_from (are a b) s p ≡ None
      go (Some q) e =
          let f = pair_found q e in
          absurd (h q f.0 f.1.0 f.1.1)
      go None e = e

-- ---- a skip at the place p
module _ (s : List ℕ) (p : ℕ) where
  blank-within : blank (get_or s p 0) ≡ true → p < length s
  unfolding blank
  blank-within e = go (dec_lt p (length s))
    where
      go : Dec (p < length s) → p < length s
      go (yes h) = h
      go (no h) =
          let l : length s ≤ p = omega arith in
          let z = get_or-eq_default s 0 l in
          absurd (true≢false (sym (rw z at e)))

  hash-blank : Byte hash s p → false ≡ blank (get_or s p 0)
  unfolding blank
  hash-blank e = rw e

  slash-blank : Byte slash s p → false ≡ blank (get_or s p 0)
  unfolding blank
  slash-blank e = rw e

module _ (x : Edition) (s : List ℕ) (p : ℕ) where
  pub skip-blank : blank (get_or s p 0) ≡ true → skip x s p ≡ skip x s (p + 1)
  skip-blank e = past_blank x s p p refl (blank-within s p e) (sym e) refl

  module _ (e : Byte hash s p) where
    hash-within : p < length s
    hash-within = byte_within s p (omega arith)

    pub skip-line : (q : ℕ) → first_from (is line_feed) s (p + 1) ≡ Some q → skip x s p ≡ skip x s (q + 1)
    skip-line q f = past_line x s p p refl hash-within (hash-blank s p e) refl e (sym f) refl

    pub skip-line-opens : NoByte line_feed s p → skip x s p ≡ Err p
    skip-line-opens f =
        let n = none_nowhere line_feed s (p + 1) (λ q l. f q (omega arith)) in
        sym (line-opens x s p p refl hash-within (hash-blank s p e) refl e (sym n) refl)

  module _ (e : Byte slash s p) (f : Byte asterisk s (p + 1)) where
    slash-within : p < length s
    slash-within = byte_within s p (omega arith)

    no_hash : Byte hash s p → ⊥
    no_hash k = omega arith

    opens : true ≡ passes (are slash asterisk) s p
    opens = rw (e, f)

    pub skip-comment : (q : ℕ) → comment_end x s p ≡ Some q → skip x s p ≡ skip x s (q + 2)
    skip-comment q g = past_comment x s p p refl slash-within (slash-blank s p e) refl no_hash opens refl (sym g) refl

    pub skip-comment-opens : NoPair asterisk slash s (p + closes_after x) → skip x s p ≡ Err p
    skip-comment-opens g =
        let n = comment-from x s p ∙ pair-nowhere asterisk slash s (p + closes_after x) g in
        sym (comment-opens x s p p refl slash-within (slash-blank s p e) refl no_hash opens refl (sym n) refl)

  pub skip-stays : skips s p ≡ false → skip x s p ≡ Ok p
  skip-stays e = go (dec_lt p (length s))
    where
      go : Dec (p < length s) → skip x s p ≡ Ok p
      go (yes h) =
          let a = neither (blank (get_or s p 0)) (eqb (get_or s p 0) hash || are slash asterisk (get_or s p 0) (get_or s (p + 1) 0)) e in
          let b = neither (eqb (get_or s p 0) hash) (are slash asterisk (get_or s p 0) (get_or s (p + 1) 0)) a.1 in
          sym (stops x s p p refl h (sym a.0) refl (eqb-false (get_or s p 0) hash b.0) (sym b.1) refl)
      go (no h) = sym (skip-ends x s p p refl (omega arith))

  -- at the end of a token
  pub semicolon-stays : Byte semicolon s p → skip x s p ≡ Ok p
  unfolding blank
  semicolon-stays e = skip-stays (rw e)

  pub closing_stays : Byte closing_brace s p → skip x s p ≡ Ok p
  unfolding blank
  closing_stays e = skip-stays (rw e)

-- what stands there, and so what a skip does
pub data Turn (x : Edition) (s : List ℕ) (p : ℕ) : Type 0 where
  stays : skips s p ≡ false → Turn x s p
  at_blank : p < length s → blank (get_or s p 0) ≡ true → Turn x s p
  at_line : {q : ℕ} → p < q → q < length s → Byte hash s p → first_from (is line_feed) s (p + 1) ≡ Some q → Turn x s p
  at_comment : {q : ℕ} → p < q → q < length s → Byte slash s p → Byte asterisk s (p + 1) → comment_end x s p ≡ Some q → Turn x s p
  in_line : Byte hash s p → NoByte line_feed s p → Turn x s p
  in_comment : Byte slash s p → Byte asterisk s (p + 1) → NoPair asterisk slash s (p + closes_after x) → Turn x s p

module _ (x : Edition) (s : List ℕ) (p : ℕ) where
  turn_line : Byte hash s p → (f : Option ℕ) → first_from (is line_feed) s (p + 1) ≡ f → Turn x s p
  turn_line k (Some q) e =
      let f = first_within e in
      at_line {q = q} (omega (arith, f.onward)) f.within k e
  turn_line k None e = in_line k (λ q l b. on q l b (dec_le (p + 1) q))
    where
      on : (q : ℕ) → p ≤ q → Byte line_feed s q → Dec (p + 1 ≤ q) → ⊥
      on q l b (yes g) = nowhere_none line_feed s (p + 1) (omega arith) e q g b
      on q l b (no g) =
          let z : p ≡ q = omega arith in
          omega (arith, rw (← z) at b)

  turn_comment : Byte slash s p → Byte asterisk s (p + 1) → (f : Option ℕ) → comment_end x s p ≡ f → Turn x s p
  turn_comment j k (Some q) e =
      let f = first_within (sym (comment-from x s p) ∙ e) in
      at_comment {q = q} (omega (arith, f.onward)) f.within j k e
  turn_comment j k None e = in_comment j k (nowhere-pair asterisk slash s (p + closes_after x) (omega arith) (sym (comment-from x s p) ∙ e))

  pub turn : Turn x s p
  turn = go (blank (get_or s p 0)) refl
    where
      pair : (v : Bool) → eqb (get_or s p 0) slash && eqb (get_or s (p + 1) 0) asterisk ≡ v → blank (get_or s p 0) ≡ false → eqb (get_or s p 0) hash ≡ false → Turn x s p
      pair true e a b =
          let k = both (eqb (get_or s p 0) slash) (eqb (get_or s (p + 1) 0) asterisk) e in
          turn_comment (eqb-true (get_or s p 0) slash k.0) (eqb-true (get_or s (p + 1) 0) asterisk k.1) (comment_end x s p) refl
      pair false e a b = stays (rw (a, b, e))

      line : (v : Bool) → eqb (get_or s p 0) hash ≡ v → blank (get_or s p 0) ≡ false → Turn x s p
      line true e a = turn_line (eqb-true (get_or s p 0) hash e) (first_from (is line_feed) s (p + 1)) refl
      line false e a = pair (eqb (get_or s p 0) slash && eqb (get_or s (p + 1) 0) asterisk) refl a e

      go : (v : Bool) → blank (get_or s p 0) ≡ v → Turn x s p
      go true e = at_blank (blank-within s p e) e
      go false e = line (eqb (get_or s p 0) hash) refl e
