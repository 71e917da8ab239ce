-- How the code asks where a token of an extern block ends: by the last `};` of the text, behind which none is left (`either_none`, `bare_none`), and else by
-- the byte before the first `;` (`either_left`, `bare_left`). Assumes nothing.
use Prim.Native.Nat.{ℕ, ◌+◌, ◌-◌, ◌<◌, ◌≤◌}
use mathlib.Core.Path.{◌≡◌, sym, ◌∙◌}
use mathlib.Core.List.{List}
use mathlib.Core.Bool.{Bool, true, cond, ◌&&◌, true≢false}
use native.Mathlib.Decide.{dec_lt}
use native.Mathlib.Omega.{arith}
use borrow.Author.Tests.{eq-eqb, eqb-true, lt-ltb, le-ltb, ltb-true}
use lib.Dec.{eqb, ltb}
use lib.ListN.{get_or}
use Rattle.numbers.specs.declared.Edition.{Edition}
use Rattle.numbers.specs.Signs.{closing_brace, semicolon}
use Rattle.lists.proofs.Tests.{both, fails}
use Rattle.std.specs.Prelude.{Option, Some, None}
use Rattle.linker_script.specs.Finding.{closes, first_from, is, last_close}
use Rattle.linker_script.proofs.Searches.{First, first_within, last_close_none, last_close_some}
use Rattle.reading_tokens.specs.Tokens.{to_semicolon, to_brace, to_either, bare_extern_end}

-- whether the first `;` from the place p on is that of a `};`, or there is none
abbrev pub brace_before : List ℕ → ℕ → Option ℕ → Bool
brace_before s p (Some q) = ltb p q && eqb (get_or s (q - 1) 0) closing_brace
brace_before s p None = true

-- the first `};` from p on stands at c, and the first `;` at q: no `;` stands before the `};` exactly where q has a `}` before it
module _ {s : List ℕ} {p c q : ℕ} (close : First closes s p c) (end : First (is semicolon) s p q) where
  closing : (get_or s c 0 ≡ closing_brace) × (get_or s (c + 1) 0 ≡ semicolon)
  closing =
      let h = both (eqb (get_or s c 0) closing_brace) (eqb (get_or s (c + 1) 0) semicolon) close.holds in
      (eqb-true (get_or s c 0) closing_brace h.0, eqb-true (get_or s (c + 1) 0) semicolon h.1)

  -- the `;` of the `};` is none before q
  not_past : c + 1 < q → ⊥
  not_past h = true≢false (sym (eq-eqb (get_or s (c + 1) 0) semicolon closing.1) ∙ end.before (c + 1) (omega (arith, close.onward)) h)

  -- nor is a `}` before q that of a `};` before c
  not_before : q ≤ c → brace_before s p (Some q) ≡ true → ⊥
  not_before h b =
      let a = both (ltb p q) (eqb (get_or s (q - 1) 0) closing_brace) b in
      let l = ltb-true p q a.0 in
      let z : q - 1 + 1 ≡ q = omega arith in
      let n = close.before (q - 1) (omega arith) (omega arith) in
      true≢false (sym (rw (z, a.1) end.holds) ∙ n)

  same_end : brace_before s p (Some q) ≡ ltb c q
  same_end = go (dec_lt c q)
    where
      go : Dec (c < q) → brace_before s p (Some q) ≡ ltb c q
      go (yes h) =
          let z : q - 1 ≡ c = omega (arith, not_past) in
          let l : p < q = omega (arith, close.onward) in
          rw (lt-ltb p q l, z, closing.0, lt-ltb c q h)
      go (no h) = fails (not_before (omega arith)) ∙ sym (le-ltb c q (omega arith))

module _ (x : Edition) (s : List ℕ) (p : ℕ) where
  module _ (h : last_close s ≤ p) where
    pub either_none : to_either x s p ≡ to_brace x s p
    unfolding to_either
    either_none = rw (last_close_none s p h)

    pub bare_none : bare_extern_end x s p ≡ to_semicolon x s p
    unfolding bare_extern_end
    bare_none = rw (last_close_none s p h)

  module _ (h : p < last_close s) where
    -- c is the first `};` from p on, and f the first `;`
    by_semicolon : (c : ℕ) → first_from closes s p ≡ Some c → (f : Option ℕ) → first_from (is semicolon) s p ≡ f
        → to_either x s p ≡ cond (brace_before s p f) (to_brace x s p) (to_semicolon x s p)
    unfolding to_either
    by_semicolon c e (Some q) g = rw (e, g, same_end (first_within e) (first_within g))
    by_semicolon c e None g = rw (e, g)

    pub either_left : (f : Option ℕ) → first_from (is semicolon) s p ≡ f → to_either x s p ≡ cond (brace_before s p f) (to_brace x s p) (to_semicolon x s p)
    either_left f g =
        let c = last_close_some s p h in
        by_semicolon c.0 c.1 f g

    pub bare_left : bare_extern_end x s p ≡ to_either x s p
    unfolding bare_extern_end
    bare_left = rw (last_close_some s p h).1
