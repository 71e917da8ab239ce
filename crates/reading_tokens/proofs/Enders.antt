-- Where a token ends, exit by exit; f is what `find` answers. Assumes nothing.
use Prim.Native.Nat.{ℕ, ◌-◌, ◌<◌, ◌≤◌}
use mathlib.Core.Path.{◌≡◌, sym, ◌∙◌}
use mathlib.Core.List.{List}
use mathlib.Core.Bool.{cond}
use native.Mathlib.Omega.{arith}
use borrow.Author.Tests.{eq-eqb, ne_eqb, lt-ltb, le-ltb}
use lib.ListN.{length, get_or}
use Rattle.numbers.specs.declared.Edition.{Edition}
use Rattle.numbers.specs.declared.Refusal.TheVariants as no
use Rattle.numbers.specs.Signs.{closing_brace, semicolon}
use Rattle.std.specs.Prelude.{Option, Some, None, Ok, Err}
use Rattle.std.specs.Option.{unwrap_or}
use Rattle.linker_script.specs.Finding.{first_from, is, last_close}
use Rattle.reading_tokens.specs.Tokens.{TokenEnd, to_semicolon, to_brace, to_either, bare_extern_end, bare_end, bare_skip}
use Rattle.reading_tokens.proofs.Ends.{brace_before, either_none, either_left, bare_none, bare_left}

module _ (x : Edition) (s : List ℕ) (p : ℕ) (f : Option ℕ) where
  -- ---- up to the first `;`
  module _ (e : f ≡ first_from (is semicolon) s p) where
    pub semicolon-missing : f ≡ None → Err no.Unreadable ≡ to_semicolon x s p
    unfolding to_semicolon
    semicolon-missing k = rw (← e, k)

    module _ (q : ℕ) (k : f ≡ Some q) where
      pub semicolon_behind : p < q → Ok q ≡ to_semicolon x s p
      unfolding to_semicolon
      semicolon_behind h = rw (← e, k, lt-ltb p q h)

      pub semicolon_at_once : q ≤ p → Err no.Unreadable ≡ to_semicolon x s p
      unfolding to_semicolon
      semicolon_at_once h = rw (← e, k, le-ltb p q h)

  -- ---- up to the first `}`
  module _ (e : f ≡ first_from (is closing_brace) s p) where
    pub brace-missing : f ≡ None → Err no.Unclosed ≡ to_brace x s p
    unfolding to_brace
    brace-missing k = rw (← e, k)

    module _ (q : ℕ) (k : f ≡ Some q) where
      pub brace_behind : p < q → Ok q ≡ to_brace x s p
      unfolding to_brace
      brace_behind h = rw (← e, k, lt-ltb p q h)

      pub brace_at_once : q ≤ p → Err no.Unreadable ≡ to_brace x s p
      unfolding to_brace
      brace_at_once h = rw (← e, k, le-ltb p q h)

-- ---- in an extern block, where `last` is that of the text; r is what the function called last answers
module _ (x : Edition) (last : ℕ) (s : List ℕ) (p : ℕ) (l : last ≡ last_close s) where
  module _ (h : last ≤ p) (r : TokenEnd) where
    pub extern-none_left : r ≡ to_brace x s p → r ≡ to_either x s p
    extern-none_left a = a ∙ sym (either_none x s p (omega arith))

    pub bare-none_left : r ≡ to_semicolon x s p → r ≡ bare_extern_end x s p
    bare-none_left a = a ∙ sym (bare_none x s p (omega arith))

  module _ (h : p < last) where
    pub bare_some_left : (r : TokenEnd) → r ≡ to_either x s p → r ≡ bare_extern_end x s p
    bare_some_left r a = a ∙ sym (bare_left x s p (omega arith))

    module _ (f : Option ℕ) (e : f ≡ first_from (is semicolon) s p) where
      pub extern-no_semicolon : f ≡ None → (r : TokenEnd) → r ≡ to_brace x s p → r ≡ to_either x s p
      extern-no_semicolon k r a = a ∙ sym (either_left x s p (omega arith) None (sym e ∙ k))

      module _ (q : ℕ) (k : f ≡ Some q) where
        asked : to_either x s p ≡ cond (brace_before s p (Some q)) (to_brace x s p) (to_semicolon x s p)
        asked = either_left x s p (omega arith) (Some q) (sym e ∙ k)

        pub extern_at-once : q ≤ p → Err no.Unreadable ≡ to_either x s p
        extern_at-once g = semicolon_at_once x s p f e q k g ∙ sym (asked ∙ rw (le-ltb p q g))

        module _ (g : p < q) (b : ℕ) (m : b ≡ get_or s (q - 1) 0) where
          pub extern-closed : b ≡ closing_brace → (r : TokenEnd) → r ≡ to_brace x s p → r ≡ to_either x s p
          extern-closed n r a = a ∙ sym (asked ∙ rw (lt-ltb p q g, ← m, eq-eqb b closing_brace n))

          pub extern-apart : (b ≡ closing_brace → ⊥) → Ok q ≡ to_either x s p
          extern-apart n = semicolon_behind x s p f e q k g ∙ sym (asked ∙ rw (lt-ltb p q g, ← m, ne_eqb b closing_brace n))

-- ---- a whole text without semicolon
module _ (x : Edition) (s : List ℕ) (f : Option ℕ) (e : f ≡ first_from (is closing_brace) s 0) where
  pub bare_all : f ≡ None → Ok (length s) ≡ bare_end x s
  unfolding bare_end
  bare_all k = rw (← e, k)

  module _ (q : ℕ) (k : f ≡ Some q) where
    pub bare-to_brace : (q ≡ 0 → ⊥) → Ok q ≡ bare_end x s
    unfolding bare_end
    bare-to_brace h = rw (← e, k, lt-ltb 0 q (omega (arith, h)))

    pub bare_at_once : q ≡ 0 → Err no.Unreadable ≡ bare_end x s
    unfolding bare_end
    bare_at_once h = rw (← e, k, h)

-- where the skip behind it starts
pub skip-from : (x : Edition) (s : List ℕ) (f : Option ℕ) → f ≡ first_from (is closing_brace) s 0 → unwrap_or f 0 ≡ bare_skip x s
unfolding bare_skip
skip-from x s (Some q) e = rw (← e)
skip-from x s None e = rw (← e)
