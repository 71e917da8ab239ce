-- How a step of a reading goes on, by what the code learned: behind a skip, a byte, a word, and where the text must end. Assumes nothing.
use Prim.Native.Nat.{ℕ, ◌+◌, ◌<◌, ◌≤◌}
use mathlib.Core.Path.{◌≡◌, refl, sym, ◌∙◌}
use mathlib.Core.List.{List}
use mathlib.Core.Bool.{Bool, true, false, cond}
use native.Mathlib.Omega.{arith}
use borrow.Author.Rules.{rules}
use borrow.Author.Tests.{eq-eqb, ne_eqb}
use mir.Syntax.{w64}
use mir.Val.{Fits}
use lib.ListN.{length, get_or}
use Rattle.numbers.specs.declared.Refusal.TheVariants as no
use Rattle.std.specs.Prelude.{Result, Ok, Err}
use Rattle.linker_script.specs.Skip.{Skipped}
use Rattle.linker_script.proofs.Searches.{byte_within}
use Rattle.reading_tokens.specs.Tokens.{stands_at}
use Rattle.reading_tokens.proofs.Words.{stands-within}
use Rattle.reading_cursors.specs.declared.Cursor.{Cursor}
use Rattle.reading_cursors.specs.declared.RefusedAt.{RefusedAt}
use Rattle.reading_cursors.specs.Moves.{Step, finished, refused_at, or_unclosed, skip_at, on_skip, skipping, expecting, ending}

-- ---- behind a skip; f is what `skip_at` answers
module _ (c : Cursor) (s : List ℕ) (p : ℕ) (on : ℕ → Step) (f : Result ℕ RefusedAt) (e : f ≡ or_unclosed (skip_at c s p)) where
  pub skip-open : (o : RefusedAt) → f ≡ Err o → Err o ≡ skipping c s p on
  skip-open o k = go (skip_at c s p) (sym e ∙ k)
    where
      go : (x : Skipped) → or_unclosed x ≡ Err o → Err o ≡ on_skip x on
      go (Ok q) h = let z : ◌≡◌ {A = ℕ} 0 1 = cc in absurd (omega arith)
      go (Err q) h = let z : o ≡ record { refusal = no.Unclosed; place = q } = cc in rw z

  pub skip-goes : (q : ℕ) → f ≡ Ok q → (r : Step) → r ≡ on q → r ≡ skipping c s p on
  skip-goes q k r a = go (skip_at c s p) (sym e ∙ k)
    where
      go : (x : Skipped) → or_unclosed x ≡ Ok q → r ≡ on_skip x on
      go (Ok n) h = let z : n ≡ q = cc in rw z a
      go (Err n) h = let z : ◌≡◌ {A = ℕ} 0 1 = cc in absurd (omega arith)

-- ---- behind a byte b; x is what `byte_at` answers
module _ (s : List ℕ) (p x : ℕ) (e : x ≡ get_or s p 0) (b : ℕ) where
  module _ (on : ℕ → Step) where
    pub byte_goes : x ≡ b → (r : Step) → r ≡ on (p + 1) → r ≡ expecting b s p on
    byte_goes k r a = rw (← e, eq-eqb x b k) a

    pub byte_missing : (x ≡ b → ⊥) → (r : Step) → r ≡ refused_at no.Unreadable p → r ≡ expecting b s p on
    byte_missing k r a = rw (← e, ne_eqb x b k) a

  -- the place behind it fits
  pub byte_fits : 0 < b → x ≡ b → Fits w64 (length s) → Fits w64 (p + 1)
  byte_fits h k n = omega (arith, byte_within s p (omega arith))

-- ---- behind a word w; v is what `try_take` answers
module _ (w s : List ℕ) (p : ℕ) (v : Bool) (e : v ≡ stands_at w s p) where
  module _ (a b r : Step) where
    pub word_goes : v ≡ true → r ≡ a → r ≡ cond (stands_at w s p) a b
    word_goes k m = rw (← e, k) m

    pub word_missing : v ≡ false → r ≡ b → r ≡ cond (stands_at w s p) a b
    word_missing k m = rw (← e, k) m

  -- it lies within the text, so the places up to its end fit
  module _ (k : v ≡ true) (n : ℕ) (h : 0 < length w) (g : n ≤ p + length w) where
    pub word_within : n ≤ length s
    word_within = omega (arith, stands-within w s p h (sym e ∙ k))

    pub word_fits : Fits w64 (length s) → Fits w64 n
    word_fits f = omega (arith, word_within)

-- ---- where the text must end
module _ (s : List ℕ) (p : ℕ) where
  pub ends_here : p ≡ length s → finished ≡ ending s p
  ends_here k = rw (eq-eqb p (length s) k)

  pub bytes_remain : (p ≡ length s → ⊥) → (r : Step) → r ≡ refused_at no.Unreadable p → r ≡ ending s p
  bytes_remain k r a = rw (ne_eqb p (length s) k) a

-- for a function that answers a step: its answers, and what its calls ask
pub ruleset steps = (rules, skip-open, skip-goes, byte_goes, byte_missing, word_goes, word_missing, ends_here, bytes_remain, refl)
