-- Making each `[^` into `[!` and reading characters commute: the characters of the changed bytes are the token's characters, changed, and the bytes are UTF-8
-- where the token is. A byte that changes is ASCII, before and after, so no longer character does. Of runs of stars pattern/proofs/Runs.antt says the same, so
-- what is refused of a token is asked of its characters with each `[^` as `[!`.
-- Assumes nothing.
use Prim.Native.Nat.{ℕ, ◌<◌, ◌≤◌}
use mathlib.Core.Path.{◌≡◌, refl}
use mathlib.Core.List.{List, [], ◌∷◌}
use mathlib.Core.Bool.{Bool, true, false, cond}
use native.Mathlib.Omega.{arith}
use borrow.Author.Tests.{ne_eqb}
use lib.Dec.{eqb}
use Rattle.utf8.specs.Utf8.{chars, utf8}
use Rattle.utf8.proofs.Changes.{Change, changed, AsciiOnly, chars-changed, utf8-changed}
use Rattle.std.specs.Prelude.{Err}
use Rattle.numbers.specs.declared.Edition.{Edition}
use Rattle.numbers.specs.declared.Refusal.TheVariants as no
use Rattle.pattern.specs.Patterns.{refusal, shape_refusal}
use Rattle.pattern.specs.Storing.{stored_byte, negated_from, negated, stored, read_as}
use Rattle.pattern.proofs.Runs.{chars-squeezed, sound-squeezed, utf8-squeezed}
use Rattle.pattern_check.specs.Post.{chars_as}

-- ---- the change: nothing is dropped, and a place says whether a `[` stands just before
unfoldable negation : Change Bool
negation = record { next = λ b c. eqb c 91; drops = λ b c. false; puts = stored_byte }

byte_high : (b : Bool) (c : ℕ) → 128 ≤ c → stored_byte b c ≡ c
unfolding stored_byte
byte_high true c h = rw (ne_eqb c 94 (omega arith))
byte_high false c h = refl

byte_low : (b : Bool) (c : ℕ) → c < 128 → stored_byte b c < 128
unfolding stored_byte
byte_low false c h = h
byte_low true c h = go (eqb c 94)
  where
    go : (t : Bool) → cond t 33 c < 128
    go true = omega arith
    go false = h

negation_ascii : AsciiOnly negation
unfolding negation
negation_ascii = record {
  low = byte_low;
  high = byte_high;
  kept = λ b c h. refl;
  alike = λ b c d h k. rw (ne_eqb c 91 (omega arith), ne_eqb d 91 (omega arith));
  steady = λ b c d h k. rw (ne_eqb c 91 (omega arith), ne_eqb d 91 (omega arith));
  held = λ b c d h. refl;
}

negated-changed : (b : Bool) (s : List ℕ) → negated_from b s ≡ changed negation b s
unfolding negated_from changed negation
negated-changed b [] = refl
negated-changed b (c ∷ s) = rw (negated-changed (eqb c 91) s)

module _ (b : Bool) (s : List ℕ) where
  pub chars-stored : chars (negated_from b s) ≡ negated_from b (chars s)
  chars-stored = rw (negated-changed b s, negated-changed b (chars s)) (chars-changed negation_ascii b s)

  pub utf8-stored : utf8 (negated_from b s) ≡ utf8 s
  utf8-stored = rw (negated-changed b s) (utf8-changed negation_ascii b s)

-- ---- what is refused of a token that is still to be stored, and of what is stored: runs of stars do not matter
pub refusal-read : (e : Edition) (token : Bool) (p : List ℕ) → refusal e (read_as e token p) ≡ cond (utf8 p) (shape_refusal e (chars_as token false (chars p))) (Err no.GlobNotUtf8)
unfolding refusal stored negated
refusal-read e true p = rw (utf8-squeezed, chars-squeezed, sound-squeezed, chars-stored, utf8-stored)
refusal-read e false p = refl
