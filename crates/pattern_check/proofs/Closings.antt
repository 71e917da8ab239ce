-- Where a bracket of a pattern's bytes closes, or one of a token's, as `closing_of` finds it: behind the mark, what stands between and the `]`.
-- Assumes nothing.
use Prim.Native.Nat.{ℕ, ◌+◌, ◌<◌, ◌≤◌}
use mathlib.Core.Path.{◌≡◌, refl, sym, ◌∙◌}
use mathlib.Core.List.{List, [], ◌∷◌}
use mathlib.Core.Bool.{Bool, true, false, cond, ◌&&◌, ◌||◌}
use native.Mathlib.Decide.{dec_lt}
use native.Mathlib.Nat.{add_assoc}
use native.Mathlib.Omega.{arith}
use borrow.Author.Tests.{lt-ltb, le-ltb, ne_eqb}
use mir.Syntax.{w64}
use mir.Val.{Fits}
use lib.ListN.{length, drop, length-drop}
use lib.Seq.{drop-drop}
use lib.Dec.{eqb, ltb}
use Rattle.utf8.specs.Utf8.{read, chars}
use Rattle.utf8.proofs.Walk.{chars-nil, chars-cons, chars_cons_ascii}
use Rattle.utf8.proofs.Ascii.{read-high}
use Rattle.numbers.specs.declared.Edition.{Edition}
use Rattle.std.specs.Prelude.{Some, None}
use Rattle.pattern.specs.Patterns.{between, opened}
use Rattle.pattern.specs.Post.{mark_as}
use Rattle.pattern_check.specs.Post.{chars_as, ClosingOk}
use Rattle.pattern.proofs.Bytes.{behind_chars, closed-chars}
use Rattle.pattern.proofs.BracketExits.{mark-few, between-few}
use Rattle.pattern_check.proofs.Negations.{behind_mark, closed, behind, token_good, token_behind}

-- ---- the mark, which is ASCII
mark-high : (token : Bool) (c : ℕ) → 128 ≤ c → (eqb c 33 || token && eqb c 94) ≡ false
mark-high false c h = rw (ne_eqb c 33 (omega arith))
mark-high true c h = rw (ne_eqb c 33 (omega arith), ne_eqb c 94 (omega arith))

mark-chars : (token : Bool) (s : List ℕ) → behind_mark token (chars s) ≡ chars (behind_mark token s)
mark-chars token [] = rw chars-nil
mark-chars token (a ∷ s) = go (dec_lt a 128)
  where
    ascii : a < 128 → (t : Bool) → drop (cond t 1 0) (a ∷ chars s) ≡ chars (drop (cond t 1 0) (a ∷ s))
    ascii h true = refl
    ascii h false = sym (chars_cons_ascii a s h)

    go : Dec (a < 128) → behind_mark token (chars (a ∷ s)) ≡ chars (behind_mark token (a ∷ s))
    go (yes h) = rw (chars_cons_ascii a s h) (ascii h (eqb a 33 || token && eqb a 94))
    go (no n) = rw (mark-high token a (omega arith), chars-cons, mark-high token (read a s).what (read-high a s (omega arith)))

-- ---- the bracket
module _ (e : Edition) (token : Bool) (s : List ℕ) where
  bytes_good : (opened e (chars_as token true (chars s))).good ≡ closed e (behind_mark token s)
  bytes_good = token_good e token (chars s) ∙ rw (mark-chars, closed-chars)

  bytes_behind : drop (opened e (chars_as token true (chars s))).more (chars_as token true (chars s))
      ≡ chars_as token false (chars (behind e (behind_mark token s)))
  bytes_behind = token_behind e token (chars s) ∙ rw (mark-chars, behind_chars)

-- ---- `closing_of`: the mark at a place takes m bytes, and what stands between x
module _ (p : List ℕ) (at m : ℕ) (token : Bool) (k : m ≡ mark_as token (drop at p)) where
  within : at ≤ length p → at + m ≤ length p
  within h = omega (arith, mark-few token (drop at p), length-drop at p)

  pub mark-fits : at ≤ length p → Fits w64 (length p) → Fits w64 (at + m)
  mark-fits h f = omega (arith, within h)

  module _ (e : Edition) (x : ℕ) (l : x ≡ length (between e (drop (at + m) p))) where
    pub end_fits : at ≤ length p → Fits w64 (length p) → Fits w64 (at + m + x)
    end_fits h f = omega (arith, within h, between-few e (drop (at + m) p), length-drop (at + m) p)

    good_at : (opened e (chars_as token true (chars (drop at p)))).good ≡ ltb x (length (drop (at + m) p))
    good_at = bytes_good e token (drop at p) ∙ rw (← k, drop-drop, ← l)

    behind_at : drop (opened e (chars_as token true (chars (drop at p)))).more (chars_as token true (chars (drop at p)))
        ≡ chars_as token false (chars (drop (at + m + x + 1) p))
    behind_at = bytes_behind e token (drop at p) ∙ rw (← k, drop-drop m at p, ← l, drop-drop, add_assoc (at + m) x 1)

    pub stays_open : length p ≤ at + m + x → ClosingOk e p at token None
    stays_open h = good_at ∙ le-ltb x (length (drop (at + m) p)) (rw length-drop (omega arith))

    pub closes : at + m + x < length p → ClosingOk e p at token (Some (at + m + x + 1))
    closes h =
        record {
          onward = omega arith;
          good = good_at ∙ lt-ltb x (length (drop (at + m) p)) (rw length-drop (omega arith));
          behind = behind_at;
        }
