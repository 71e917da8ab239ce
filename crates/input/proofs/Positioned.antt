-- The turns of `position_of`. Assumes nothing.
use Prim.Native.Nat.{ℕ, zero, suc, ◌+◌, ◌-◌, ◌<◌, ◌≤◌, min}
use mathlib.Core.Path.{◌≡◌, refl, sym, ◌∙◌}
use mathlib.Core.List.{List, [], ◌∷◌}
use native.Mathlib.Decide.{dec_le}
use native.Mathlib.Nat.{sub-zero}
use Rattle.std.proofs.Math.Nat.{min-eq_left, min-eq_right}
use native.Mathlib.Omega.{arith}
use borrow.Author.Tests.{eq-eqb, ne_eqb}
use lib.ListN.{length, get_or, take, drop}
use lib.Seq.{take_all}
use Rattle.numbers.specs.Signs.{line_feed}
use Rattle.linker_script.proofs.Searches.{drop_next}
use Rattle.input.specs.declared.positions.Position.{Position}
use Rattle.input.specs.Positions.{past, position, position_from, start}

abbrev at_place : ℕ → ℕ → Position
at_place line column = record { line = line; column = column }

-- ---- the loop over the bytes t before a place: i of them are behind, and those that are left decide
pub record Walked (t : List ℕ) (line column i : ℕ) : Type 0 where
  pub few_lines : line ≤ i + 1
  pub few_columns : column ≤ i + 1
  pub rest : position t (length t) ≡ position_from (at_place line column) (length t - i) (drop i t)

pub walk-starts : {t : List ℕ} → Walked t 1 1 0
unfolding position
walk-starts = record { few_lines = omega arith; few_columns = omega arith; rest = rw sub-zero }

module _ {t : List ℕ} {line column i : ℕ} (inv : Walked t line column i) where
  walk_ends : length t ≤ i → at_place line column ≡ position t (length t)
  unfolding position_from
  walk_ends h =
      let z : length t - i ≡ 0 = omega arith in
      sym (inv.rest ∙ rw z)

  module _ (h : i < length t) where
    step : position t (length t) ≡ position_from (past (at_place line column) (get_or t i 0)) (length t - (i + 1)) (drop (i + 1) t)
    unfolding position_from
    step =
        let z : length t - i ≡ suc (length t - (i + 1)) = omega arith in
        inv.rest ∙ rw (z, drop_next t i h)

    pub walk-line : get_or t i 0 ≡ line_feed → Walked t (line + 1) 1 (i + 1)
    walk-line e = record {
      few_lines = omega (arith, inv.few_lines);
      few_columns = omega arith;
      rest = step ∙ rw (eq-eqb (get_or t i 0) line_feed e);
    }

    pub walk_on : (get_or t i 0 ≡ line_feed → ⊥) → Walked t line (column + 1) (i + 1)
    walk_on e = record {
      few_lines = omega (arith, inv.few_lines);
      few_columns = omega (arith, inv.few_columns);
      rest = step ∙ rw (ne_eqb (get_or t i 0) line_feed e);
    }

-- ---- what stands behind the place doesn't count, and there is nothing behind the text
cut : (q : Position) (s : List ℕ) (p : ℕ) → position_from q (length (take p s)) (take p s) ≡ position_from q p s
unfolding position_from
cut q s zero = refl
cut q [] (suc p) = refl
cut q (b ∷ s) (suc p) = cut (past q b) s p

within : (q : Position) (s : List ℕ) (p : ℕ) → position_from q (min p (length s)) s ≡ position_from q p s
unfolding position_from
within q s p = go (dec_le p (length s))
  where
    go : Dec (p ≤ length s) → position_from q (min p (length s)) s ≡ position_from q p s
    go (yes h) = rw (min-eq_left h) refl
    go (no h) =
        let k : length s ≤ p = omega arith in
        rw (min-eq_right k) (rw (take_all p s k) at (cut q s p))

pub walk_arrives : (s : List ℕ) (place n : ℕ) {line column i : ℕ} → n ≡ min place (length s) → Walked (take n s) line column i → length (take n s) ≤ i
    → at_place line column ≡ position s place
unfolding position
walk_arrives s place n e inv h = walk_ends inv h ∙ cut start s n ∙ rw e (within start s place)
