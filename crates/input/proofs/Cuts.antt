-- The lines of a text (specs/Splitting.antt), cut off one by one at its line feeds. Assumes nothing.
use Prim.Native.Nat.{ℕ, suc, ◌+◌, ◌-◌, ◌≤◌, ◌<◌}
use mathlib.Core.Path.{◌≡◌, refl, ◌∙◌}
use mathlib.Core.List.{List, [], ◌∷◌, ◌++◌, append_assoc, append-nil}
use mathlib.Core.Bool.{Bool, true, false}
use native.Mathlib.Omega.{arith}
use lib.Dec.{eqb}
use lib.ListN.{length, take, drop, drop_of_length-le}
use lib.Seq.{drop-drop}
use Rattle.numbers.specs.Signs.{line_feed}
use Rattle.std.specs.Prelude.{Option, Some, None}
use Rattle.linker_script.specs.Finding.{first_from, first_in, found, is}
use Rattle.linker_script.proofs.Searches.{drop_next}
use Rattle.input.specs.Splitting.{last_line, lines_in}

-- the text l, which begins at the place p, behind t: its first line goes to the line feed that is found, or to the end
data Cut (t l : List ℕ) (p : ℕ) : Option ℕ → Type 0 where
  feed : (q k : ℕ) → q ≡ p + k → lines_in t l ≡ (t ++ take k l) ∷ lines_in [] (drop (suc k) l) → Cut t l p (Some q)
  end : lines_in t l ≡ last_line (t ++ l) → Cut t l p None

cut : (l t : List ℕ) (p : ℕ) → Cut t l p (first_in (is line_feed) p l)
unfolding first_in lines_in
cut [] t p = end (rw append-nil)
cut (b ∷ l) t p = go (eqb b line_feed) refl (cut l (t ++ b ∷ []) (p + 1))
  where
    on : {f : Option ℕ} → eqb b line_feed ≡ false → Cut (t ++ b ∷ []) l (p + 1) f → Cut t (b ∷ l) p f
    on e (feed q k z h) = feed q (suc k) (omega arith) (rw e (h ∙ rw append_assoc))
    on e (end h) = end (rw e (h ∙ rw append_assoc))

    go : (v : Bool) → eqb b line_feed ≡ v → Cut (t ++ b ∷ []) l (p + 1) (first_in (is line_feed) (p + 1) l)
        → Cut t (b ∷ l) p (found v p (first_in (is line_feed) (p + 1) l))
    go true e c = feed p 0 (omega arith) (rw (e, append-nil))
    go false e c = on e c

-- what the first line is, from the place `at` on, by the line feed that is found there
abbrev Rest : List ℕ → ℕ → Option ℕ → Type 0
Rest s at (Some p) = lines_in [] (drop at s) ≡ take (p - at) (drop at s) ∷ lines_in [] (drop (p + 1) s)
Rest s at None = at < length s → lines_in [] (drop at s) ≡ drop at s ∷ []

rest : (s : List ℕ) (at : ℕ) {f : Option ℕ} → Cut [] (drop at s) at f → Rest s at f
rest s at (feed q k z e) =
    let n : q - at ≡ k = omega arith in
    let m : q + 1 ≡ at + suc k = omega arith in
    e ∙ rw (n, m, drop-drop)
rest s at (end e) = λ h. e ∙ rw (drop_next s at h)

lines_rest : (s : List ℕ) (at : ℕ) → Rest s at (first_from (is line_feed) s at)
unfolding first_from
lines_rest s at = rest s at (cut (drop at s) [] at)

-- up to the line feed that is found, and the others behind it
pub lines_to_feed : (s : List ℕ) (at p : ℕ) → first_from (is line_feed) s at ≡ Some p
    → lines_in [] (drop at s) ≡ take (p - at) (drop at s) ∷ lines_in [] (drop (p + 1) s)
lines_to_feed s at p e = rw e at (lines_rest s at)

-- to the end of the text, where there is none
pub lines_to_end : (s : List ℕ) (at : ℕ) → at < length s → first_from (is line_feed) s at ≡ None → lines_in [] (drop at s) ≡ drop at s ∷ []
lines_to_end s at h e = (rw e at (lines_rest s at)) h

-- behind the last line there is none
pub no_lines_from : (s : List ℕ) (at : ℕ) → length s ≤ at → lines_in [] (drop at s) ≡ []
unfolding lines_in
no_lines_from s at h = rw (drop_of_length-le s h)
