-- Laws of the lines that stand (`standing`, specs/Trial.antt). Assumes nothing.
use Prim.Native.Nat.{ℕ, ◌+◌, ◌≤◌, ◌<◌}
use mathlib.Core.Path.{◌≡◌, refl, ap, ◌∙◌}
use mathlib.Core.List.{List, [], ◌∷◌, ◌++◌, append-nil}
use mathlib.Core.Bool.{Bool, true, false}
use native.Mathlib.Numerals.{add-one}
use native.Mathlib.Omega.{arith}
use lib.ListN.{length, take, length-append}
use lib.Seq.{take-suc}
use Rattle.lists.proofs.Tests.{both}
use Rattle.lists.specs.Each.{every}
use Rattle.packing.specs.Tables.{packed}
use Rattle.book.specs.Books.{Line, no_line}
use Rattle.book.specs.Edits.{line_at, stands}
use Rattle.book.specs.Layout.{line_form}
use Rattle.trial.specs.Trial.{kept_if, standing}

-- ---- the lines that stand
kept_append : (t : Bool) (x : Line) (us vs : List Line) → kept_if t x (us ++ vs) ≡ kept_if t x us ++ vs
kept_append true x us vs = refl
kept_append false x us vs = refl

-- those of two lists together are those of each
pub standing-append : (xs ys : List Line) → standing (xs ++ ys) ≡ standing xs ++ standing ys
unfolding standing
standing-append [] ys = refl
standing-append (x ∷ xs) ys = ap (kept_if (stands x) x) (standing-append xs ys) ∙ kept_append (stands x) x (standing xs) (standing ys)

module _ (xs : List Line) (i : ℕ) (h : i < length xs) where
  standing_next : standing (take (i + 1) xs) ≡ standing (take i xs) ++ kept_if (stands (line_at xs i)) (line_at xs i) []
  unfolding standing
  standing_next = rw (add-one, take-suc xs i no_line h, standing-append)

  -- one line more, that stands
  pub standing-kept : stands (line_at xs i) ≡ true → standing (take (i + 1) xs) ≡ standing (take i xs) ++ line_at xs i ∷ []
  standing-kept e = standing_next ∙ ap (λ (t : Bool). standing (take i xs) ++ kept_if t (line_at xs i) []) e

  -- one line more, that is struck
  pub standing-struck : stands (line_at xs i) ≡ false → standing (take (i + 1) xs) ≡ standing (take i xs)
  standing-struck e =
      standing_next
      ∙ ap (λ (t : Bool). standing (take i xs) ++ kept_if t (line_at xs i) []) e
      ∙ append-nil (standing (take i xs))

kept-every : (ok : Line → Bool) (t : Bool) (x : Line) (ks : List Line) → (t ≡ true → ok x ≡ true) → every ok ks ≡ true
    → every ok (kept_if t x ks) ≡ true
unfolding every
kept-every ok true x ks o w = rw (o refl) w
kept-every ok false x ks o w = w

-- each of them stands
pub standing-stand : (ls : List Line) → every stands (standing ls) ≡ true
unfolding standing every
standing-stand [] = refl
standing-stand (x ∷ ls) = kept-every stands (stands x) x (standing ls) (λ e. e) (standing-stand ls)

-- where each line is as asked, each of them is
pub standing-every : (ok : Line → Bool) (ls : List Line) → every ok ls ≡ true → every ok (standing ls) ≡ true
unfolding standing every
standing-every ok [] w = refl
standing-every ok (x ∷ ls) w =
    let h = both (ok x) (every ok ls) w in
    kept-every ok (stands x) x (standing ls) (λ e. h.0) (standing-every ok ls h.1)

-- where each line stands they are all
pub standing_same : (ls : List Line) → every stands ls ≡ true → standing ls ≡ ls
unfolding standing every
standing_same [] w = refl
standing_same (x ∷ ls) w =
    let h = both (stands x) (every stands ls) w in
    ap (λ (t : Bool). kept_if t x (standing ls)) h.0 ∙ ap (λ (ks : List Line). x ∷ ks) (standing_same ls h.1)

kept_length : (t : Bool) (x : Line) (ks : List Line) → length (kept_if t x ks) ≤ length ks + 1
kept_length true x ks = omega arith
kept_length false x ks = omega arith

-- they are no more than the lines
pub standing-length : (ls : List Line) → length (standing ls) ≤ length ls
unfolding standing
standing-length [] = omega arith
standing-length (x ∷ ls) = omega (arith, kept_length (stands x) x (standing ls), standing-length ls)

kept-bytes : (t : Bool) (x : Line) (ks : List Line) → length (packed line_form (kept_if t x ks)) ≤ length x.bytes + length (packed line_form ks)
unfolding packed line_form
kept-bytes true x ks = omega (arith, length-append x.bytes (packed line_form ks))
kept-bytes false x ks = omega arith

-- and have no more bytes
pub standing-bytes : (ls : List Line) → length (packed line_form (standing ls)) ≤ length (packed line_form ls)
unfolding standing packed line_form
standing-bytes [] = omega arith
standing-bytes (x ∷ ls) =
    omega (arith, kept-bytes (stands x) x (standing ls), standing-bytes ls, length-append x.bytes (packed line_form ls))
