-- The line of the counts, by what is counted: the exits of `render_counts`. Assumes nothing.
use Prim.Native.Nat.{ℕ}
use mathlib.Core.Path.{◌≡◌}
use mathlib.Core.List.{List}
use Rattle.std.specs.Prelude.{Option, Result, Ok, Err}
use Rattle.numbers.specs.declared.Refusal.{Refusal}
use Rattle.numbers.specs.Saying.{number}
use Rattle.book.specs.Books.{Book}
use Rattle.counting.specs.Questions.{counted, parent_count, version_count}
use Rattle.printing.specs.Printing.{Begins, refused_line}
use Rattle.printing_symbols.specs.Lines.{counts_answered, counts_line}

module _ (d : List ℕ) {l : List ℕ} {r : ℕ} (w : Option Book) {x : Result ℕ Refusal} (e : x ≡ counted version_count w) where
  pub first_refused : {z : Refusal} → x ≡ Err z → Begins d (refused_line (number z)) l r → Begins d (counts_answered w) l r
  unfolding counts_answered counts_line
  first_refused f p = rw (← e, f) p

  module _ {n : ℕ} (f : x ≡ Ok n) {y : Result ℕ Refusal} (g : y ≡ counted parent_count w) where
    pub second-refused : {z : Refusal} → y ≡ Err z → Begins d (refused_line (number z)) l r → Begins d (counts_answered w) l r
    unfolding counts_answered counts_line
    second-refused h p = rw (← e, f, ← g, h) p

    pub both-counted : {m : ℕ} → y ≡ Ok m → Begins d (counts_line (Ok n) (Ok m)) l r → Begins d (counts_answered w) l r
    unfolding counts_answered
    both-counted h p = rw (← e, f, ← g, h) p
