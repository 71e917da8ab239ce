-- What `add_event` answers, event by event: a line is appended, and anything else leaves the book as it is. Assumes nothing.
use Prim.Native.Nat.{ℕ, ◌+◌, ◌-◌, ◌≤◌}
use mathlib.Core.Path.{◌≡◌, refl}
use mathlib.Core.List.{List}
use native.Mathlib.Omega.{arith}
use lib.ListN.{length, take, drop}
use Rattle.numbers.specs.Marks.{cxx, global}
use Rattle.reading_cursors.specs.declared.Event.{Event}
use Rattle.reading_cursors.specs.declared.Event.TheVariants.{Line}
use Rattle.book.specs.declared.Counts.{Counts}
use Rattle.book.specs.Layout.{Buffers}
use Rattle.book.specs.View.{book_of}
use Rattle.book.proofs.Views.{Layout}
use Rattle.book_building.specs.Events.{Lies}
use Rattle.std.specs.Prelude.{Result, Ok}
use Rattle.trial.specs.Changes.{Makes, to}
use Rattle.trial.specs.Trial.{append}
use Rattle.trial.specs.Symbols.{add_event}
use Rattle.trial.proofs.Answers.{layout_answers}

-- x is no line
pub unchanged : {c : Counts} {b : Buffers} → Layout c b (book_of c b) → (s : List ℕ) {e x : Event} → e ≡ x → add_event b s (book_of c b) x ≡ to (book_of c b)
    → Makes c b (λ b w. add_event b s w e) (Ok c) b
unchanged {c} {b} t s z q =
    layout_answers c b b (book_of c b) _ (rw z q) t (record { nodes = refl; names = refl; lines = refl; pool = refl; journal = refl })

-- ---- a line
module _ {e : Event} {section language p k : ℕ} (z : e ≡ Line section language p k) (s : List ℕ) where
  module _ (l : Lies s e) where
    pub line-lies : p + k ≤ length s
    line-lies = (rw z at l).2

    pub line-language : language ≤ cxx
    line-language = (rw z at l).1

  pub adds-line : (c : Counts) (b : Buffers) (r : Result Counts ℕ) (b' : Buffers) → Makes c b (λ b w. append b w 0 global language (take (p + k - p) (drop p s))) r b'
      → Makes c b (λ b w. add_event b s w e) r b'
  unfolding add_event
  adds-line c b r b' h = let w : p + k - p ≡ k = omega arith in rw z (rw w at h)
