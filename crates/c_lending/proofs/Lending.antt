-- What is lent and handed back (src/lib.rt): six numbers that are counts, and a number into the first place of a buffer. Assumes nothing.
use Prim.Native.Nat.{ℕ}
use mathlib.Core.Path.{◌≡◌, refl, ap, ◌∙◌}
use mathlib.Core.List.{List, [], ◌∷◌}
use mathlib.Core.Bool.{Bool, true, false, cond}
use Rattle.std.specs.Prelude.{Option, None}
use native.Mathlib.Omega.{arith}
use borrow.Author.Tests.{eq-eqb, ne_eqb}
use lib.ListN.{length, set}
use Rattle.numbers.specs.Refusals.{no_room}
use Rattle.book.specs.declared.Counts.{Counts}
use Rattle.book.specs.Layout.{Buffers}
use Rattle.book.specs.Books.{Book}
use Rattle.book.specs.View.{view, holds, laid, within_limits}
use Rattle.c_lending.specs.Calls.{Replies, RepliesWith, counts_put, counts_row, lent, lent_counts, unheld_counts, number_told, numbers_left, numbers_told, row_counts, six, value_left}

-- six numbers, each of them written
pub six_written : (l : List ℕ) (c : Counts) → length l ≡ 6
    → set (set (set (set (set (set l 0 c.kind) 1 c.nodes) 2 c.names) 3 c.lines) 4 c.pool) 5 c.edits ≡ counts_row c
six_written [] c h = absurd (omega arith)
six_written (x₀ ∷ []) c h = absurd (omega arith)
six_written (x₀ ∷ x₁ ∷ []) c h = absurd (omega arith)
six_written (x₀ ∷ x₁ ∷ x₂ ∷ []) c h = absurd (omega arith)
six_written (x₀ ∷ x₁ ∷ x₂ ∷ x₃ ∷ []) c h = absurd (omega arith)
six_written (x₀ ∷ x₁ ∷ x₂ ∷ x₃ ∷ x₄ ∷ []) c h = absurd (omega arith)
six_written (x₀ ∷ x₁ ∷ x₂ ∷ x₃ ∷ x₄ ∷ x₅ ∷ []) c h = refl
six_written (x₀ ∷ x₁ ∷ x₂ ∷ x₃ ∷ x₄ ∷ x₅ ∷ x₆ ∷ l) c h = absurd (omega arith)

-- ---- the counts of a lent book: the exits of `counts_of`
module _ (l : List ℕ) where
  pub six_counts : length l ≡ 6 → row_counts l ≡ lent_counts l
  six_counts h = rw (eq-eqb (length l) 6 h)

  pub other_counts : (length l ≡ 6 → ⊥) → unheld_counts ≡ lent_counts l
  other_counts h = rw (ne_eqb (length l) 6 h)

  -- and of `put_counts`
  module _ (c : Counts) where
    pub six_put : length l ≡ 6
        → set (set (set (set (set (set l 0 c.kind) 1 c.nodes) 2 c.names) 3 c.lines) 4 c.pool) 5 c.edits ≡ counts_put l c
    six_put h = rw (eq-eqb (length l) 6 h) (six_written l c h)

    pub other_put : (length l ≡ 6 → ⊥) → l ≡ counts_put l c
    other_put h = rw (ne_eqb (length l) 6 h)

  -- a book is what they tell of the buffers
  pub lent-viewed : (b : Buffers) (c : Counts) → c ≡ lent_counts l → view c b ≡ lent l b
  unfolding lent view holds laid within_limits
  lent-viewed b c e = rw e (go (six l))
    where
      go : (t : Bool) → view (cond t (row_counts l) unheld_counts) b ≡ cond t (view (row_counts l) b) None
      go true = refl
      go false = refl

-- ---- a question asked of what is lent: r is answered, and out' left
pub asked-lent : {A : Type 0} (refusal value : A → ℕ) (ask : Option Book → A) (l : List ℕ) (b : Buffers) (out : List ℕ) (c : Counts) → c ≡ lent_counts l
    → (x : A) → x ≡ ask (view c b) → (r : ℕ) (out' : List ℕ) → Replies refusal value x out r out' → Replies refusal value (ask (lent l b)) out r out'
asked-lent refusal value ask l b out c e x a r out' t =
    let q : x ≡ ask (lent l b) = a ∙ ap ask (lent-viewed l b c e) in
    rw q at t

-- the same of one that is answered with several numbers
pub asked_lent_with : {A : Type 0} (refusal : A → ℕ) (values : A → List ℕ) (ask : Option Book → A) (l : List ℕ) (b : Buffers) (out : List ℕ) (c : Counts)
    → c ≡ lent_counts l → (x : A) → x ≡ ask (view c b) → (r : ℕ) (out' : List ℕ) → RepliesWith refusal values x out r out'
    → RepliesWith refusal values (ask (lent l b)) out r out'
asked_lent_with refusal values ask l b out c e x a r out' t =
    let q : x ≡ ask (lent l b) = a ∙ ap ask (lent-viewed l b c e) in
    rw q at t

-- ---- a number handed back: the exits of `answer`
module _ (n v : ℕ) (out : List ℕ) where
  pub answer-refused : (n ≡ 0 → ⊥) → (n ≡ number_told n out) × (out ≡ value_left n v out)
  unfolding number_told value_left
  answer-refused h = (rw (ne_eqb n 0 h), rw (ne_eqb n 0 h))

  nowhere : (l : List ℕ) → length l ≡ 0 → l ≡ set l 0 v
  nowhere [] h = refl
  nowhere (x ∷ l) h = absurd (omega arith)

  pub answer_roomless : n ≡ 0 → length out ≡ 0 → (no_room ≡ number_told n out) × (out ≡ value_left n v out)
  unfolding number_told value_left
  answer_roomless h k = (rw (eq-eqb n 0 h, eq-eqb (length out) 0 k), rw (eq-eqb n 0 h) (nowhere out k))

  pub answer-given : n ≡ 0 → (length out ≡ 0 → ⊥) → (0 ≡ number_told n out) × (set out 0 v ≡ value_left n v out)
  unfolding number_told value_left
  answer-given h k = (rw (eq-eqb n 0 h, ne_eqb (length out) 0 k), rw (eq-eqb n 0 h))

-- ---- an answer a, case by case (y), told
pub tells : {A : Type 0} (refusal value : A → ℕ) (a y : A) (out : List ℕ) (r : ℕ) (out' : List ℕ) → a ≡ y
    → (r ≡ number_told (refusal y) out) × (out' ≡ value_left (refusal y) (value y) out) → Replies refusal value a out r out'
unfolding Replies
tells refusal value a y out r out' e t = rw e t

pub tells_with : {A : Type 0} (refusal : A → ℕ) (values : A → List ℕ) (a y : A) (out : List ℕ) (r : ℕ) (out' : List ℕ) → a ≡ y
    → (r ≡ numbers_told (refusal y) (values y) out) × (out' ≡ numbers_left (refusal y) (values y) out) → RepliesWith refusal values a out r out'
unfolding RepliesWith
tells_with refusal values a y out r out' e t = rw e t
