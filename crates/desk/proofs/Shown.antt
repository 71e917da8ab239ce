-- What is answered to a question, of a book that is shown and question by question. d is the buffer that was lent for it, l what is left there, and k how many
-- bytes were put. Assumes nothing.
use Prim.Native.Nat.{ℕ, ◌+◌, ◌≤◌}
use mathlib.Core.Path.{◌≡◌, sym, ap, ◌∙◌}
use mathlib.Core.List.{List}
use mathlib.Core.Bool.{Bool, true, false, not}
use native.Mathlib.Omega.{arith}
use borrow.Author.Tests.{not-false}
use lib.ListN.{length, drop, length-drop}
use Rattle.numbers.specs.Refusals.{no_book}
use Rattle.book.specs.declared.Counts.{Counts}
use Rattle.book.specs.Books.{Book}
use Rattle.book.specs.Layout.{Buffers}
use Rattle.book.specs.View.{book_of, holds, view}
use Rattle.book.proofs.Asking.{asked-held, asked_none}
use Rattle.printing.specs.Printing.{refused_answer}
use Rattle.printing.proofs.Pieces.{Begins}
use Rattle.desk_commands.specs.declared.Question.{Question}
use Rattle.desk_commands.specs.declared.Question.TheVariants as question
use Rattle.desk_commands.specs.declared.Shown.{Shown}
use Rattle.printing_book.specs.Shown.{shown_room}
use Rattle.printing_why.specs.Whys.{why_answered}
use Rattle.desk.specs.declared.answering.Ran.{Ran}
use Rattle.desk.specs.Answers.{Tells, ran_with}
use Rattle.desk.specs.Asked.{asked}
use Rattle.desk.specs.Questions.{book_shown, of_book, question_told}

-- ---- what is shown of a book. x is whether the buffers hold one, and the code asked whether they do not
module _ (c : Counts) (b : Buffers) (x : Bool) (e : x ≡ holds c b) where
  pub held : not x ≡ false → holds c b ≡ true
  held h = sym e ∙ not-false x h

  module _ (show : Book → List ℕ) (d l : List ℕ) (k : ℕ) (r : Ran) (q : r ≡ ran_with c k true) where
    told_shown : (t : List ℕ) → of_book (view c b) show ≡ t → Begins d t l k → Tells c b (λ b w. of_book w show) d r l
    told_shown t f p = rw f (q ∙ ap (λ (n : ℕ). ran_with c n true) p.0, p.1)

    pub no_book_shown : not x ≡ true → Begins d (refused_answer no_book) l k → Tells c b (λ b w. of_book w show) d r l
    no_book_shown h p = told_shown (refused_answer no_book) (rw (asked_none c b x e h)) p

    pub some_book_shown : not x ≡ false → Begins d (show (book_of c b)) l k → Tells c b (λ b w. of_book w show) d r l
    some_book_shown h p = told_shown (show (book_of c b)) (rw (asked-held c b x e h).viewed) p

-- ---- the question q of the line t
module _ (c : Counts) (t d : List ℕ) (h : shown_room c + length t ≤ length d) where
  pub ask_room : (u : List ℕ) (at : ℕ) → u ≡ drop at t → length u + 48 ≤ length d
  unfolding shown_room
  ask_room u at i = rw i (omega (arith, length-drop at t))

  pub why-asks : (u : List ℕ) (at : ℕ) → u ≡ drop at t → length u + c.names + 128 ≤ length d
  unfolding shown_room
  why-asks u at i = rw i (omega (arith, length-drop at t))

module _ (s : List ℕ) (c : Counts) (b : Buffers) (t : List ℕ) (q : Question) (d l : List ℕ) (r : Ran) where
  pub ask_told : (at : ℕ) (u : List ℕ) → q ≡ question.Ask at → u ≡ drop at t → Tells c b (λ b w. asked c.kind w u) d r l
      → Tells c b (λ b w. question_told s c b w t q) d r l
  unfolding question_told
  ask_told at u g i p = rw (g, ← i) p

  pub why-told : (at : ℕ) (u : List ℕ) → q ≡ question.Why at → u ≡ drop at t → Tells c b (λ b w. why_answered s w u) d r l
      → Tells c b (λ b w. question_told s c b w t q) d r l
  unfolding question_told
  why-told at u g i p = rw (g, ← i) p

  pub show-told : (x : Shown) → q ≡ question.Show x → Tells c b (λ b w. of_book w (book_shown c b x)) d r l → Tells c b (λ b w. question_told s c b w t q) d r l
  unfolding question_told
  show-told x g p = rw g p
