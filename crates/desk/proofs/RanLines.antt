-- What the release desk answers to a line of its input: command by command, and where there is no room. d is the buffer that was lent for it, l what is left
-- there, and k how many bytes were put. Assumes nothing.
use Prim.Native.Nat.{ℕ, ◌+◌, ◌-◌, ◌<◌, ◌≤◌}
use mathlib.Core.Path.{◌≡◌, refl, sym, ap}
use mathlib.Core.List.{List, [], ◌∷◌}
use mathlib.Core.Bool.{Bool, true, false}
use native.Mathlib.Omega.{arith}
use borrow.Author.Tests.{leb-false, leb-true, le-leb, lt-leb}
use lib.Dec.{leb}
use lib.ListN.{length}
use Rattle.std.specs.Prelude.{Option, Some, None}
use Rattle.numbers.specs.Signs.{line_feed, question}
use Rattle.lists.specs.Front.{front}
use Rattle.book.specs.declared.Counts.{Counts}
use Rattle.book.specs.Layout.{Buffers}
use Rattle.printing.proofs.Pieces.{Begins, Puts, begins}
use Rattle.desk_commands.specs.declared.Command.{Command}
use Rattle.desk_commands.specs.declared.Command.TheVariants as command
use Rattle.desk_commands.specs.declared.Edit.{Edit}
use Rattle.desk_commands.specs.declared.Question.{Question}
use Rattle.desk_commands.specs.Commands.{command_of}
use Rattle.printing.specs.Printing.{answer_room}
use Rattle.printing_book.specs.Shown.{shown_room}
use Rattle.desk.specs.declared.answering.Ran.{Ran}
use Rattle.desk.specs.Answers.{Runs, Tells}
use Rattle.desk.specs.Edits.{edit_step}
use Rattle.desk.specs.Questions.{question_step, question_told}
use Rattle.desk.specs.Desk.{RunsLine, has_room, line_leaves, line_printed, line_ran, line_step, not_run, step}

-- ---- what is no command
abbrev pub untold : Counts → ℕ → Ran
untold c k = record { counts = c; length = k; known = false; refusal = 0 }

pub unknown-told : (c : Counts) (d l : List ℕ) (k : ℕ) → Puts d 0 (63 ∷ 10 ∷ []) l k
    → (untold c k ≡ untold c 2) × (l ≡ front (question ∷ line_feed ∷ []) d)
unknown-told c d l k p =
    let q : Begins d (question ∷ line_feed ∷ []) l k = begins d (question ∷ line_feed ∷ []) p in
    (ap (λ (n : ℕ). untold c n) q.0, q.1)

-- ---- whether there is room for n more
module _ (n room shown out : ℕ) (e : room ≡ shown) where
  pub room_lacks : out < room → false ≡ leb (shown + n) out
  room_lacks h = sym (lt-leb (shown + n) out (omega arith))

  pub room_left : room ≤ out → leb n (out - room) ≡ leb (shown + n) out
  room_left h = by (leb n (out - room)) refl
    where
      by : (x : Bool) → leb n (out - room) ≡ x → x ≡ leb (shown + n) out
      by true f = sym (le-leb (shown + n) out (omega (arith, leb-true n (out - room) f)))
      by false f = sym (lt-leb (shown + n) out (omega (arith, leb-false n (out - room) f)))

-- room for what is shown is room for an answer
pub shown_suffices : (c : Counts) (n : ℕ) → shown_room c ≤ n → answer_room ≤ n
unfolding shown_room
shown_suffices c n h = omega arith

-- ---- the line t, for which there is no room
pub not_answered : (s : List ℕ) (c : Counts) (b : Buffers) (t d : List ℕ) → length d < shown_room c + length t → RunsLine s c b t d (not_run c) d b
unfolding line_ran line_printed line_leaves has_room
not_answered s c b t d h = rw (lt-leb (shown_room c + length t) (length d) h) (refl, refl, refl)

-- and for which there is: r is answered, l is left of d, and b' of the buffers b
module _ (s : List ℕ) (c : Counts) (t d : List ℕ) (h : shown_room c + length t ≤ length d) (b : Buffers) (m : Option Command) (f : m ≡ command_of t) (l : List ℕ) (r : Ran)
    (b' : Buffers) where
  answered : Runs c b (λ b w. step s c b w t m) d r l b' → RunsLine s c b t d r l b'
  unfolding line_ran line_printed line_leaves has_room line_step
  answered p = rw (le-leb (shown_room c + length t) (length d) h, ← f) p

  pub edit_answered : (v : Edit) → m ≡ Some (command.Edits v) → Runs c b (λ b w. edit_step c b w t v) d r l b' → RunsLine s c b t d r l b'
  unfolding step
  edit_answered v g p = answered (rw g p)

  pub question-answered : (q : Question) → m ≡ Some (command.Asks q) → Tells c b (λ b w. question_told s c b w t q) d r l → b' ≡ b → RunsLine s c b t d r l b'
  unfolding step question_step
  question-answered q g p i = answered (rw g (p.0, p.1, i))

  pub unknown-answered : m ≡ None → (r ≡ untold c 2) × (l ≡ front (question ∷ line_feed ∷ []) d) → b' ≡ b → RunsLine s c b t d r l b'
  unfolding step
  unknown-answered g p i = answered (rw g (p.0, p.1, i))
