-- What a command of the release desk prints and leaves, and what is answered when it has run. Assumes nothing.
use Rattle.std.specs.Prelude.{ℕ, ◌≡◌, List, Bool, true, length, Option, Result, Ok, Err}
use Rattle.lists.specs.Front.{front}
use Rattle.book.specs.declared.Counts.{Counts}
use Rattle.book.specs.Books.{Book}
use Rattle.book.specs.Layout.{Buffers}
use Rattle.book.specs.View.{view}
use Rattle.trial.specs.Changes.{Change, after, counts_after, edited}
use Rattle.desk.specs.declared.answering.Ran.{Ran}

-- ---- a command: what is printed, the counts and the buffers behind it, and whether it is a command at all
pub record Step : Type 0 where
  pub printed : List ℕ
  pub counts : Counts
  pub left : Buffers
  pub known : Bool

-- an edit x, and what is said of its answer
abbrev pub editing : Counts → Buffers → (Result Counts ℕ → List ℕ) → Change → Step
editing c b say x = record { printed = say (edited x); counts = counts_after c x; left = after b x; known = true }

-- nothing is changed
abbrev pub telling : Counts → Buffers → List ℕ → Step
telling c b t = record { printed = t; counts = c; left = b; known = true }

-- ---- what is answered when a command has run: the counts behind it, how many bytes were printed, and whether it is a command
abbrev pub ran_with : Counts → ℕ → Bool → Ran
ran_with c n known = record { counts = c; length = n; known = known; refusal = 0 }

abbrev pub ran : Step → Ran
ran s = ran_with s.counts (length s.printed) s.known

-- the same of an edit's answer, with the counts c before it
abbrev pub edit_ran : Counts → (Result Counts ℕ → List ℕ) → Result Counts ℕ → Ran
edit_ran c say (Ok d) = ran_with d (length (say (Ok d))) true
edit_ran c say (Err n) = ran_with c (length (say (Err n))) true

-- what an edit answered (a) is told by `say`, with the counts c before it: n is answered, and the text stands at the front of d, which is l then
abbrev pub Finishes : Counts → (Result Counts ℕ → List ℕ) → Result Counts ℕ → List ℕ → List ℕ → Ran → Type 0
Finishes c say a d l n = (n ≡ edit_ran c say a) × (l ≡ front (say a) d)

-- the command `does` has run on the buffers b and the book that they hold with the counts c: r is answered, what it prints stands at the front of `out`, and
-- the buffers are as it leaves them
abbrev pub Runs : Counts → Buffers → (Buffers → Option Book → Step) → List ℕ → Ran → List ℕ → Buffers → Type 0
Runs c b does out r out' b' = (r ≡ ran (does b (view c b))) × (out' ≡ front (does b (view c b)).printed out) × (b' ≡ (does b (view c b)).left)

-- the same of a question, which prints what `tells` says and leaves the buffers as they are
abbrev pub Tells : Counts → Buffers → (Buffers → Option Book → List ℕ) → List ℕ → Ran → List ℕ → Type 0
Tells c b tells out r out' = (r ≡ ran_with c (length (tells b (view c b))) true) × (out' ≡ front (tells b (view c b)) out)
