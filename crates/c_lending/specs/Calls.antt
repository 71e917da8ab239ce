-- The library for C, C++ and Rust programs: numbers and slices only. The book is six lent buffers: its counts, then nodes, names, lines, pool and journal.
-- Assumes nothing.
use Rattle.std.specs.Prelude.{ℕ, ◌+◌, ◌*◌, ◌≡◌, List, [], ◌∷◌, Bool, cond, not, eqb, ltb, length, get_or, set, Option, None, Result, Ok, Err}
use Rattle.numbers.specs.Limits.{node_limit, over, script_limit}
use Rattle.numbers.specs.Refusals.{no_room, too_long}
use Rattle.lists.specs.Front.{front}
use Rattle.packing.specs.Padding.{zeroed}
use Rattle.book.specs.declared.Counts.{Counts}
use Rattle.book.specs.Books.{Book}
use Rattle.book.specs.Layout.{Buffers, counts_of}
use Rattle.book.specs.View.{view}
use Rattle.book_opening.specs.declared.How.{How}
use Rattle.book_opening.specs.Opening.{Opening, opens, declined, left, opening, told}
use Rattle.trial.specs.Changes.{Change, to, no, after, edit_refusal, edited}

-- "kind, nodes, name bytes, lines, pool bytes, edits"
abbrev pub counts_row : Counts → List ℕ
counts_row c = c.kind ∷ c.nodes ∷ c.names ∷ c.lines ∷ c.pool ∷ c.edits ∷ []

abbrev pub row_counts : List ℕ → Counts
row_counts l = record { kind = get_or l 0 0; nodes = get_or l 1 0; names = get_or l 2 0; lines = get_or l 3 0; pool = get_or l 4 0; edits = get_or l 5 0 }

-- six numbers are counts; any other number of them is no book
abbrev pub six : List ℕ → Bool
six l = eqb (length l) 6

unfoldable pub lent : List ℕ → Buffers → Option Book
lent l b = cond (six l) (view (row_counts l) b) None

-- the counts that the functions below the calls are given: where six numbers are not lent, those of more nodes than a book has, which no buffers hold
abbrev pub unheld_counts : Counts
unheld_counts = record { kind = 0; nodes = node_limit + 1; names = 0; lines = 0; pool = 0; edits = 0 }

abbrev pub lent_counts : List ℕ → Counts
lent_counts l = cond (six l) (row_counts l) unheld_counts

-- counts are written where six numbers are lent
abbrev pub counts_put : List ℕ → Counts → List ℕ
counts_put l c = cond (six l) (counts_row c) l

-- a number that says yes or no
abbrev pub flag : ℕ → Bool
flag n = not (eqb n 0)

-- ---- opening: behind the text's own 1, counts that are not six numbers, fewer or more, are no room for the counts (8)
unfoldable pub opening_with : How → List ℕ → Buffers → List ℕ → Opening
opening_with how l b s = cond (over script_limit s) (declined too_long 0) (cond (six l) (opening how b s) (declined no_room 0))

-- 0, or the number with 256 times its place
unfoldable pub opening_told : Opening → ℕ
opening_told o = (told o).refusal + 256 * (told o).place

-- the counts, or zeros
unfoldable pub counts_left : List ℕ → Opening → List ℕ
counts_left l (opens w) = counts_row (counts_of w)
counts_left l (declined n p) = zeroed l

-- what an opening of the text s leaves: r answered, the counts l' and the buffers b'
unfoldable pub Opens : How → List ℕ → Buffers → List ℕ → ℕ → List ℕ → Buffers → Type 0
Opens how l b s r l' b' =
    (r ≡ opening_told (opening_with how l b s)) × (l' ≡ counts_left l (opening_with how l b s)) × (b' ≡ left b (opening_with how l b s))

-- ---- a question that is refused with n, or answered where n is 0 with the value v into `out`, which is refused last where it has no room
unfoldable pub number_told : ℕ → List ℕ → ℕ
number_told n out = cond (eqb n 0) (cond (eqb (length out) 0) no_room 0) n

unfoldable pub value_left : ℕ → ℕ → List ℕ → List ℕ
value_left n v out = cond (eqb n 0) (set out 0 v) out

-- what a question with the answer a leaves, of which `refusal` and `value` tell: r answered, and out'
unfoldable pub Replies : {A : Type 0} → (A → ℕ) → (A → ℕ) → A → List ℕ → ℕ → List ℕ → Type 0
Replies refusal value a out r out' = (r ≡ number_told (refusal a) out) × (out' ≡ value_left (refusal a) (value a) out)

-- ---- a question that is answered with several numbers, at the front of `out`, which is refused last where it is shorter than they are many
unfoldable pub numbers_told : ℕ → List ℕ → List ℕ → ℕ
numbers_told n vs out = cond (eqb n 0) (cond (ltb (length out) (length vs)) no_room 0) n

unfoldable pub numbers_left : ℕ → List ℕ → List ℕ → List ℕ
numbers_left n vs out = cond (eqb n 0) (cond (ltb (length out) (length vs)) out (front vs out)) out

-- what such a question with the answer a leaves, of which `refusal` and `values` tell: r answered, and out'
unfoldable pub RepliesWith : {A : Type 0} → (A → ℕ) → (A → List ℕ) → A → List ℕ → ℕ → List ℕ → Type 0
RepliesWith refusal values a out r out' = (r ≡ numbers_told (refusal a) (values a) out) × (out' ≡ numbers_left (refusal a) (values a) out)

-- ---- an edit: the counts of the book behind it, where it is done
unfoldable pub counts_edited : List ℕ → Change → List ℕ
counts_edited l (to w) = counts_row (counts_of w)
counts_edited l (no n) = l

abbrev pub counts_told : List ℕ → Result Counts ℕ → List ℕ
counts_told l (Ok c) = counts_put l c
counts_told l (Err n) = l

-- what is told of the answer a: r, and the counts l become l'
abbrev pub Finishes : List ℕ → Result Counts ℕ → ℕ → List ℕ → Type 0
Finishes l a r l' = (r ≡ edit_refusal a) × (l' ≡ counts_told l a)

-- what an edit that is asked of a lent book leaves: r answered, the counts l' and the buffers b'
unfoldable pub Edits : List ℕ → Buffers → (Buffers → Option Book → Change) → ℕ → List ℕ → Buffers → Type 0
Edits l b ask r l' b' =
    (r ≡ edit_refusal (edited (ask b (lent l b)))) × (l' ≡ counts_edited l (ask b (lent l b))) × (b' ≡ after b (ask b (lent l b)))
