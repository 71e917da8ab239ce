-- Whether a row or bytes more have room in lent buffers and are within their limits: "a row, byte or journal limit or room would be passed" is 8. Assumes
-- nothing.
use Rattle.std.specs.Prelude.{Result, ℕ, ◌+◌, ◌-◌, ◌*◌, ◌≡◌, List, ◌++◌, Bool, cond, ◌&&◌, leb, ltb, length, take, drop}
use Rattle.numbers.specs.Limits.{edit_limit, line_limit, node_limit, over, pool_limit}
use Rattle.packing.specs.Tables.{packed}
use Rattle.numbers.specs.declared.Refusal.{Refusal}
use Rattle.storing.specs.declared.Stored.{Stored}
use Rattle.storing.specs.Keeping.{Keep}
use Rattle.storing.specs.Answers.{keep_answer, keep_buffer}
use Rattle.book.specs.Books.{Edit, Line, Node}
use Rattle.book.specs.Layout.{Buffers, edit_width, line_form, line_width, node_form, node_width}

-- a row of that width for thing i in l, within a limit
abbrev pub row_room : ℕ → ℕ → List ℕ → ℕ → Bool
row_room limit width l i = ltb i limit && leb (width * (i + 1)) (length l)

-- ---- a node more, with its name
unfoldable pub node_room : Buffers → List Node → List ℕ → Bool
node_room b xs name =
    row_room node_limit node_width b.nodes (length xs) && leb (length (packed node_form xs) + length name) (length b.names)

-- ---- a line more: a row for line i in l
abbrev pub fits_row : List ℕ → ℕ → Bool
fits_row l i = row_room line_limit line_width l i

-- how far the pool q can be filled
abbrev pub pool_room : List ℕ → ℕ
pool_room q = cond (over pool_limit q) pool_limit (length q)

-- both, for a line behind the lines xs with the bytes bs
unfoldable pub line_room : Buffers → List Line → List ℕ → Bool
line_room b xs bs = fits_row b.lines (length xs) && leb (length (packed line_form xs) + length bs) (pool_room b.pool)

-- what is kept of a token, put into the pool q from `at` on: as storing answers it and leaves it in the part that can be filled
abbrev pub open_part : List ℕ → ℕ → List ℕ
open_part q at = take (pool_room q - at) (drop at q)

abbrev pub Put : Keep → List ℕ → ℕ → Result Stored Refusal → List ℕ → Type 0
Put x q at r q' =
    (r ≡ keep_answer x (length (open_part q at))) × (q' ≡ take at q ++ (keep_buffer x (open_part q at) ++ drop (pool_room q) q))

-- ---- an edit more: a row for edit i of the journal j
abbrev pub edit_row : List ℕ → ℕ → Bool
edit_row j i = row_room edit_limit edit_width j i

unfoldable pub edit_room : Buffers → List Edit → Bool
edit_room b es = edit_row b.journal (length es)
