-- What is taken back out of lent buffers: 01, 'The book', "the rest is zero". Assumes nothing.
use Rattle.std.specs.Prelude.{ℕ, ◌-◌, ◌*◌, ◌≤◌, ◌≡◌, List, length}
use Rattle.std.proofs.Math.Seq.{paste}
use Rattle.packing.specs.Padding.{zeros}
use Rattle.book.specs.declared.Counts.{Counts}
use Rattle.book.specs.Layout.{edit_width, line_width}

-- numbers or bytes from p up to q become zero
abbrev pub emptied : List ℕ → ℕ → ℕ → List ℕ
emptied l p q = paste l p (zeros (q - p)) (q - p)

-- the rows l, the bytes p and the edits j reach up to the counts k, which are no less than c
abbrev pub Reaches : Counts → Counts → List ℕ → List ℕ → List ℕ → Type 0
Reaches c k l p j =
    (c.lines ≤ k.lines) × (line_width * k.lines ≤ length l) × (c.pool ≤ k.pool) × (k.pool ≤ length p) × (c.edits ≤ k.edits)
    × (edit_width * k.edits ≤ length j)

-- what they hold behind the counts c, up to the counts k, becomes zero
abbrev pub Clears : Counts → Counts → List ℕ → List ℕ → List ℕ → List ℕ → List ℕ → List ℕ → Type 0
Clears c k l p j l' p' j' =
    (l' ≡ emptied l (line_width * c.lines) (line_width * k.lines))
    × (p' ≡ emptied p c.pool k.pool)
    × (j' ≡ emptied j (edit_width * c.edits) (edit_width * k.edits))
