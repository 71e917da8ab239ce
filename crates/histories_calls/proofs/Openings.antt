-- An opening that is told with 0 opens a book: no number that refuses is 0. Assumes nothing.
use Prim.Native.Nat.{ℕ}
use mathlib.Core.Path.{◌≡◌, refl}
use mathlib.Core.List.{List}
use native.Mathlib.Omega.{arith}
use Rattle.book.specs.Books.{Book}
use Rattle.book.specs.Layout.{Buffers}
use Rattle.book_opening.specs.declared.How.{How}
use Rattle.book_opening.specs.Opening.{Opening, opens, declined, opening, told}
use Rattle.book_opening.proofs.Refusing.{opening-refuses}

pub opened-book : (how : How) (b : Buffers) (s : List ℕ) → (told (opening how b s)).refusal ≡ 0 → (w : Book) × (opening how b s ≡ opens w)
unfolding told
opened-book how b s z = go (opening how b s) refl z
  where
    go : (o : Opening) → opening how b s ≡ o → (told o).refusal ≡ 0 → (w : Book) × (opening how b s ≡ opens w)
    go (opens w) e n = (w, e)
    go (declined n p) e z = absurd (let i = (opening-refuses how b s n p e).0 in omega arith)
