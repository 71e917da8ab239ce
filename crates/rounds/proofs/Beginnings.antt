-- Where the desk's lines begin: its text is refused, and nothing is run, or it is opened, and what all of its lines leave is what is left behind it
-- (`desk_left` of specs/Rounds.antt). Assumes nothing.
use Prim.Native.Nat.{ℕ}
use mathlib.Core.Path.{◌≡◌, refl, ap, ◌∙◌}
use mathlib.Core.List.{List, []}
use mathlib.Core.Bool.{true}
use native.Mathlib.Omega.{arith}
use Rattle.input.specs.Splitting.{lines_in}
use Rattle.book.specs.declared.Counts.{Counts}
use Rattle.book.specs.Books.{Book}
use Rattle.book.specs.Layout.{Buffers}
use Rattle.book_opening.specs.declared.How.{How}
use Rattle.book_opening.specs.declared.Opened.{Opened}
use Rattle.book_opening.specs.Opening.{Opening, declined, left, opening, opens, told}
use Rattle.book_opening.proofs.Refusing.{opening-refuses}
use Rattle.book_opened.specs.Opened.{opens_at}
use Rattle.histories.specs.Histories.{Lent}
use Rattle.histories.specs.Demand.{lent_opening}
use Rattle.rounds.specs.Rounds.{DeskRooms, Reached, behind_opening, desk_left, lines_lent}

-- x was answered, and b' is left
module _ (how : How) (b : Buffers) (s commands : List ℕ) (x : Opened) (e : x ≡ told (opening how b s)) (b' : Buffers) (f : b' ≡ left b (opening how b s)) where
  pub refused_left : (x.refusal ≡ 0 → ⊥) → b' ≡ desk_left how b s commands
  unfolding told desk_left
  refused_left h = f ∙ go (opening how b s) e
    where
      go : (o : Opening) → x ≡ told o → left b o ≡ behind_opening s b o (lines_in [] commands)
      go (opens w) g = absurd (h (ap (λ (y : Opened). y.refusal) g))
      go (declined n p) g = refl

  module _ (h : x.refusal ≡ 0) where
    begins : (w : Book) × (opening how b s ≡ opens w)
    unfolding told
    begins = go (opening how b s) refl e
      where
        go : (o : Opening) → opening how b s ≡ o → x ≡ told o → (w : Book) × (opening how b s ≡ opens w)
        go (opens w) g k = (w, g)
        go (declined n p) g k =
            let z : x.refusal ≡ n = ap (λ (y : Opened). y.refusal) k in
            absurd (omega (arith, z, h, (opening-refuses how b s n p g).0))

    lent_now : ◌≡◌ {A = Lent} (record { counts = x.counts; buffers = b' }) (lent_opening b (opening how b s))
    lent_now = λ i. record { counts = (e i).counts; buffers = f i }

    pub reached_first : opens_at how ≡ true → DeskRooms b → Reached s (record { counts = x.counts; buffers = b' })
    unfolding lines_lent
    reached_first k r =
        record { how = how; lent = b; book = begins.0; lines = []; known = k; roomy = r; opened = begins.1; behind = lent_now }

    pub run_left : (c : Counts) (a : Buffers)
        → record { counts = c; buffers = a } ≡ lines_lent s (record { counts = x.counts; buffers = b' }) (lines_in [] commands)
        → a ≡ desk_left how b s commands
    unfolding desk_left
    run_left c a z =
        let q = ap (λ (y : Lent). y.buffers) (z ∙ ap (λ (y : Lent). lines_lent s y (lines_in [] commands)) lent_now) in
        q ∙ rw begins.1
