-- What is printed of a script by its opening: the exits of `tell_script`. Assumes nothing.
use Prim.Native.Nat.{ℕ}
use mathlib.Core.Path.{◌≡◌, refl, ap}
use mathlib.Core.List.{List, [], append-nil}
use Rattle.book.specs.Layout.{Buffers}
use Rattle.book.specs.View.{view}
use Rattle.book_opening.specs.declared.Opened.{Opened}
use Rattle.book_opening.specs.Opening.{Opening, as_script, declined, left, opening, opens, told}
use Rattle.input.specs.Splitting.{lines_in}
use Rattle.printing.specs.Printing.{Begins, refused_line}
use Rattle.printing_listing.proofs.Scripts.{script-opens}
use Rattle.printing_why.specs.Whys.{PrintsLines, joined, put_over, why_printed, whys}
use Rattle.lists.specs.Front.{front}
use Rattle.why.specs.Stops.{StopsWithin}

-- x was answered; r bytes are printed from the buffer d, and l is left there
module _ (b : Buffers) (s : List ℕ) (x : Opened) (e : x ≡ told (opening as_script b s)) (symbols d : List ℕ) where
  pub refused-told : (x.refusal ≡ 0 → ⊥) → {r : ℕ} {l : List ℕ} → Begins d (refused_line x.refusal) l r
      → PrintsLines (why_printed s (opening as_script b s) symbols) d r l
  unfolding told why_printed joined put_over
  refused-told h {r} {l} f = go (opening as_script b s) e
    where
      go : (o : Opening) → x ≡ told o → PrintsLines (why_printed s o symbols) d r l
      go (opens w) g = absurd (h (ap (λ (y : Opened). y.refusal) g))
      go (declined n p) g =
          let z : x.refusal ≡ n = ap (λ (y : Opened). y.refusal) g in
          rw append-nil (rw z at f)

  pub opened-told : (h : x.refusal ≡ 0) (b' : Buffers) → b' ≡ left b (opening as_script b s) → {r : ℕ} {l : List ℕ}
      → PrintsLines (whys s (view x.counts b') (lines_in [] symbols)) d r l → PrintsLines (why_printed s (opening as_script b s) symbols) d r l
  unfolding why_printed
  opened-told h b' f g = let z = script-opens b s x e h b' f in rw z.1.0 (rw z.1.1 at g)

  -- the same where it is not written
  pub refused-stops : (x.refusal ≡ 0 → ⊥) → {l : List ℕ} → l ≡ front (refused_line x.refusal) d → StopsWithin (why_printed s (opening as_script b s) symbols) d l
  unfolding told why_printed put_over
  refused-stops h {l} f = go (opening as_script b s) e
    where
      go : (o : Opening) → x ≡ told o → StopsWithin (why_printed s o symbols) d l
      go (opens w) g = absurd (h (ap (λ (y : Opened). y.refusal) g))
      go (declined n p) g =
          let z : x.refusal ≡ n = ap (λ (y : Opened). y.refusal) g in
          record { before = []; last = refused_line n; rest = []; parts = refl; left = rw z at f }

  pub opened-stops : (h : x.refusal ≡ 0) (b' : Buffers) → b' ≡ left b (opening as_script b s) → {l : List ℕ}
      → StopsWithin (whys s (view x.counts b') (lines_in [] symbols)) d l → StopsWithin (why_printed s (opening as_script b s) symbols) d l
  unfolding why_printed
  opened-stops h b' f g = let z = script-opens b s x e h b' f in rw z.1.0 (rw z.1.1 at g)
