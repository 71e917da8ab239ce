-- What is printed for a script and its symbols' lines: the exits of `render_listing_refused`, `render_too_long`, `render_opened` and `render_script`. Assumes nothing.
use Prim.Native.Nat.{ℕ, ◌+◌, ◌*◌, ◌<◌, ◌≤◌}
use mathlib.Core.Path.{◌≡◌, refl, sym, ap, ◌∙◌}
use mathlib.Core.List.{List, [], ◌∷◌, ◌++◌, append-nil}
use mathlib.Core.Bool.{Bool, true, false, cond}
use Rattle.std.specs.Prelude.{Option, Some}
use native.Mathlib.Decide.{dec_lt}
use native.Mathlib.Omega.{arith}
use borrow.Author.Tests.{ne_eqb}
use lib.Dec.{eqb}
use lib.ListN.{length, length-append}
use Rattle.numbers.specs.Signs.{line_feed}
use Rattle.lists.specs.Front.{front}
use Rattle.lists.specs.Texts.{codes}
use Rattle.lists.proofs.FrontLaws.{length_front}
use Rattle.packing.specs.Padding.{zeros}
use Rattle.book.specs.Books.{Book}
use Rattle.book.specs.Layout.{Buffers, five}
use Rattle.book.specs.View.{holds, view}
use Rattle.book.proofs.Views.{holds_of_view}
use Rattle.book_opening.specs.declared.Opened.{Opened}
use Rattle.book_opening.specs.Opening.{Opening, as_script, cleared, declined, left, opening, opens, told}
use Rattle.book_opening.proofs.Refusing.{opening-refuses}
use Rattle.book_opened.proofs.Opened.{opened-holds}
use Rattle.std.specs.Prelude.{Result, Ok, Err}
use Rattle.numbers.specs.declared.Refusal.{Refusal}
use Rattle.numbers.specs.Saying.{number}
use Rattle.counting.specs.Questions.{counted, parent_count, version_count}
use Rattle.input.specs.Splitting.{lines_in}
use Rattle.printing.specs.Printing.{Begins, Puts, refused_line}
use Rattle.printing.proofs.Digits.{few-digits}
use Rattle.printing.proofs.Pieces.{begins, few-numbered, put_first, puts-both}
use Rattle.printing_symbols.specs.Lines.{counts_answered, counts_line}
use Rattle.printing_listing.specs.SymbolLines.{answers}
use Rattle.printing_listing.proofs.Answers.{answer_few}
use Rattle.printing_listing.specs.declared.script.Listed.{Listed}
use Rattle.printing_listing.specs.Script.{Prints, opened_printed, printed, with_refusal}

abbrev told_as : ℕ → ℕ → ℕ → Listed
told_as n refusal place = record { length = n; refusal = refusal; place = place }

pub refused-listed : (n place : ℕ) (d : List ℕ) {l : List ℕ} {r : ℕ} → Begins d (refused_line n) l r
    → (told_as r n place ≡ with_refusal (length (refused_line n)) (declined n place)) × (l ≡ front (refused_line n) d)
unfolding told
refused-listed n place d p = (ap (λ (k : ℕ). told_as k n place) p.0, p.1)

-- five buffers that are zeros, each of its length
pub all_cleared : (n m l p j n' m' l' p' j' : List ℕ) → n' ≡ zeros (length n) → m' ≡ zeros (length m) → l' ≡ zeros (length l) → p' ≡ zeros (length p)
    → j' ≡ zeros (length j) → five n' m' l' p' j' ≡ cleared (five n m l p j)
unfolding cleared
all_cleared n m l p j n' m' l' p' j' e f g h k = λ i. five (e i) (f i) (g i) (h i) (k i)

-- ---- lengths
refused-few : (n : ℕ) → length (refused_line n) ≤ 19
unfolding refused_line codes
refused-few n = few-numbered (codes "refused") n

counts_line-few : (x y : Result ℕ Refusal) → length (counts_line x y) ≤ 36
unfolding counts_line codes
counts_line-few (Ok n) (Ok m) = simp length-append (omega (arith, few-digits n, few-digits m))
counts_line-few (Ok n) (Err e) = omega (arith, refused-few (number e))
counts_line-few (Err e) y = omega (arith, refused-few (number e))

counts-few : (w : Option Book) → length (counts_answered w) ≤ 36
unfolding counts_answered
counts-few w = counts_line-few (counted version_count w) (counted parent_count w)

answers-few : (w : Option Book) (t s : List ℕ) → length (answers w (lines_in t s)) ≤ 15 * (length t + length s)
unfolding answers lines_in
answers-few w [] [] = omega arith
answers-few w (c ∷ t) [] = rw append-nil (omega (arith, answer_few w (c ∷ t)))
answers-few w t (b ∷ s) = go (eqb b line_feed) (answers-few w [] s) (answers-few w (t ++ b ∷ []) s)
  where
    go : (v : Bool) → length (answers w (lines_in [] s)) ≤ 15 * (0 + length s)
        → length (answers w (lines_in (t ++ b ∷ []) s)) ≤ 15 * (length (t ++ b ∷ []) + length s)
        → length (answers w (cond v (t ∷ lines_in [] s) (lines_in (t ++ b ∷ []) s))) ≤ 15 * (length t + length (b ∷ s))
    go true h k = simp length-append (omega (arith, answer_few w t))
    go false h k = omega (arith, length-append t (b ∷ []))

-- ---- the exits of `render_opened`: w is the book, d was lent, d₁ is left of it behind the counts, and d₂ at the end
module _ (w : Option Book) (symbols d : List ℕ) (room : 48 ≤ length d) where
  pub opened-refused : {n : ℕ} → (n ≡ 0 → ⊥) → {l : List ℕ} {r : ℕ} → Begins d (refused_line n) l r → Begins d (opened_printed n w symbols) l r
  unfolding opened_printed
  opened-refused {n} h p = rw (ne_eqb n 0 h) p

  module _ (more : 0 < length symbols → 84 + 15 * length symbols ≤ length d) {d₁ : List ℕ} {n₁ : ℕ} (counted-put : Begins d (counts_answered w) d₁ n₁) where
    pub symbols-room : 0 < length symbols → n₁ + 48 + 15 * length symbols ≤ length d₁
    symbols-room k =
        let f = counts-few w in
        let z : length d₁ ≡ length d = ap length counted-put.1 ∙ length_front (counts_answered w) d (omega arith) in
        omega (arith, more k, counted-put.0)

    all_room : 0 + length (counts_answered w) + length (answers w (lines_in [] symbols)) ≤ length d
    all_room = go (dec_lt 0 (length symbols))
      where
        go : Dec (0 < length symbols) → 0 + length (counts_answered w) + length (answers w (lines_in [] symbols)) ≤ length d
        go (yes k) = omega (arith, more k, counts-few w, answers-few w [] symbols)
        go (no k) = omega (arith, counts-few w, answers-few w [] symbols)

    pub opened-listed : {n : ℕ} → n ≡ 0 → {d₂ : List ℕ} {n₂ : ℕ} → Puts d₁ n₁ (answers w (lines_in [] symbols)) d₂ n₂
        → Begins d (opened_printed n w symbols) d₂ n₂
    unfolding opened_printed
    opened-listed h {d₂} {n₂} q =
        let t = counts_answered w in
        let a : Puts d 0 (t ++ answers w (lines_in [] symbols)) d₂ n₂ =
        puts-both d 0 t (answers w (lines_in [] symbols)) all_room (put_first d t counted-put) q in
        rw h (begins d (t ++ answers w (lines_in [] symbols)) a)

-- ---- a script's opening: a refusal other than 0, or a book that the buffers hold
module _ (b : Buffers) (s : List ℕ) (x : Opened) (e : x ≡ told (opening as_script b s)) where
  pub script-opens : x.refusal ≡ 0 → (b' : Buffers) → b' ≡ left b (opening as_script b s)
      → (w : Book) × ((opening as_script b s ≡ opens w) × (view x.counts b' ≡ Some w))
  unfolding told left
  script-opens h b' k = go (opening as_script b s) refl e k
    where
      go : (o : Opening) → opening as_script b s ≡ o → x ≡ told o → b' ≡ left b o
          → (w : Book) × ((opening as_script b s ≡ opens w) × (view x.counts b' ≡ Some w))
      go (opens w) f g j = (w, (f, rw (j, ap (λ (y : Opened). y.counts) g) (opened-holds as_script b s w refl f)))
      go (declined n p) f g j =
          let z : x.refusal ≡ n = ap (λ (y : Opened). y.refusal) g in
          absurd (omega (arith, z, h, (opening-refuses as_script b s n p f).0))

  -- what is opened holds a book
  pub script-held : x.refusal ≡ 0 → (b' : Buffers) → b' ≡ left b (opening as_script b s) → holds x.counts b' ≡ true
  script-held h b' k = let z = script-opens h b' k in (holds_of_view x.counts b' z.0 z.1.1).0

  -- ---- the exit of `render_script`
  module _ (symbols d : List ℕ) (b' : Buffers) (j : b' ≡ left b (opening as_script b s)) where
    script-printed : opened_printed x.refusal (view x.counts b') symbols ≡ printed (opening as_script b s) symbols
    unfolding opened_printed printed told
    script-printed = go (opening as_script b s) refl e
      where
        go : (o : Opening) → opening as_script b s ≡ o → x ≡ told o → opened_printed x.refusal (view x.counts b') symbols ≡ printed o symbols
        go (opens w) f g =
            let z : x.refusal ≡ 0 = ap (λ (y : Opened). y.refusal) g in
            let v = script-opens z b' j in
            rw z (ap (λ (y : Option Book). counts_answered y ++ answers y (lines_in [] symbols)) v.1.1 ∙ ap (λ (o : Opening). printed o symbols) (sym v.1.0 ∙ f))
        go (declined n p) f g =
            let z : x.refusal ≡ n = ap (λ (y : Opened). y.refusal) g in
            let h = opening-refuses as_script b s n p f in
            rw (z, ne_eqb n 0 (λ (k : n ≡ 0). omega arith))

    script-told : (n : ℕ) → told_as n x.refusal x.place ≡ with_refusal n (opening as_script b s)
    script-told n = ap (λ (y : Opened). told_as n y.refusal y.place) e

    pub script-listed : {l : List ℕ} {n : ℕ} → Begins d (opened_printed x.refusal (view x.counts b') symbols) l n
        → Prints b (λ b. opening as_script b s) symbols d (told_as n x.refusal x.place) l b'
    script-listed {n = n} m = (
      script-told n ∙ ap (λ (k : ℕ). with_refusal k (opening as_script b s)) (m.0 ∙ ap length script-printed),
      m.1 ∙ ap (λ (k : List ℕ). front k d) script-printed,
      j,
    )
