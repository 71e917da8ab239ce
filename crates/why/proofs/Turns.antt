-- A symbol's line, and the symbols' lines, one a turn: what is printed so far, and what is left to print, is what is printed for all of them. Assumes nothing.
use Prim.Native.Nat.{ℕ, ◌+◌, ◌*◌, ◌-◌, ◌≤◌, ◌<◌}
use mathlib.Core.Path.{◌≡◌, refl, sym, ap, ◌∙◌}
use mathlib.Core.List.{List, [], ◌∷◌, ◌++◌, append_assoc}
use Rattle.std.specs.Prelude.{Option}
use native.Mathlib.Omega.{arith}
use lib.ListN.{length, take, drop, length-append}
use Rattle.lists.specs.Front.{front}
use Rattle.book.specs.Books.{Book}
use Rattle.input.specs.Splitting.{lines_in}
use Rattle.input.proofs.Cuts.{no_lines_from}
use Rattle.input.specs.Splitting.{line_end}
use Rattle.input.proofs.Ends.{lines_from}
use Rattle.input.proofs.Ends.{line-within}
use Rattle.printing.specs.Printing.{Begins}
use Rattle.printing_why.specs.Whys.{PrintsLines, joined, put_over, why_answered, whys}
use Rattle.why.specs.Stops.{StopsWithin}

-- what is put into a buffer is no longer than what it leaves there
pub put-within : (d text : List ℕ) {l : List ℕ} {r : ℕ} → Begins d text l r → length l ≤ 131200 → r ≤ 131200
unfolding front
put-within d text p h = omega (arith, p.0, ap length p.1, length-append text (drop (length text) d))

-- of the symbols l, asked of w, n bytes are printed up to the place at, from a buffer that was d₀ and is d
pub record Telling (s : List ℕ) (w : Option Book) (l d₀ : List ℕ) (n at : ℕ) (d : List ℕ) : Type 0 where
  pub told : n + length (joined (whys s w (lines_in [] (drop at l)))) ≡ length (joined (whys s w (lines_in [] l)))
  pub leads : put_over (whys s w (lines_in [] (drop at l))) d ≡ put_over (whys s w (lines_in [] l)) d₀
  pub few : n ≤ 131200 * at

module _ (s : List ℕ) (w : Option Book) (l d₀ : List ℕ) where
  pub tells_begin : Telling s w l d₀ 0 0 d₀
  tells_begin = record { told = omega arith; leads = refl; few = omega arith }

  module _ {n at : ℕ} {d : List ℕ} (t : Telling s w l d₀ n at d) where
    -- a line is printed, and the others begin behind its end
    pub tells_on : at < length l → (end : ℕ) → end ≡ line_end l at → (k : ℕ) (d' : List ℕ)
        → Begins d (why_answered s w (take (end - at) (drop at l))) d' k → k ≤ 131200 → Telling s w l d₀ (n + k) (end + 1) d'
    unfolding whys joined put_over
    tells_on h end e k d' f small = record {
      told =
          let q = ap (λ (ts : List (List ℕ)). length (joined (whys s w ts))) (lines_from l at h) in
          let z = length-append (why_answered s w (take (line_end l at - at) (drop at l))) (joined (whys s w (lines_in [] (drop (line_end l at + 1) l)))) in
          let g : k ≡ length (why_answered s w (take (line_end l at - at) (drop at l))) = f.0 ∙ rw e in
          rw e (omega (arith, t.told, q, z, g));
      leads =
          let q = ap (λ (ts : List (List ℕ)). put_over (whys s w ts) d) (lines_from l at h) in
          rw (f.1, e) (sym q ∙ t.leads);
      few = omega (arith, t.few, (line-within l at end (omega arith) e).0);
    }

    pub tells_end : length l ≤ at → PrintsLines (whys s w (lines_in [] l)) d₀ n d
    unfolding whys joined put_over
    tells_end h =
        let q = no_lines_from l at h in (
          omega (arith, t.told, ap (λ (ts : List (List ℕ)). length (joined (whys s w ts))) q),
          sym (ap (λ (ts : List (List ℕ)). put_over (whys s w ts) d) q) ∙ t.leads,
        )

-- a line is put over what others left
line_over : (ts : List (List ℕ)) (t d : List ℕ) → front t (put_over ts d) ≡ put_over (ts ++ t ∷ []) d
unfolding put_over
line_over [] t d = refl
line_over (u ∷ ts) t d = line_over ts t (front u d)

-- of the symbols l, those before the place at were put, over a buffer that was d₀ and is d
pub record Putting (s : List ℕ) (w : Option Book) (l d₀ : List ℕ) (at : ℕ) (d : List ℕ) : Type 0 where
  pub told : List (List ℕ)
  pub parts : whys s w (lines_in [] l) ≡ told ++ whys s w (lines_in [] (drop at l))
  pub left : d ≡ put_over told d₀

module _ (s : List ℕ) (w : Option Book) (l d₀ : List ℕ) where
  pub puts_begin : Putting s w l d₀ 0 d₀
  unfolding put_over
  puts_begin = record { told = []; parts = refl; left = refl }

  module _ {at : ℕ} {d : List ℕ} (t : Putting s w l d₀ at d) where
    pub puts_on : at < length l → (end : ℕ) → end ≡ line_end l at → (d' : List ℕ)
        → d' ≡ front (why_answered s w (take (end - at) (drop at l))) d → Putting s w l d₀ (end + 1) d'
    unfolding whys
    puts_on h end e d' f =
        let a : List ℕ = why_answered s w (take (end - at) (drop at l)) in
        let q : whys s w (lines_in [] (drop at l)) ≡ a ∷ whys s w (lines_in [] (drop (end + 1) l)) = rw e (ap (whys s w) (lines_from l at h)) in
        record {
          told = t.told ++ a ∷ [];
          parts = t.parts ∙ rw (q, append_assoc);
          left = f ∙ ap (front a) t.left ∙ line_over t.told a d₀;
        }

    -- and the line at that place was put, but may not have been written
    pub puts_stop : at < length l → (end : ℕ) → end ≡ line_end l at → (d' : List ℕ)
        → d' ≡ front (why_answered s w (take (end - at) (drop at l))) d → StopsWithin (whys s w (lines_in [] l)) d₀ d'
    unfolding whys
    puts_stop h end e d' f =
        let a : List ℕ = why_answered s w (take (end - at) (drop at l)) in
        let q : whys s w (lines_in [] (drop at l)) ≡ a ∷ whys s w (lines_in [] (drop (end + 1) l)) = rw e (ap (whys s w) (lines_from l at h)) in
        record { before = t.told; last = a; rest = whys s w (lines_in [] (drop (end + 1) l)); parts = t.parts ∙ rw q; left = f ∙ ap (front a) t.left }
