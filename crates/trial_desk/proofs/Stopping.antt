-- Where what the desk prints, or what a person is told, is not written: what is left of the text and of its lines (specs/Stops.antt). Assumes nothing.
use Prim.Native.Nat.{ℕ, ◌+◌, ◌-◌, ◌<◌}
use mathlib.Core.Path.{◌≡◌, refl, ap, ◌∙◌}
use mathlib.Core.List.{List, [], ◌∷◌, ◌++◌, append_assoc}
use native.Mathlib.Omega.{arith}
use lib.ListN.{length, take, drop}
use Rattle.std.specs.Prelude.{Result, Ok, Err, OnOk, OnErr}
use Rattle.input.specs.Splitting.{lines_in}
use Rattle.book.specs.Books.{Book}
use Rattle.book.specs.Layout.{Buffers}
use Rattle.book_opening.specs.declared.How.{How}
use Rattle.book_opening.specs.declared.Opened.{Opened}
use Rattle.book_opening.specs.Opening.{Opening, declined, left, opening, opens, told}
use Rattle.book_opening.proofs.Refusing.{opening-refuses}
use Rattle.input.specs.Splitting.{line_end}
use Rattle.input.proofs.Ends.{lines_from}
use Rattle.histories.specs.Histories.{Lent}
use Rattle.histories.specs.Demand.{lent_opening}
use Rattle.rounds.specs.Rounds.{line_lent, lines_lent}
use Rattle.trial_desk.specs.Stops.{DeskStops, OpeningStops, RunsSome}

-- what holds at any result
pub at_ok : {T E P : Type 0} (r : Result T E) → P → OnOk r P
at_ok (Ok x) p = p
at_ok (Err e) p = tt

pub at_err : {T E P : Type 0} (r : Result T E) → P → OnErr r P
at_err (Ok x) p = tt
at_err (Err e) p = p

-- a line behind others
line_behind : (text : List ℕ) (ls : List (List ℕ)) (x : Lent) (l : List ℕ) → line_lent text (lines_lent text x ls) l ≡ lines_lent text x (ls ++ l ∷ [])
unfolding lines_lent
line_behind text [] x l = refl
line_behind text (k ∷ ls) x l = line_behind text ls (line_lent text x k) l

-- from y on, of the commands s, those before the place at have been run, and left x
pub record Running (text : List ℕ) (y : Lent) (s : List ℕ) (x : Lent) (at : ℕ) : Type 0 where
  pub ran : List (List ℕ)
  pub parts : lines_in [] s ≡ ran ++ lines_in [] (drop at s)
  pub left : x ≡ lines_lent text y ran

module _ (text : List ℕ) (y : Lent) (s : List ℕ) where
  pub runs_begin : Running text y s y 0
  unfolding lines_lent
  runs_begin = record { ran = []; parts = refl; left = refl }

  module _ {x : Lent} {at : ℕ} (t : Running text y s x at) where
    pub runs_on : at < length s → (end : ℕ) → end ≡ line_end s at → (z : Lent) → z ≡ line_lent text x (take (end - at) (drop at s))
        → Running text y s z (end + 1)
    runs_on h end e z f =
        let l : List ℕ = take (end - at) (drop at s) in
        let q : lines_in [] (drop at s) ≡ l ∷ lines_in [] (drop (end + 1) s) = rw e (lines_from s at h) in
        record {
          ran = t.ran ++ l ∷ [];
          parts = t.parts ∙ rw (q, append_assoc);
          left = f ∙ ap (λ (v : Lent). line_lent text v l) t.left ∙ line_behind text t.ran y l;
        }

    -- and the line at that place was run, but what is printed or told of it was not written
    pub runs_stop : at < length s → (end : ℕ) → end ≡ line_end s at → (b : Buffers)
        → b ≡ (line_lent text x (take (end - at) (drop at s))).buffers → RunsSome text y (lines_in [] s) b
    runs_stop h end e b f =
        let l : List ℕ = take (end - at) (drop at s) in
        let q : lines_in [] (drop at s) ≡ l ∷ lines_in [] (drop (end + 1) s) = rw e (lines_from s at h) in
        record {
          before = t.ran;
          last = l;
          rest = lines_in [] (drop (end + 1) s);
          parts = t.parts ∙ rw q;
          left = f ∙ ap (λ (v : Lent). (line_lent text v l).buffers) t.left;
        }

-- x was answered, and b' is left
module _ (how : How) (b : Buffers) (s commands : List ℕ) (x : Opened) (e : x ≡ told (opening how b s)) (b' : Buffers) (f : b' ≡ left b (opening how b s)) where
  pub refused_stops : (x.refusal ≡ 0 → ⊥) → DeskStops how b s commands b'
  unfolding told
  refused_stops h = go (opening how b s) e f
    where
      go : (o : Opening) → x ≡ told o → b' ≡ left b o → OpeningStops s b (lines_in [] commands) o b'
      go (opens w) g k = absurd (h (ap (λ (y : Opened). y.refusal) g))
      go (declined n p) g k = k

  module _ (h : x.refusal ≡ 0) where
    begins : (w : Book) × (opening how b s ≡ opens w)
    unfolding told
    begins = go (opening how b s) refl e
      where
        go : (o : Opening) → opening how b s ≡ o → x ≡ told o → (w : Book) × (opening how b s ≡ opens w)
        go (opens w) g k = (w, g)
        go (declined n p) g k =
            let z : x.refusal ≡ n = ap (λ (y : Opened). y.refusal) k in
            absurd (omega (arith, z, h, (opening-refuses how b s n p g).0))

    lent_now : ◌≡◌ {A = Lent} (record { counts = x.counts; buffers = b' }) (lent_opening b (opening how b s))
    lent_now = λ i. record { counts = (e i).counts; buffers = f i }

    pub run_stops : (a : Buffers) → RunsSome s (record { counts = x.counts; buffers = b' }) (lines_in [] commands) a → DeskStops how b s commands a
    run_stops a r =
        let z : RunsSome s (lent_opening b (opening how b s)) (lines_in [] commands) a = rw lent_now at r in
        rw begins.1 (rw begins.1 at z)
