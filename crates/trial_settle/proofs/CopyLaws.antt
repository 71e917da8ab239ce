-- Laws of what a settle copies (specs/Copies.antt): each thing behind the first struck line once, to a lower place, and nothing else. Assumes nothing.
use Prim.Native.Nat.{ℕ, zero, suc, ◌+◌, ◌≤◌, ◌<◌}
use mathlib.Core.Path.{◌≡◌, refl, sym, ap, ◌∙◌}
use mathlib.Core.List.{List, [], ◌∷◌, ◌++◌, append_assoc, append-nil, map, map-append, nil≢cons}
use mathlib.Core.Bool.{Bool, true, false, not}
use native.Mathlib.Nat.{add_comm, add-zero, le_refl, le_trans, zero-add}
use native.Mathlib.Numerals.{add-one}
use native.Mathlib.Omega.{arith}
use borrow.Author.Tests.{eq-eqb, eqb-false, eqb-true, le-leb, lt-ltb, ne_eqb}
use lib.Dec.{eqb, leb, ltb}
use lib.ListN.{length, drop, get_or, length-append, set}
use lib.Seq.{append_snoc, drop-append_seam, drop-drop, get_or-append-add, get_or-drop, set_at}
use Rattle.lists.specs.Each.{every}
use Rattle.lists.proofs.Tests.{both}
use Rattle.packing.specs.Tables.{packed}
use Rattle.book.specs.Books.{Line}
use Rattle.book.specs.Edits.{stands}
use Rattle.book.specs.Layout.{line_form}
use Rattle.trial.specs.Trial.{standing}
use Rattle.trial_settle.specs.Copies.{CopiedBehind, CopiedOnce, Copy, SettleCopies, before_struck, bytes_of, carried, copies, fresh, further, joined}
use Rattle.trial_settle.specs.Copies.{moved, once, row_of, run}
use Rattle.trial_settle.proofs.Before.{before, before_split}
use Rattle.trial_settle.proofs.Tallies.{rows_tally}

-- ---- what is copied
-- the bytes of lines, one behind the other, are those of the pool
joined_bytes : (ls : List Line) → joined bytes_of ls ≡ packed line_form ls
unfolding joined packed line_form
joined_bytes [] = refl
joined_bytes (x ∷ ls) = ap (λ (l : List ℕ). x.bytes ++ l) (joined_bytes ls)

-- a test holds or fails
by_test : {C : Type 0} (t : Bool) → (t ≡ true → C) → (t ≡ false → C) → C
by_test true f g = f refl
by_test false f g = g refl

-- ---- places that rise: the first from k on, and each behind the one before it
data Rising : ℕ → List ℕ → Type 0 where
  ended : {k : ℕ} → Rising k []
  rise : {k j : ℕ} {js : List ℕ} → k ≤ j → Rising (suc j) js → Rising k (j ∷ js)

-- a place before them is none of them
rising-past : {k j : ℕ} {js : List ℕ} → k < j → Rising j js → every (λ (i : ℕ). not (eqb i k)) js ≡ true
unfolding every
rising-past g ended = refl
rising-past {k} g (rise {j = i} a h) = rw (ne_eqb i k (omega arith)) (rising-past (omega arith) h)

-- and none occurs twice
rising-once : {k : ℕ} {js : List ℕ} → Rising k js → once js ≡ true
unfolding once
rising-once ended = refl
rising-once (rise {j} a h) = rw (rising-past {k = j} (omega arith) h) (rising-once h)

-- ---- copies to lower places, whose sources rise from s on and whose targets rise from t on
data Lower : ℕ → ℕ → List Copy → Type 0 where
  none : {s t : ℕ} → Lower s t []
  next : {s t : ℕ} {c : Copy} {cs : List Copy} → s ≤ c.source → t ≤ c.target → c.target < c.source
      → Lower (suc c.source) (suc c.target) cs
      → Lower s t (c ∷ cs)

-- as said, their sources rise
lower_sources : {s t : ℕ} {cs : List Copy} → Lower s t cs → Rising s (map (λ (c : Copy). c.source) cs)
lower_sources none = ended
lower_sources (next a b g h) = rise a (lower_sources h)

-- their targets rise
lower_targets : {s t : ℕ} {cs : List Copy} → Lower s t cs → Rising t (map (λ (c : Copy). c.target) cs)
lower_targets none = ended
lower_targets (next a b g h) = rise b (lower_targets h)

-- none is read that was written before
lower_past : {k s t : ℕ} {cs : List Copy} → k < s → Lower s t cs → every (λ (d : Copy). not (eqb d.source k)) cs ≡ true
unfolding every
lower_past g none = refl
lower_past {k} g (next {c = c} a b f h) = rw (ne_eqb c.source k (omega arith)) (lower_past (omega arith) h)

lower_reads : {s t : ℕ} {cs : List Copy} → Lower s t cs → fresh cs ≡ true
unfolding fresh
lower_reads none = refl
lower_reads (next {c = c} a b g h) = rw (lower_past {k = c.target} (omega arith) h) (lower_reads h)

-- none is written before t
lower_behind : {s t k : ℕ} {cs : List Copy} → k ≤ t → Lower s t cs → every (λ (c : Copy). leb k c.target) cs ≡ true
unfolding every
lower_behind i none = refl
lower_behind {k = k} i (next {c = c} a b g h) = rw (le-leb k c.target (omega arith)) (lower_behind (omega arith) h)

-- each goes to a lower place
lower_moves : {s t : ℕ} {cs : List Copy} → Lower s t cs → every (λ (c : Copy). ltb c.target c.source) cs ≡ true
unfolding every
lower_moves none = refl
lower_moves (next {c = c} a b g h) = rw (lt-ltb c.target c.source g) (lower_moves h)

-- they rise from earlier places on too
lower_from : {s t s' t' : ℕ} {cs : List Copy} → s' ≤ s → t' ≤ t → Lower s t cs → Lower s' t' cs
lower_from i j none = none
lower_from i j (next a b g h) = next (le_trans i a) (le_trans j b) g h

-- and with the copies of k things before them
lower_run : (k s t : ℕ) {cs : List Copy} → t < s → Lower (s + k) (t + k) cs → Lower s t (run k s t ++ cs)
unfolding run
lower_run zero s t g h = lower_from (omega arith) (omega arith) h
lower_run (suc k) s t g h =
    next (le_refl s) (le_refl t) g (lower_run k (suc s) (suc t) (omega arith) (lower_from (omega arith) (omega arith) h))

-- which are none where the things stay
lower_moved : (k s t : ℕ) {cs : List Copy} → t ≤ s → Lower (s + k) (t + k) cs → Lower s t (moved k s t ++ cs)
lower_moved k s t g h =
    by_test (eqb s t)
    (λ e. rw e (lower_from (omega arith) (omega arith) h))
    (λ e. let f = eqb-false s t e in rw e (lower_run k s t (omega arith) h))

-- ---- the same copies, seen from k places before
-- of n things
run-further : (k n s t s' t' : ℕ) → s' ≡ k + s → t' ≡ k + t → map (further k) (run n s t) ≡ run n s' t'
unfolding run
run-further k zero s t s' t' p q = refl
run-further k (suc n) s t s' t' p q =
    let h = run-further k n (suc s) (suc t) (suc s') (suc t') (omega arith) (omega arith) in
    rw (← p, ← q) (ap (λ (cs : List Copy). record { source = s'; target = t' } ∷ cs) h)

-- of n things that may stay
moved-further : (k n s t s' t' : ℕ) → s' ≡ k + s → t' ≡ k + t → map (further k) (moved n s t) ≡ moved n s' t'
moved-further k n s t s' t' p q =
    by_test (eqb s t)
    (λ e. let f = eqb-true s t e in rw (e, eq-eqb s' t' (omega arith)))
    (λ e. let f = eqb-false s t e in rw (e, ne_eqb s' t' (omega arith)) (run-further k n s t s' t' p q))

-- ---- copies that are made
module _ {X : Type 0} (d : X) where
  -- of two lists of copies the second is made on what the first leaves
  carried-append : (cs cs' : List Copy) (l : List X) → carried d (cs ++ cs') l ≡ carried d cs' (carried d cs l)
  unfolding carried
  carried-append [] cs' l = refl
  carried-append (c ∷ cs) cs' l = carried-append cs cs' (set l c.target (get_or l c.source d))

  -- things b that stand a gap behind the front are written right behind it, and all behind them is as it was
  run-carried : (front m b r : List X) (j s t : ℕ) → t ≡ length front → s ≡ length front + suc j → drop (suc j) m ≡ b ++ r
      → carried d (run (length b) s t) (front ++ m) ≡ front ++ (b ++ drop (length b) m)
  unfolding carried run
  run-carried front m [] r j s t p q e = refl
  run-carried front [] (y ∷ b) r j s t p q e = absurd (nil≢cons e)
  run-carried front (z ∷ m) (y ∷ b) r j s t p q e =
      let f : List X = front ++ y ∷ [] in
      let long : length f ≡ suc (length front) = length-append front (y ∷ []) ∙ omega arith in
      let read : get_or m j d ≡ y = sym (rw add-zero at (get_or-drop j m 0 d)) ∙ ap (λ (us : List X). get_or us 0 d) e in
      let l : List X = front ++ z ∷ m in
      let written : set l t (get_or l s d) ≡ f ++ m = rw (q, get_or-append-add, read) (set_at front z m y t (sym p) ∙ sym (append_snoc front y m)) in
      let left : drop (suc j) m ≡ b ++ r = sym (rw add-one at (drop-drop 1 j m)) ∙ ap (drop 1) e in
      ap (carried d (run (length b) (suc s) (suc t))) written
      ∙ run-carried f m b r j (suc s) (suc t) (omega arith) (omega arith) left
      ∙ append_snoc front y (b ++ drop (length b) m)

  -- so it is without a gap, where nothing is copied
  moved-carried : (front m b r : List X) (k s t : ℕ) → t ≡ length front → s ≡ length front + k → drop k m ≡ b ++ r
      → carried d (moved (length b) s t) (front ++ m) ≡ front ++ (b ++ drop (length b) m)
  unfolding carried
  moved-carried front m b r zero s t p q e = rw (eq-eqb s t (omega arith), e, drop-append_seam)
  moved-carried front m b r (suc j) s t p q e = rw (ne_eqb s t (omega arith)) (run-carried front m b r j s t p q e)

-- ---- what is copied of lines
module _ {X : Type 0} (has : Line → List X) where
  -- each goes to a lower place, and the places rise
  copies_lower : (s t : ℕ) (ls : List Line) → t ≤ s → Lower s t (copies has s t ls)
  unfolding copies
  copies_lower s t [] g = none
  copies_lower s t (x ∷ ls) g =
      let n : ℕ = length (has x) in
      by_test (stands x)
      (λ e. rw e (lower_moved n s t g (copies_lower (s + n) (t + n) ls (omega arith))))
      (λ e. rw e (lower_from (omega arith) (omega arith) (copies_lower (s + n) t ls (omega arith))))

  -- from k places before they are the same, further on
  copies-further : (k s t s' t' : ℕ) (ls : List Line) → s' ≡ k + s → t' ≡ k + t → map (further k) (copies has s t ls) ≡ copies has s' t' ls
  unfolding copies
  copies-further k s t s' t' [] p q = refl
  copies-further k s t s' t' (x ∷ ls) p q =
      let n : ℕ = length (has x) in
      let f = moved-further k n s t s' t' p q in
      let h = copies-further k (s + n) (t + n) (s' + n) (t' + n) ls (omega arith) (omega arith) in
      by_test (stands x)
      (λ e. rw e (map-append (further k) (moved n s t) (copies has (s + n) (t + n) ls) ∙ (λ i. f i ++ h i)))
      (λ e. rw e (copies-further k (s + n) t (s' + n) t' ls (omega arith) q))

  -- a line that stands where it is packed adds none
  copies_first : (a : ℕ) (x : Line) (ls : List Line) → stands x ≡ true
      → copies has a a (x ∷ ls) ≡ copies has (a + length (has x)) (a + length (has x)) ls
  unfolding copies
  copies_first a x ls e = rw (e, eq-eqb a a refl)

  -- nor do lines that all do
  pub copies-past : (a : ℕ) (us ls : List Line) → every stands us ≡ true
      → copies has a a (us ++ ls) ≡ copies has (a + length (joined has us)) (a + length (joined has us)) ls
  unfolding every joined
  copies-past a [] ls h = ap (λ (k : ℕ). copies has k k ls) (sym (add-zero a))
  copies-past a (x ∷ us) ls h =
      let w = both (stands x) (every stands us) h in
      let b : List X = has x in
      let n : a + length b + length (joined has us) ≡ a + length (b ++ joined has us) = omega (arith, length-append b (joined has us)) in
      copies_first a x (us ++ ls) w.0 ∙ copies-past (a + length b) us ls w.1 ∙ ap (λ (k : ℕ). copies has k k ls) n

  -- so those of the lines from the first struck one on are all
  copies-late : (ls : List Line)
      → copies has 0 0 ls ≡ copies has (length (joined has (before_struck ls))) (length (joined has (before_struck ls))) (drop (length (before_struck ls)) ls)
  copies-late ls =
      let late : List Line = drop (length (before_struck ls)) ls in
      ap (copies has 0 0) (before_split ls)
      ∙ copies-past 0 (before_struck ls) late (before ls).all
      ∙ ap (λ (k : ℕ). copies has k k late) (zero-add (length (joined has (before_struck ls))))

  -- made where all lines' things come k places behind the front, they put those of the lines that stand right behind it, and leave all behind these as it was
  leaves_behind : (d : X) (front m rest : List X) (k s t : ℕ) (ls : List Line) → t ≡ length front → s ≡ length front + k → drop k m ≡ joined has ls ++ rest
      → carried d (copies has s t ls) (front ++ m) ≡ front ++ (joined has (standing ls) ++ drop (length (joined has (standing ls))) m)
  unfolding carried copies joined standing
  leaves_behind d front m rest k s t [] p q e = refl
  leaves_behind d front m rest k s t (x ∷ ls) p q e =
      let b : List X = has x in
      let n : ℕ = length b in
      let r : List X = joined has ls ++ rest in
      let cs : List Copy = copies has (s + n) (t + n) ls in
      let split : drop k m ≡ b ++ r = e ∙ append_assoc b (joined has ls) rest in
      let struck : drop (k + n) m ≡ r = sym (drop-drop n k m) ∙ ap (drop n) split ∙ drop-append_seam b r in
      let kept : drop k (drop n m) ≡ r = drop-drop k n m ∙ ap (λ (i : ℕ). drop i m) (add_comm n k) ∙ struck in
      let long : length (front ++ b) ≡ length front + n = length-append front b in
      by_test (stands x)
      (λ w. rw w (carried-append d (moved n s t) cs (front ++ m)
      ∙ ap (carried d cs) (moved-carried d front m b r k s t p q split ∙ sym (append_assoc front b (drop n m)))
      ∙ leaves_behind d (front ++ b) (drop n m) rest k (s + n) (t + n) ls (omega arith) (omega arith) kept
      ∙ simp (append_assoc, length-append, drop-drop)))
      (λ w. rw w (leaves_behind d front m rest (k + n) (s + n) t ls p (omega arith) struck))

-- where none is struck nothing is copied
pub copies_none : {X : Type 0} (has : Line → List X) (ls : List Line) → every stands ls ≡ true → copies has 0 0 ls ≡ []
unfolding copies
copies_none has ls h = rw append-nil at (copies-past has 0 ls [] h)

-- those of the lines from the first struck one on are all, further on
pub copied_behind : {X : Type 0} (has : Line → List X) (ls : List Line) → CopiedBehind has ls
copied_behind has ls =
    let n : ℕ = length (joined has (before_struck ls)) in
    copies-further has n 0 0 n n (drop (length (before_struck ls)) ls) (omega arith) (omega arith) ∙ sym (copies-late has ls)

-- each thing behind the first struck line is copied once, and nothing else
copied_once : {X : Type 0} (has : Line → List X) (ls : List Line) → CopiedOnce has ls (copies has 0 0 ls)
copied_once has ls =
    let n : ℕ = length (joined has (before_struck ls)) in
    let h : Lower n n (copies has 0 0 ls) = rw (copies-late has ls) (copies_lower has n n (drop (length (before_struck ls)) ls) (omega arith)) in
    record {
      sources = rising-once (lower_sources h);
      reads = lower_reads h;
      targets = rising-once (lower_targets h);
      behind = lower_behind (omega arith) h;
      moves = lower_moves h;
      leaves = λ d rest. leaves_behind has d [] (joined has ls ++ rest) rest 0 0 0 ls refl refl refl;
    }

pub settle-copies : SettleCopies
settle-copies = record {
  bytes = copied_once bytes_of;
  bytes_behind = copied_behind bytes_of;
  pool = joined_bytes;
  rows = copied_once row_of;
  rows_behind = copied_behind row_of;
  rows_moved = rows_tally;
}
