-- How many digits a number has, and its last digit: the turns of `places` and `put_number`. Assumes nothing.
use Prim.Native.Nat.{ℕ, zero, suc, ◌+◌, ◌*◌, ◌-◌, ◌/◌, ◌%◌, ◌<◌, ◌≤◌}
use mathlib.Core.Path.{◌≡◌, refl, sym, ap, ◌∙◌}
use mathlib.Core.List.{List, [], ◌∷◌, ◌++◌, append_assoc, append-nil}
use mathlib.Core.Bool.{Bool, true, false, cond}
use native.Mathlib.Decide.{dec_lt}
use native.Mathlib.Numerals.{add-one}
use native.Mathlib.Omega.{arith}
use borrow.Author.Tests.{lt-ltb, le-ltb}
use lib.Dec.{ltb}
use lib.ListN.{length, get_or, take, drop, set, length-append, length-set, take-append-drop}
use lib.Seq.{drop-drop, length-take-le, set_at, take-suc}
use Rattle.lists.specs.Front.{front}
use Rattle.printing.specs.Printing.{decimal, spelled}

-- ---- lengths
few-spelled : (k n : ℕ) → length (spelled k n) ≤ k
unfolding spelled
few-spelled zero n = omega arith
few-spelled (suc k) n = go (ltb n 10) (few-spelled k (n / 10))
  where
    go : (v : Bool) → length (spelled k (n / 10)) ≤ k → length (cond v ((48 + n) ∷ []) (spelled k (n / 10) ++ (48 + n % 10) ∷ [])) ≤ suc k
    go true h = omega arith
    go false h = simp length-append (omega arith)

pub few-digits : (n : ℕ) → length (decimal n) ≤ 10
unfolding decimal
few-digits n = few-spelled 10 n

pub few-places : (n : ℕ) {r : ℕ} → r ≡ length (decimal n) → r ≤ 10
few-places n e = omega (arith, few-digits n)

-- one digit, or the digits of the tenth and the last one
one-digit : (k n : ℕ) → n < 10 → spelled (suc k) n ≡ (48 + n % 10) ∷ []
unfolding spelled
one-digit k n h =
    let z : n % 10 ≡ n = omega arith in
    rw (lt-ltb n 10 h, z)

more_digits : (k n : ℕ) → 10 ≤ n → spelled (suc k) n ≡ spelled k (n / 10) ++ (48 + n % 10) ∷ []
unfolding spelled
more_digits k n h = rw (le-ltb n 10 h)

-- 10 to the power k
pub tens : ℕ → ℕ
tens zero = 1
tens (suc k) = 10 * tens k

-- ---- the loop of `places`: `left` digits at most are left to count, those of `rest`, and none of a rest of 0
pub record Left (rest left more : ℕ) : Type 0 where
  pub few : rest < tens left
  pub none : rest ≤ 0 → more ≡ 0
  pub some : 0 < rest → more ≡ length (spelled left rest)

pub record Counting (n k rest : ℕ) : Type 0 where
  pub left : ℕ
  pub more : ℕ
  pub rests : Left rest left more
  pub sum : k + left ≡ 10
  pub count : length (decimal n) ≡ k + more

-- the number of digits before the last one
before_last : (k n : ℕ) → n < tens (suc k) → (more : ℕ) × (Left (n / 10) k more × (length (spelled (suc k) n) ≡ 1 + more))
unfolding tens
before_last k n h = go (dec_lt n 10)
  where
    go : Dec (n < 10) → (more : ℕ) × (Left (n / 10) k more × (length (spelled (suc k) n) ≡ 1 + more))
    go (yes f) = (0, (record { few = omega arith; none = λ e. refl; some = λ e. absurd (omega arith) }, ap length (one-digit k n f)))
    go (no f) = (
      length (spelled k (n / 10)),
      (
        record { few = omega arith; none = λ e. absurd (omega arith); some = λ e. refl },
        rw (more_digits k n (omega arith)) (simp length-append (omega arith)),
      ),
    )

pub count-starts : {n : ℕ} → n < 4294967296 → Counting n 1 (n / 10)
unfolding decimal tens
count-starts {n} h =
    let z = before_last 9 n (omega arith) in
    record { left = 9; more = z.0; rests = z.1.0; sum = refl; count = z.1.1 }

module _ {n k rest : ℕ} (inv : Counting n k rest) where
  pub count-ends : rest ≤ 0 → k ≡ length (decimal n)
  count-ends h = omega (arith, inv.count, inv.rests.none h)

  module _ (h : 0 < rest) where
    pub count_room : k ≤ 9
    unfolding tens
    count_room = go inv.left inv.rests.few inv.sum
      where
        go : (j : ℕ) → rest < tens j → k + j ≡ 10 → k ≤ 9
        go zero f e = absurd (omega arith)
        go (suc j) f e = omega arith

    pub count_more : Counting n (k + 1) (rest / 10)
    unfolding tens
    count_more = go inv.left inv.rests.few inv.sum (inv.count ∙ ap (λ (m : ℕ). k + m) (inv.rests.some h))
      where
        go : (j : ℕ) → rest < tens j → k + j ≡ 10 → length (decimal n) ≡ k + length (spelled j rest) → Counting n (k + 1) (rest / 10)
        go zero f e c = absurd (omega arith)
        go (suc j) f e c =
            let z = before_last j rest f in
            record { left = j; more = z.0; rests = z.1.0; sum = omega arith; count = omega (arith, z.1.1) }

-- ---- the loop of `put_number`: digits that stand, from the last one on, and before them those of `rest`
pub data Ahead (rest : ℕ) (ahead : List ℕ) : Type 0 where
  nothing : ahead ≡ [] → Ahead rest ahead
  digits : (k : ℕ) → rest < tens (suc k) → ahead ≡ spelled (suc k) rest → Ahead rest ahead

pub record Filling (d : List ℕ) (at n : ℕ) (l : List ℕ) (i rest : ℕ) : Type 0 where
  pub ahead : List ℕ
  pub stand : List ℕ
  pub all : decimal n ≡ ahead ++ stand
  pub place : i ≡ at + length ahead
  pub rests : Ahead rest ahead
  pub long : length l ≡ length d
  pub list : l ≡ take i d ++ (stand ++ drop (at + length (decimal n)) d)

length-zero : (l : List ℕ) → length l ≡ 0 → l ≡ []
length-zero [] h = refl
length-zero (x ∷ l) h = absurd (omega arith)

set_before : (d : List ℕ) (i : ℕ) (t : List ℕ) (x : ℕ) → i < length d → set (take (i + 1) d ++ t) i x ≡ take i d ++ x ∷ t
set_before d i t x h =
    rw (add-one, take-suc d i 0 h, append_assoc) (set_at (take i d) (get_or d i 0) t x i (length-take-le i d (omega arith)))

-- a number's digits are what stands before the last one, and that one
last_digit : (k rest : ℕ) → rest < tens (suc k) → (before : List ℕ) × ((spelled (suc k) rest ≡ before ++ (48 + rest % 10) ∷ []) × Ahead (rest / 10) before)
unfolding tens
last_digit k rest h = go (dec_lt rest 10)
  where
    more : (j : ℕ) → rest < 10 * tens j → 10 ≤ rest → (before : List ℕ) × ((spelled (suc j) rest ≡ before ++ (48 + rest % 10) ∷ []) × Ahead (rest / 10) before)
    more zero f g = absurd (omega arith)
    more (suc j) f g = (spelled (suc j) (rest / 10), (more_digits (suc j) rest g, digits j (omega arith) refl))

    go : Dec (rest < 10) → (before : List ℕ) × ((spelled (suc k) rest ≡ before ++ (48 + rest % 10) ∷ []) × Ahead (rest / 10) before)
    go (yes f) = ([], (one-digit k rest f, nothing refl))
    go (no f) = more k h (omega arith)

module _ {d : List ℕ} {at n : ℕ} where
  pub fill-starts : n < 4294967296 → {e m : ℕ} → m ≡ length (decimal n) → e ≡ at + m → Filling d at n d e n
  unfolding decimal tens
  fill-starts h {e} f g = record {
    ahead = decimal n;
    stand = [];
    all = sym (append-nil (decimal n));
    place = omega arith;
    rests = digits 9 (omega arith) refl;
    long = refl;
    list = let z : e ≡ at + length (decimal n) = omega arith in rw (← z) (sym (take-append-drop e d));
  }

module _ {d : List ℕ} {at n : ℕ} {l : List ℕ} {i rest : ℕ} (inv : Filling d at n l i rest) where
  pub fill-ends : i ≤ at → l ≡ take at d ++ front (decimal n) (drop at d)
  unfolding front
  fill-ends h =
      let z : length inv.ahead ≡ 0 = omega (arith, inv.place) in
      let y : i ≡ at = omega (arith, inv.place) in
      let e : inv.stand ≡ decimal n = rw (length-zero inv.ahead z) at (sym inv.all) in
      inv.list ∙ rw (y, e, drop-drop)

  pub fill-within : at + 10 ≤ length d → at < i → i - 1 < length l
  fill-within room h = omega (arith, few-digits n, inv.long, inv.place, ap length inv.all, length-append inv.ahead inv.stand)

  pub fill_more : at + 10 ≤ length d → at < i → Filling d at n (set l (i - 1) (48 + rest % 10)) (i - 1) (rest / 10)
  fill_more room h = go inv.rests
    where
      put : (before : List ℕ) → inv.ahead ≡ before ++ (48 + rest % 10) ∷ [] → Ahead (rest / 10) before
          → Filling d at n (set l (i - 1) (48 + rest % 10)) (i - 1) (rest / 10)
      put before e a = record {
        ahead = before;
        stand = (48 + rest % 10) ∷ inv.stand;
        all = inv.all ∙ rw e (append_assoc before ((48 + rest % 10) ∷ []) inv.stand);
        place = omega (arith, inv.place, ap length e, length-append before ((48 + rest % 10) ∷ []));
        rests = a;
        long = length-set l (i - 1) (48 + rest % 10) ∙ inv.long;
        list =
            let z : i ≡ i - 1 + 1 = omega arith in
            let w : i - 1 < length d = omega (arith, fill-within room h, inv.long) in
            let t : List ℕ = inv.stand ++ drop (at + length (decimal n)) d in
            let q : l ≡ take (i - 1 + 1) d ++ t = inv.list ∙ ap (λ (m : ℕ). take m d ++ t) z in
            ap (λ (m : List ℕ). set m (i - 1) (48 + rest % 10)) q ∙ set_before d (i - 1) t (48 + rest % 10) w;
      }

      go : Ahead rest inv.ahead → Filling d at n (set l (i - 1) (48 + rest % 10)) (i - 1) (rest / 10)
      go (nothing e) = absurd (omega (arith, ap length e, inv.place))
      go (digits k f e) =
          let z = last_digit k rest f in
          put z.0 (e ∙ z.1.0) z.1.1
