-- Where a bracket closes, asked of the bytes instead of the characters: `]` is ASCII, so the bytes up to the first one are those of the characters up to it.
-- Assumes nothing.
use Prim.Native.Nat.{ℕ, zero, suc, ◌+◌, ◌<◌, ◌≤◌}
use mathlib.Core.Path.{◌≡◌, refl, sym, ap, ◌∙◌}
use mathlib.Core.List.{List, [], ◌∷◌}
use mathlib.Core.Bool.{Bool, true, false}
use native.Mathlib.Decide.{dec_lt}
use native.Mathlib.Nat.{le_refl}
use native.Mathlib.Omega.{arith}
use borrow.Author.Tests.{eq-eqb, ne_eqb, eqb-true, eqb-false, lt-ltb, le-ltb, ltb-true, ltb-false}
use lib.Dec.{eqb, ltb}
use lib.ListN.{length, drop, length-drop}
use lib.Seq.{drop-drop}
use native.Mathlib.Numerals.{add-one}
use Rattle.utf8.specs.Utf8.{tail, read, chars}
use Rattle.utf8.proofs.Walk.{chars-nil, chars-cons, chars_cons_ascii}
use Rattle.utf8.proofs.Ascii.{tails, tails-few, tails-nil, tails-cons, tails_none, tail-high, TailBlind, blind_chars, blind_length, read_more, read-high}
use Rattle.numbers.specs.declared.Edition.{Edition}
use Rattle.pattern.specs.Patterns.{inside, between}

pub inside-nil : inside [] ≡ []
unfolding inside
inside-nil = refl

pub inside_close : (c : ℕ) (s : List ℕ) → c ≡ 93 → inside (c ∷ s) ≡ []
unfolding inside
inside_close c s h = rw (eq-eqb c 93 h)

pub inside-cons : (c : ℕ) (s : List ℕ) → (c ≡ 93 → ⊥) → inside (c ∷ s) ≡ c ∷ inside s
unfolding inside
inside-cons c s h = rw (ne_eqb c 93 h)

-- what stands before the first `]` keeps its tails
inside-tails : (s : List ℕ) → tails (inside s) ≡ tails s
inside-tails [] = rw inside-nil
inside-tails (c ∷ s) = go (tail c) refl (inside-tails s)
  where
    low : (e : Bool) → eqb c 93 ≡ e → tail c ≡ false → tails (inside (c ∷ s)) ≡ tails (c ∷ s)
    low true q h = rw (inside_close c s (eqb-true c 93 q), tails-nil, tails_none c s h)
    low false q h = rw (inside-cons c s (eqb-false c 93 q), tails_none c (inside s) h, tails_none c s h)

    go : (t : Bool) → tail c ≡ t → tails (inside s) ≡ tails s → tails (inside (c ∷ s)) ≡ tails (c ∷ s)
    go true h i = rw (inside-cons c s (λ q. omega (arith, tail-high h)), tails-cons c (inside s) h, tails-cons c s h, i)
    go false h i = low (eqb c 93) refl h

inside_blind : TailBlind inside
inside_blind = record { keeps = λ b s h. inside-cons b s (λ q. omega (arith, tail-high h)); same = inside-tails }

-- the first character of a text, c, with n bytes behind its first byte a; also where the text is cut at the first `]` behind it
record First (a : ℕ) (s : List ℕ) : Type 0 where
  c : ℕ
  n : ℕ
  whole : chars (a ∷ s) ≡ c ∷ chars (drop n s)
  cut : chars (a ∷ inside s) ≡ c ∷ chars (inside (drop n s))
  long : length (inside s) ≡ n + length (inside (drop n s))
  few : n ≤ length s
  closes : c ≡ 93 → a ≡ 93

first : (a : ℕ) (s : List ℕ) → First a s
first a s = go (dec_lt a 128)
  where
    go : Dec (a < 128) → First a s
    go (yes l) =
        record {
          c = a;
          n = 0;
          whole = chars_cons_ascii a s l;
          cut = chars_cons_ascii a (inside s) l;
          long = omega arith;
          few = omega arith;
          closes = λ h. h;
        }
    go (no l) =
        let m : (read a s).more ≤ length (tails s) = read_more a s in
        let w : 128 ≤ (read a s).what = read-high a s (omega arith) in
        record {
          c = (read a s).what;
          n = (read a s).more;
          whole = chars-cons a s;
          cut = blind_chars inside_blind a s;
          long = blind_length inside_blind (read a s).more s m;
          few = omega (arith, tails-few s);
          closes = λ h. absurd (omega arith);
        }

-- f cuts a text before a `]`: the bytes up to there are those of the characters up to there, so is what follows the `]`, and one has it where the other has
record Cut (f : List ℕ → List ℕ) (s : List ℕ) : Type 0 where
  same : f (chars s) ≡ chars (f s)
  behind : drop (length (f (chars s)) + 1) (chars s) ≡ chars (drop (length (f s) + 1) s)
  closed : ltb (length (f (chars s))) (length (chars s)) ≡ ltb (length (f s)) (length s)

drop_next : (l x : ℕ) (s : List ℕ) → drop (suc l + 1) (x ∷ s) ≡ drop (l + 1) s
drop_next l x s = rw (add-one (suc l), add-one l)

below_more : (l m i j : ℕ) → ltb l m ≡ ltb i j → (n : ℕ) → ltb (suc l) (suc m) ≡ ltb (suc (n + i)) (suc (n + j))
below_more l m i j h n = go (ltb l m) refl
  where
    go : (t : Bool) → ltb l m ≡ t → ltb (suc l) (suc m) ≡ ltb (suc (n + i)) (suc (n + j))
    go true e =
        let p : l < m = ltb-true l m e in
        let q : i < j = ltb-true i j (sym h ∙ e) in
        lt-ltb (suc l) (suc m) (omega arith) ∙ sym (lt-ltb (suc (n + i)) (suc (n + j)) (omega arith))
    go false e =
        let p : m ≤ l = ltb-false l m e in
        let q : j ≤ i = ltb-false i j (sym h ∙ e) in
        le-ltb (suc l) (suc m) (omega arith) ∙ sym (le-ltb (suc (n + i)) (suc (n + j)) (omega arith))

-- a first character that does not close, in front of a text that is cut
cut-cons : {f : List ℕ → List ℕ} {a : ℕ} {s : List ℕ} (k : First a s) → f (k.c ∷ chars (drop k.n s)) ≡ k.c ∷ inside (chars (drop k.n s))
    → f (a ∷ s) ≡ a ∷ inside s → Cut inside (drop k.n s) → Cut f (a ∷ s)
cut-cons {f} {a} {s} k g h t =
    let n = k.n in
    let i : length s ≡ n + length (drop n s) = omega (arith, k.few, length-drop n s) in
    let j : n + (length (inside (drop n s)) + 1) ≡ length (inside s) + 1 = omega (arith, k.long) in
    let d : drop (length (inside (drop n s)) + 1) (drop n s) ≡ drop (length (inside s) + 1) s = drop-drop _ n s ∙ ap (λ (x : ℕ). drop x s) j in
    record {
      same = rw (k.whole, g, h, k.cut, t.same);
      behind =
          rw (k.whole, g, h)
          (drop_next (length (inside (chars (drop n s)))) k.c (chars (drop n s)) ∙ t.behind ∙ ap chars (d ∙ sym (drop_next (length (inside s)) a s)));
      closed =
          rw (k.whole, g, h, k.long, i)
          (below_more (length (inside (chars (drop n s)))) (length (chars (drop n s))) (length (inside (drop n s))) (length (drop n s)) t.closed n);
    }

cut-nil : Cut inside []
cut-nil = record { same = rw (chars-nil, inside-nil, chars-nil); behind = rw (chars-nil, inside-nil, chars-nil); closed = rw chars-nil }

cut_close : (s : List ℕ) → Cut inside (93 ∷ s)
cut_close s =
    let q : chars (93 ∷ s) ≡ 93 ∷ chars s = chars_cons_ascii 93 s (omega arith) in
    let i : (t : List ℕ) → inside (93 ∷ t) ≡ [] = λ t. inside_close 93 t refl in
    record {
      same = rw (q, i (chars s), i s, chars-nil);
      behind = rw (q, i (chars s), i s);
      closed = rw (q, i (chars s), i s) (lt-ltb 0 (suc (length (chars s))) (omega arith) ∙ sym (lt-ltb 0 (suc (length s)) (omega arith)));
    }

-- by the length of the text, since a character may take several bytes
cut-from : (n : ℕ) (s : List ℕ) → length s ≤ n → Cut inside s
cut-from zero [] h = cut-nil
cut-from zero (a ∷ s) h = absurd (omega arith)
cut-from (suc n) s h = step s h (cut-from n)
  where
    go : (a : ℕ) (s : List ℕ) (t : Bool) → eqb a 93 ≡ t → Cut inside (drop (first a s).n s) → Cut inside (a ∷ s)
    go a s true q c = rw (eqb-true a 93 q) (cut_close s)
    go a s false q c =
        let o : a ≡ 93 → ⊥ = eqb-false a 93 q in
        cut-cons (first a s) (inside-cons _ _ (λ x. o ((first a s).closes x))) (inside-cons a s o) c

    step : (s : List ℕ) → length s ≤ suc n → ((t : List ℕ) → length t ≤ n → Cut inside t) → Cut inside s
    step [] h c = cut-nil
    step (a ∷ s) h c = go a s (eqb a 93) refl (c (drop (first a s).n s) (omega (arith, length-drop (first a s).n s)))

cut_inside : (s : List ℕ) → Cut inside s
cut_inside s = cut-from (length s) s (le_refl (length s))

-- ---- what stands between, whose first character never closes
cut-between : (e : Edition) (s : List ℕ) → Cut (between e) s
unfolding between
cut-between e [] = record { same = rw chars-nil; behind = rw chars-nil; closed = rw chars-nil }
cut-between e (a ∷ s) = cut-cons (first a s) refl refl (cut_inside (drop (first a s).n s))

module _ (e : Edition) (s : List ℕ) where
  pub between-chars : between e (chars s) ≡ chars (between e s)
  between-chars = (cut-between e s).same

  pub behind_chars : drop (length (between e (chars s)) + 1) (chars s) ≡ chars (drop (length (between e s) + 1) s)
  behind_chars = (cut-between e s).behind

  pub closed-chars : ltb (length (between e (chars s))) (length (chars s)) ≡ ltb (length (between e s)) (length s)
  closed-chars = (cut-between e s).closed
