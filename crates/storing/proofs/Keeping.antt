-- What is kept of a token: its bytes without their escapes, or with each `[^` as `[!`, byte by byte (runs of stars: Squeezing.antt); by its class, and where
-- it is refused; and that it is no longer than the token and has its class. Assumes nothing.
use Prim.Native.Nat.{ℕ, suc, ◌+◌, ◌-◌, ◌<◌, ◌≤◌}
use mathlib.Core.Path.{◌≡◌, refl, ap, ◌∙◌}
use mathlib.Core.List.{List, [], ◌∷◌}
use mathlib.Core.Bool.{Bool, true, false, cond}
use native.Mathlib.Nat.{add_assoc}
use native.Mathlib.Numerals.{add-one}
use native.Mathlib.Omega.{arith}
use borrow.Author.Tests.{eq-eqb, ne_eqb, lt-ltb, le-ltb, ltb-true, ltb-false}
use lib.Dec.{eqb, ltb}
use lib.ListN.{length, get_or, take, drop, length-take, length-drop, drop_of_length-le}
use lib.Seq.{drop-cons, drop-drop}
use Rattle.numbers.specs.Limits.{over, token_limit}
use Rattle.std.specs.Prelude.{Result, Ok, Err}
use Rattle.numbers.specs.declared.Refusal.{Refusal}
use Rattle.numbers.specs.declared.Refusal.TheVariants as no
use Rattle.lists.specs.Pieces.{piece}
use Rattle.lists.proofs.PiecesLaws.{pieces-cons, pieces_end, pieces-few}
use Rattle.pattern.specs.Storing.{stored, stored_byte, negated, negated_from}
use Rattle.pattern.specs.Runs.{squeezed}
use Rattle.pattern.proofs.Runs.{squeezed-few}
use Rattle.pattern.proofs.Stored.{length-negated}
use Rattle.numbers.specs.declared.Edition.{Edition}
use Rattle.pattern.specs.Patterns.{refusal}
use Rattle.classes.specs.declared.Class.{Class}
use Rattle.classes.specs.declared.Class.TheVariants.{Exact, Escaped, NonStar, Star, All}
use Rattle.classes.specs.Classes.{class_of, lone_star, quoted, scan, unquoted}
use Rattle.storing.specs.Keeping.{unescaped, unescape, Keep, kept, refused, inside_kept, keep, keep_as, keep_glob, keep_scanned, keep_when}

pub byte_here : (s : List ℕ) (i : ℕ) → i < length s → drop i s ≡ get_or s i 0 ∷ drop (i + 1) s
byte_here s i h = rw (add-one i) (drop-cons s i 0 h)

-- ---- without the escapes: a `\` goes where a byte stands behind it
stays : (c : ℕ) (s : List ℕ) → (c ≡ 92 → ⊥) → unescaped c s ≡ piece c 0
unfolding unescaped
stays c [] n = refl
stays c (d ∷ s) n = rw (ne_eqb c 92 n)

goes : (c d : ℕ) (s : List ℕ) → c ≡ 92 → unescaped c (d ∷ s) ≡ piece d 1
unfolding unescaped
goes c d s e = rw (eq-eqb c 92 e)

past : (c : ℕ) (s : List ℕ) → c ≡ 92 → drop (unescaped c s).more s ≡ drop 1 s
unfolding unescaped
past c [] e = refl
past c (d ∷ s) e = rw (goes c d s e)

pub unescape-few : (t : List ℕ) → length (unescape t) ≤ length t
unfolding unescape
unescape-few t = pieces-few unescaped t

pub unescape_end : (t : List ℕ) (i : ℕ) → length t ≤ i → unescape (drop i t) ≡ []
unfolding unescape
unescape_end t i h = pieces_end unescaped t i h

module _ (t : List ℕ) (i : ℕ) (h : i < length t) where
  here : unescape (drop i t) ≡ (unescaped (get_or t i 0) (drop (i + 1) t)).what ∷ unescape (drop (unescaped (get_or t i 0) (drop (i + 1) t)).more (drop (i + 1) t))
  unfolding unescape
  here = rw (byte_here t i h) (pieces-cons unescaped _ _)

  pub unescape_some : 0 < length (unescape (drop i t))
  unescape_some = rw here (omega arith)

  pub unescape-stays : (get_or t i 0 ≡ 92 → ⊥) → unescape (drop i t) ≡ get_or t i 0 ∷ unescape (drop (i + 1) t)
  unescape-stays n = here ∙ rw (stays _ _ n)

  pub unescape_stays_last : length t ≤ i + 1 → unescape (drop i t) ≡ get_or t i 0 ∷ unescape (drop (i + 1) t)
  unfolding unescaped
  unescape_stays_last l = here ∙ rw (drop_of_length-le t l)

  module _ (e : get_or t i 0 ≡ 92) where
    pub unescape-goes : i + 1 < length t → unescape (drop i t) ≡ get_or t (i + 1) 0 ∷ unescape (drop (i + 1 + 1) t)
    unescape-goes l = here ∙ rw (byte_here t (i + 1) l, goes _ _ _ e)

    goes_one : length (unescape (drop i t)) ≡ suc (length (unescape (drop (i + 2) t)))
    goes_one = ap length here ∙ rw (past _ _ e, drop-drop, add_assoc)

-- ---- how many they are: n of the first i bytes are left
pub record Counted (t : List ℕ) (i n : ℕ) : Type 0 where
  pub few : n ≤ i
  pub rest : length (unescape t) ≡ n + length (unescape (drop i t))

pub counted_start : {t : List ℕ} → Counted t 0 0
counted_start = record { few = omega arith; rest = omega arith }

module _ {t : List ℕ} {i n : ℕ} (z : Counted t i n) where
  pub counted_end : length t ≤ i → n ≡ length (unescape t)
  counted_end h = omega (arith, z.rest, ap length (unescape_end t i h))

  module _ (h : i < length t) where
    pub counted-stays : (get_or t i 0 ≡ 92 → ⊥) → Counted t (i + 1) (n + 1)
    counted-stays q = record { few = omega (arith, z.few); rest = omega (arith, z.rest, ap length (unescape-stays t i h q)) }

    pub counted-goes : get_or t i 0 ≡ 92 → Counted t (i + 2) (n + 1)
    counted-goes e = record { few = omega (arith, z.few); rest = omega (arith, z.rest, goes_one t i h e) }

-- ---- each `[^` as `[!`
pub negated_here : (b : Bool) (s : List ℕ) (i : ℕ) → i < length s → (x : ℕ) → x ≡ stored_byte b (get_or s i 0)
    → negated_from b (drop i s) ≡ x ∷ negated_from (eqb (get_or s i 0) 91) (drop (i + 1) s)
unfolding negated_from
negated_here b s i h x e = rw (byte_here s i h, e)

pub stored-few : (e : Edition) (s : List ℕ) → length (stored e s) ≤ length s
unfolding stored negated squeezed
stored-few e s = omega (arith, squeezed-few e 0 false (negated_from false s), length-negated false s)

-- ---- a glob; r is what `pattern_refusal` answers
module _ (e : Edition) (k : Class) (t : List ℕ) (r : Result (Unit {0}) Refusal) (q : r ≡ refusal e (stored e t)) where
  pub glob-refused : (n : Refusal) → r ≡ Err n → keep_glob e k t ≡ refused n
  unfolding keep_glob keep_when
  glob-refused n h = rw (← q, h)

  pub glob-kept : (u : Unit {0}) → r ≡ Ok u → keep_glob e k t ≡ kept k (stored e t)
  unfolding keep_glob keep_when
  glob-kept u h = rw (← q, h)

-- ---- without a look at quotes; b is what `is_lone_star` answers, and k what `analyze_glob_pattern` does
module _ (e : Edition) (t : List ℕ) (b : Bool) (l : b ≡ lone_star t) where
  pub keep_lone : b ≡ true → keep_scanned e t ≡ kept All []
  unfolding keep_scanned keep_as
  keep_lone h = rw (← l, h)

  module _ (h : b ≡ false) (k : Class) (q : k ≡ scan Exact false t) where
    by_class : keep_scanned e t ≡ keep_as e k t
    unfolding keep_scanned
    by_class = rw (← l, h, ← q)

    pub keep_exact : k ≡ Exact → keep_scanned e t ≡ kept Exact t
    unfolding keep_as
    keep_exact c = by_class ∙ rw c

    pub keep-escaped : k ≡ Escaped → keep_scanned e t ≡ kept Escaped (unescape t)
    unfolding keep_as
    keep-escaped c = by_class ∙ rw c

    pub keep_non_star : k ≡ NonStar → keep_scanned e t ≡ keep_glob e NonStar t
    unfolding keep_as
    keep_non_star c = by_class ∙ rw c

    pub keep-star : k ≡ Star → keep_scanned e t ≡ keep_glob e Star t
    unfolding keep_as
    keep-star c = by_class ∙ rw c

    pub keep_all : k ≡ All → keep_scanned e t ≡ kept All []
    unfolding keep_as
    keep_all c = by_class ∙ rw c

-- ---- the whole token; b is what `is_quoted` answers
module _ (e : Edition) (t : List ℕ) where
  pub keep-over : token_limit < length t → keep e t ≡ refused no.TooLong
  unfolding keep
  keep-over h = rw (lt-ltb token_limit (length t) h)

  module _ (h : length t ≤ token_limit) where
    within : keep e t ≡ keep_as e (class_of t) (inside_kept t)
    unfolding keep
    within = rw (le-ltb token_limit (length t) h)

    module _ (b : Bool) (q : b ≡ quoted t) where
      pub keep-quoted : b ≡ true → (s : List ℕ) → s ≡ take (length t - 1 - 1) (drop 1 t) → keep e t ≡ kept Exact s
      unfolding keep_as class_of inside_kept unquoted
      keep-quoted c s d =
          let n : length t - 1 - 1 ≡ length t - 2 = omega arith in
          within ∙ rw (← q, c, d, n)

      pub keep-unquoted : b ≡ false → keep e t ≡ keep_scanned e t
      unfolding keep_scanned class_of inside_kept
      keep-unquoted c = within ∙ rw (← q, c)

-- ---- no longer than the token
abbrev pub bytes : Keep → List ℕ
bytes (kept k b) = b
bytes (refused n) = []

unquoted-few : (t : List ℕ) → length (unquoted t) ≤ length t
unfolding unquoted
unquoted-few t = simp (length-take, length-drop) (omega arith)

glob-few : (e : Edition) (k : Class) (t : List ℕ) → length (bytes (keep_glob e k t)) ≤ length t
unfolding keep_glob keep_when
glob-few e k t = few (refusal e (stored e t))
  where
    few : (x : Result (Unit {0}) Refusal) → length (bytes (keep_when x k (stored e t))) ≤ length t
    few (Ok _) = omega (arith, stored-few e t)
    few (Err n) = omega arith

as_few : (e : Edition) (k : Class) (t : List ℕ) → length (bytes (keep_as e k t)) ≤ length t
unfolding keep_as
as_few e Exact t = omega arith
as_few e Escaped t = unescape-few t
as_few e NonStar t = glob-few e NonStar t
as_few e Star t = glob-few e Star t
as_few e All t = omega arith

inside-few : (t : List ℕ) → length (inside_kept t) ≤ length t
unfolding inside_kept
inside-few t = few (quoted t)
  where
    few : (x : Bool) → length (cond x (unquoted t) t) ≤ length t
    few true = unquoted-few t
    few false = omega arith

pub keep-few : (e : Edition) (t : List ℕ) → length (bytes (keep e t)) ≤ token_limit
keep-few e t = few (ltb token_limit (length t)) refl
  where
    few : (x : Bool) → ltb token_limit (length t) ≡ x → length (bytes (keep e t)) ≤ token_limit
    few true h = rw (keep-over e t (ltb-true token_limit (length t) h)) (omega arith)
    few false h =
        let l : length t ≤ token_limit = ltb-false token_limit (length t) h in
        rw (within e t l) (omega (arith, as_few e (class_of t) (inside_kept t), inside-few t))

-- ---- what is kept has the token's class
when-class : (x : Result (Unit {0}) Refusal) (s : List ℕ) {j k : Class} {b : List ℕ} → keep_when x j s ≡ kept k b → k ≡ j
unfolding keep_when
when-class (Ok _) s h = cc
when-class (Err n) s h = let z : ◌≡◌ {A = ℕ} 0 1 = cc in absurd (omega arith)

as_class : (e : Edition) (j : Class) (t : List ℕ) {k : Class} {b : List ℕ} → keep_as e j t ≡ kept k b → k ≡ j
unfolding keep_as keep_glob keep_when
as_class e Exact t h = cc
as_class e Escaped t h = cc
as_class e NonStar t h = when-class (refusal e (stored e t)) _ h
as_class e Star t h = when-class (refusal e (stored e t)) _ h
as_class e All t h = cc

pub kept-class : (e : Edition) (t : List ℕ) {k : Class} {b : List ℕ} → keep e t ≡ kept k b → k ≡ class_of t
unfolding keep
kept-class e t {k} {b} = go (over token_limit t)
  where
    go : (x : Bool) → cond x (refused no.TooLong) (keep_as e (class_of t) (inside_kept t)) ≡ kept k b → k ≡ class_of t
    go true h = let w : ◌≡◌ {A = ℕ} 0 1 = cc in absurd (omega arith)
    go false h = as_class e (class_of t) (inside_kept t) h
