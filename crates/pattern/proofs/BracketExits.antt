-- What the functions on brackets answer, exit by exit, of plain lists and numbers. Assumes nothing.
use Prim.Native.Nat.{ℕ, ◌+◌, ◌-◌, ◌<◌, ◌≤◌}
use mathlib.Core.Path.{◌≡◌, refl, sym, ap, ◌∙◌}
use mathlib.Core.List.{List, [], ◌∷◌}
use mathlib.Core.Bool.{Bool, true, false, not, beq, cond, ◌&&◌, ◌||◌, and-false}
use native.Mathlib.Nat.{add_assoc}
use native.Mathlib.Decide.{dec_lt, ℕ_discrete}
use native.Mathlib.Numerals.{add-one}
use native.Mathlib.Omega.{arith}
use borrow.Author.Tests.{ne_eqb, le-leb, lt-leb}
use lib.ListN.{length, get_or, take, drop, drop_of_length-le, length-take, length-drop}
use lib.Seq.{drop-cons, drop-drop, take_all}
use lib.Dec.{eqb, leb}
use Rattle.lists.specs.Each.{any}
use Rattle.lists.specs.Pieces.{piece, pieces}
use Rattle.lists.proofs.PiecesLaws.{pieces-nil}
use Rattle.utf8.specs.Utf8.{read, chars}
use Rattle.utf8.specs.At.{character_at}
use Rattle.utf8.specs.declared.Character.{Character}
use Rattle.utf8.proofs.Walk.{walked, chars-nil, chars_end, chars-cons, chars_cons_ascii}
use Rattle.numbers.specs.declared.Edition.{Edition}
use Rattle.pattern.specs.declared.bracket.MemberAt.{MemberAt}
use Rattle.pattern.specs.Patterns.{single, range, holds, some_holds, member, inside, between, takes, bracketed, opened}
use Rattle.pattern.specs.Post.{MemberOk, bracket_told, mark_as, taken}
use Rattle.std.specs.List.{position_or_len}
use Rattle.std.proofs.lemmas.List.Recursion.{is_position_or_len}
use Rattle.pattern.proofs.Bytes.{inside-nil, between-chars, behind_chars}
use Rattle.pattern.proofs.Places.{walk-pieces, number-within, ascii_byte}

-- ---- the mark
pub mark-few : (token : Bool) (s : List ℕ) → mark_as token s ≤ length s
mark-few token [] = omega arith
mark-few token (c ∷ s) = go (eqb c 33 || token && eqb c 94)
  where
    go : (t : Bool) → cond t 1 0 ≤ length (c ∷ s)
    go true = omega arith
    go false = omega arith

module _ (token : Bool) (s : List ℕ) (at : ℕ) where
  pub mark_end : length s ≤ at → 0 ≡ mark_as token (drop at s)
  mark_end h = rw (drop_of_length-le s h)

  module _ (h : at < length s) where
    pub mark-bang : get_or s at 0 ≡ 33 → 1 ≡ mark_as token (drop at s)
    mark-bang q = rw (drop-cons s at 0 h, q)

    pub mark-caret : token ≡ true → get_or s at 0 ≡ 94 → 1 ≡ mark_as token (drop at s)
    mark-caret t q = rw (drop-cons s at 0 h, q, t)

    module _ (n : get_or s at 0 ≡ 33 → ⊥) where
      pub mark-plain : token ≡ false → 0 ≡ mark_as token (drop at s)
      mark-plain t = rw (drop-cons s at 0 h, ne_eqb (get_or s at 0) 33 n, t)

      pub mark_other : (get_or s at 0 ≡ 94 → ⊥) → 0 ≡ mark_as token (drop at s)
      mark_other m = rw (drop-cons s at 0 h, ne_eqb (get_or s at 0) 33 n, ne_eqb (get_or s at 0) 94 m, and-false token)

-- ---- what stands between
-- before the first `]` stands what is inside
inside_length : (s : List ℕ) → length (inside s) ≡ position_or_len (λ c. eqb c 93) s
unfolding inside
inside_length = is_position_or_len (λ s. length (inside s)) (λ c. eqb c 93) nil cons
  where
    nil : length (inside []) ≡ 0
    nil = ap length inside-nil

    cons : (c : ℕ) (s : List ℕ) → length (inside (c ∷ s)) ≡ cond (eqb c 93) 0 (1 + length (inside s))
    cons c s = go (eqb c 93)
      where
        go : (t : Bool) → length (cond t [] (c ∷ inside s)) ≡ cond t 0 (1 + length (inside s))
        go true = refl
        go false = omega arith

module _ (e : Edition) (s : List ℕ) (from : ℕ) where
  pub between_end : length s ≤ from → 0 ≡ length (between e (drop from s))
  unfolding between
  between_end h = rw (drop_of_length-le s h)

  -- the first byte, and what stands behind it before a `]`
  pub between_first : (k : ℕ) → k ≡ position_or_len (λ c. eqb c 93) (take (length s - (from + 1)) (drop (from + 1) s)) → from < length s
      → 1 + k ≡ length (between e (drop from s))
  unfolding between
  between_first k q h =
      let t : List ℕ = drop (from + 1) s in
      let w : take (length s - (from + 1)) t ≡ t = take_all (length s - (from + 1)) t (simp length-drop (omega arith)) in
      rw (drop-cons s from 0 h, ← add-one from) (omega (arith, rw w at q, inside_length t))

-- ---- members
module _ (e : Edition) (a : ℕ) where
  member_last : member e a [] ≡ piece (single a) 0
  unfolding member
  member_last = refl

  member_other : (b : ℕ) (s : List ℕ) → (b ≡ 45 → ⊥) → member e a (b ∷ s) ≡ piece (single a) 0
  unfolding member
  member_other b [] n = refl
  member_other b (d ∷ s) n = rw (ne_eqb b 45 n)

  member-open : (b : ℕ) → member e a (b ∷ []) ≡ piece (single a) 0
  unfolding member
  member-open b = refl

  member-range : (d : ℕ) (s : List ℕ) → member e a (45 ∷ d ∷ s) ≡ piece (range a d) 2
  unfolding member
  member-range d s = refl

module _ (e : Edition) (body : List ℕ) (at x : ℕ) (f g : Character)
    (p : f ≡ character_at body at) (q : g ≡ character_at body f.next) (h : at < length body) where
  abbrev SingleOk : Type 0
  SingleOk = MemberOk e body at x (record { holds = eqb f.number x; next = f.next })

  is_single : member e f.number (chars (drop f.next body)) ≡ piece (single f.number) 0 → SingleOk
  unfolding holds
  is_single r = record { m = single f.number; onward = (walked p h).onward; reads = walk-pieces (walked p h) (member e) ∙ rw r; held = refl }

  -- f is the last character of the body, or g stands behind it
  or_last : member e f.number (g.number ∷ chars (drop g.next body)) ≡ piece (single f.number) 0 → SingleOk
  or_last r = is_single (go (dec_lt f.next (length body)))
    where
      go : Dec (f.next < length body) → member e f.number (chars (drop f.next body)) ≡ piece (single f.number) 0
      go (yes l) = rw (walked q l).reads r
      go (no l) = rw (chars_end body f.next (omega arith)) (member_last e f.number)

  pub single-plain : (g.number ≡ 45 → ⊥) → SingleOk
  single-plain n = or_last (member_other e f.number g.number (chars (drop g.next body)) n)

  pub single-open : length body ≤ g.next → SingleOk
  single-open l = or_last (rw (chars_end body g.next l) (member-open e f.number g.number))

  module _ (d : g.number ≡ 45) (l : g.next < length body) (t : Character) (r : t ≡ character_at body g.next) where
    is_range : (b : Bool) → b ≡ leb f.number x && leb x t.number → MemberOk e body at x (record { holds = b; next = t.next })
    unfolding holds
    is_range b k =
        let first = walked p h in
        let second = walked q (number-within body q (λ z. omega arith)) in
        let third = walked r l in
        record {
          m = range f.number t.number;
          onward = omega (arith, first.onward, second.onward, third.onward);
          reads = walk-pieces first (member e) ∙ rw (second.reads, d, third.reads, member-range e f.number t.number);
          held = k;
        }

    pub range-from : f.number ≤ x → MemberOk e body at x (record { holds = leb x t.number; next = t.next })
    range-from k = is_range (leb x t.number) (rw (le-leb f.number x k))

    pub range_above : x < f.number → MemberOk e body at x (record { holds = leb f.number x; next = t.next })
    range_above k = is_range (leb f.number x) (rw (lt-leb f.number x k))

-- ---- the walk over the members
-- whether one of the members from a place on holds x
abbrev pub holds_from : Edition → List ℕ → ℕ → ℕ → Bool
holds_from e body x at = some_holds (pieces (member e) (chars (drop at body))) x

module _ (e : Edition) (body : List ℕ) (x at : ℕ) (inv : holds_from e body x 0 ≡ holds_from e body x at) where
  pub members_end : length body ≤ at → false ≡ holds_from e body x 0
  unfolding some_holds any
  members_end h = sym (inv ∙ rw (chars_end body at h, pieces-nil (member e)))

  module _ {r : MemberAt} (k : MemberOk e body at x r) where
    members_here : holds_from e body x 0 ≡ r.holds || holds_from e body x r.next
    unfolding some_holds any
    members_here = inv ∙ rw (k.reads, k.held)

    pub members_found : r.holds ≡ true → true ≡ holds_from e body x 0
    members_found h = sym (members_here ∙ rw h)

    pub members_again : r.holds ≡ false → holds_from e body x 0 ≡ holds_from e body x r.next
    members_again h = members_here ∙ rw h

-- ---- the bracket
-- it opens with so many bytes, which are as many characters, before what stands between
pub record Opens (e : Edition) (rest : List ℕ) (negated : Bool) (from : ℕ) : Type 0 where
  pub reads : opened e (chars rest) ≡ bracketed e negated from (between e (chars (drop from rest))) (chars rest)
  pub skips : drop from (chars rest) ≡ chars (drop from rest)

-- by its mark
pub opens : (e : Edition) (rest : List ℕ) → Opens e rest (eqb (mark_as false rest) 1) (mark_as false rest)
unfolding opened between
opens e [] = record { reads = rw chars-nil; skips = refl }
opens e (c ∷ s) = go (ℕ_discrete c 33)
  where
    go : Dec (c ≡ 33) → Opens e (c ∷ s) (eqb (mark_as false (c ∷ s)) 1) (mark_as false (c ∷ s))
    go (yes q) =
        let k : chars (33 ∷ s) ≡ 33 ∷ chars s = chars_cons_ascii 33 s (omega arith) in
        rw q (record { reads = rw k; skips = rw k })
    go (no n) =
        let m : (read c s).what ≡ 33 → ⊥ = λ q. n (sym (ascii_byte c s (omega arith)) ∙ q) in
        rw (ne_eqb c 33 n) (record { reads = rw (chars-cons c s, ne_eqb (read c s).what 33 m); skips = refl })

inside-part : (s : List ℕ) → take (length (inside s)) s ≡ inside s
unfolding inside
inside-part [] = refl
inside-part (c ∷ s) = go (eqb c 93) (inside-part s)
  where
    go : (t : Bool) → take (length (inside s)) s ≡ inside s → take (length (cond t [] (c ∷ inside s))) (c ∷ s) ≡ cond t [] (c ∷ inside s)
    go true h = refl
    go false h = rw h

-- what holds is turned round by a mark
turned : (t b : Bool) → not (beq b t) ≡ cond t (not b) b
turned true true = refl
turned true false = refl
turned false true = refl
turned false false = refl

-- what stands between is the first part of s
pub between-part : (e : Edition) (s : List ℕ) → take (length (between e s)) s ≡ between e s
unfolding between
between-part e [] = refl
between-part e (c ∷ s) = rw (inside-part s)

pub between-few : (e : Edition) (s : List ℕ) → length (between e s) ≤ length s
between-few e s = omega (arith, simp length-take at (ap length (between-part e s)))

-- mark and members lie in what is left, of a token as of stored bytes
pub bracket-fits : (e : Edition) (token : Bool) (rest : List ℕ) {from k : ℕ} → from ≡ mark_as token rest → k ≡ length (between e (drop from rest))
    → from + k ≤ length rest
bracket-fits e token rest {from} p q = omega (arith, mark-few token rest, simp length-drop at (between-few e (drop from rest)))

module _ (e : Edition) (rest : List ℕ) {from k : ℕ} (p : from ≡ mark_as false rest) (q : k ≡ length (between e (drop from rest))) where
  here : Opens e rest (eqb from 1) from
  here = rw p (opens e rest)

  bracket_behind : drop (opened e (chars rest)).more (chars rest) ≡ chars (drop (from + k + 1) rest)
  unfolding bracketed
  bracket_behind =
      let n = length (between e (chars (drop from rest))) in
      rw (here.reads, add_assoc from n 1, ← drop-drop (n + 1) from (chars rest), here.skips, behind_chars, drop-drop, ← q, add_assoc from k 1)

  module _ (x : ℕ) (b : Bool) (h : b ≡ some_holds (pieces (member e) (chars (take (from + k - from) (drop from rest)))) x) where
    bracket-says : cond (eqb from 1) (not b) b ≡ taken (opened e (chars rest)).what x
    unfolding bracketed taken takes
    bracket-says =
        let l : from + k - from ≡ length (between e (drop from rest)) = omega arith in
        rw (here.reads, between-chars e (drop from rest), h, l, between-part e (drop from rest))

    bracket_is : (t : Bool) → t ≡ cond (eqb from 1) (not b) b → record { takes = t; past = from + k + 1 } ≡ bracket_told e rest x
    unfolding bracket_told
    bracket_is t i = rw (i, bracket-says, q, p)

    pub bracket_tells : record { takes = not (beq b (eqb from 1)); past = from + k + 1 } ≡ bracket_told e rest x
    bracket_tells = bracket_is _ (turned (eqb from 1) b)

-- what is told of a bracket, for those who read on behind it
module _ (e : Edition) (rest : List ℕ) (x : ℕ) where
  pub told-takes : (bracket_told e rest x).takes ≡ taken (opened e (chars rest)).what x
  unfolding bracket_told
  told-takes = refl

  pub told_behind : drop (opened e (chars rest)).more (chars rest) ≡ chars (drop (bracket_told e rest x).past rest)
  unfolding bracket_told
  told_behind = bracket_behind e rest refl refl

  pub told-within : (bracket_told e rest x).past ≤ length rest + 1
  unfolding bracket_told
  told-within = omega (arith, bracket-fits e false rest refl refl)
