-- What the functions on elements answer, exit by exit, of plain lists and numbers. Assumes nothing.
use Prim.Native.Nat.{ℕ, ◌+◌, ◌-◌, ◌<◌, ◌≤◌}
use mathlib.Core.Path.{◌≡◌, refl, sym, ◌∙◌}
use mathlib.Core.List.{List, [], ◌∷◌}
use mathlib.Core.Bool.{Bool, true, false, cond}
use native.Mathlib.Nat.{le_refl}
use native.Mathlib.Omega.{arith}
use borrow.Author.Tests.{eq-eqb, ne_eqb}
use lib.ListN.{length, take, drop, length-drop}
use lib.Seq.{take_all, drop-drop}
use lib.Dec.{eqb}
use Rattle.lists.specs.Pieces.{piece, Piece, pieces}
use Rattle.lists.proofs.PiecesLaws.{pieces-nil}
use Rattle.utf8.specs.Utf8.{chars}
use Rattle.utf8.specs.At.{character_at}
use Rattle.utf8.specs.declared.Character.{Character}
use Rattle.utf8.proofs.Walk.{walked, chars_end}
use Rattle.numbers.specs.declared.Edition.{Edition}
use Rattle.pattern.specs.declared.bracket.Bracket.{Bracket}
use Rattle.matching.specs.declared.elements.ElementAt.{ElementAt}
use Rattle.matching.specs.declared.elements.ElementAt.TheVariants.{Star, Takes, Fails}
use Rattle.pattern.specs.Patterns.{Taker, literal, any_one, takes, Element, star, one, bracketed, opened, element, elements}
use Rattle.pattern.specs.Post.{taken, bracket_told}
use Rattle.matching.specs.Post.{BracketTakes, BracketFails, BracketAtOk, ElementStar, ElementTakes, ElementFails, ends, differs, ElementOk}
use Rattle.pattern.proofs.BracketExits.{told-takes, told_behind, told-within}
use Rattle.pattern.proofs.Places.{walk-pieces}

-- ---- a bracket at a place
pub past-within : (e : Edition) (rest : List ℕ) (x : ℕ) (r : Bracket) → r ≡ bracket_told e rest x → r.past ≤ length rest + 1
past-within e rest x r k = rw k (told-within e rest x)

module _ (e : Edition) (p : List ℕ) (at x : ℕ) (r : Bracket) (k : r ≡ bracket_told e (take (length p - at) (drop at p)) x) where
  here : r ≡ bracket_told e (drop at p) x
  here = rw (take_all (length p - at) (drop at p) (simp length-drop (le_refl (length p - at)))) at k

  says : r.takes ≡ taken (opened e (chars (drop at p))).what x
  says = rw here (told-takes e (drop at p) x)

  behind_here : drop (opened e (chars (drop at p))).more (chars (drop at p)) ≡ chars (drop r.past (drop at p))
  behind_here = rw here (told_behind e (drop at p) x)

  pub bracket_takes : r.takes ≡ true → BracketTakes e p at x (at + r.past)
  bracket_takes t = record { onward = omega arith; behind = behind_here ∙ rw drop-drop; fits = sym says ∙ t }

  pub bracket-fails : r.takes ≡ false → BracketFails e p at x 1
  bracket-fails t = record { once = refl; fails = sym says ∙ t }

-- ---- an element at a place
pub elements_end : (e : Edition) (p : List ℕ) (at : ℕ) → length p ≤ at → elements e (drop at p) ≡ []
unfolding elements
elements_end e p at h = rw (chars_end p at h) (pieces-nil (element e))

pub element-ends : (e : Edition) (p : List ℕ) (at x : ℕ) → length p ≤ at → ElementFails e p at x 0
element-ends e p at x h = ends (elements_end e p at h)

-- what takes one character, and is no star
pub record One (m : Element) : Type 0 where
  pub single : Taker
  pub is : m ≡ one single

one_of : (t : Bool) (p q : Piece Element) → One p.what → One q.what → One (cond t p q).what
one_of true p q o k = o
one_of false p q o k = k

opened_one : (e : Edition) (s : List ℕ) → One (opened e s).what
unfolding opened bracketed
opened_one e [] = record { single = _; is = refl }
opened_one e (c ∷ s) = one_of (eqb c 33) _ _ (record { single = _; is = refl }) (record { single = _; is = refl })

pub element-one : (e : Edition) (c : ℕ) (s : List ℕ) → (c ≡ 42 → ⊥) → One (element e c s).what
unfolding element
element-one e c s h =
    rw (ne_eqb c 42 h)
    (one_of (eqb c 63) _ _ (record { single = _; is = refl }) (one_of (eqb c 91) _ _ (opened_one e s) (record { single = _; is = refl })))

module _ (e : Edition) (p : List ℕ) (at x : ℕ) (f : Character) (q : f ≡ character_at p at) (h : at < length p) where
  reads_alone : (m : Element) → element e f.number (chars (drop f.next p)) ≡ piece m 0 → elements e (drop at p) ≡ m ∷ elements e (drop f.next p)
  unfolding elements
  reads_alone m k = walk-pieces (walked q h) (element e) ∙ rw k

  takes_alone : (m : Taker) → element e f.number (chars (drop f.next p)) ≡ piece (one m) 0 → takes m x ≡ true → ElementTakes e p at x f.next
  takes_alone m k t = record { m = m; room = h; onward = (walked q h).onward; reads = reads_alone (one m) k; fits = t }

  pub is_star : f.number ≡ 42 → ElementStar e p at f.next
  unfolding element
  is_star k = record { room = h; onward = (walked q h).onward; reads = reads_alone star (rw k) }

  pub is_any : f.number ≡ 63 → ElementTakes e p at x f.next
  unfolding element takes
  is_any k = takes_alone any_one (rw k) refl

  module _ (n : f.number ≡ 42 → ⊥) (o : f.number ≡ 63 → ⊥) (k : f.number ≡ 91 → ⊥) where
    is_literal : element e f.number (chars (drop f.next p)) ≡ piece (one (literal f.number)) 0
    unfolding element
    is_literal = rw (ne_eqb f.number 42 n, ne_eqb f.number 63 o, ne_eqb f.number 91 k)

    pub literal-takes : f.number ≡ x → ElementTakes e p at x f.next
    unfolding takes
    literal-takes t = takes_alone (literal f.number) is_literal (eq-eqb f.number x t)

    pub literal-fails : (f.number ≡ x → ⊥) → ElementFails e p at x 1
    unfolding takes
    literal-fails t = differs (literal f.number) _ (reads_alone (one (literal f.number)) is_literal) (ne_eqb f.number x t)

  -- f is the `[` of a bracket, of which `bracket_at` says r
  module _ (k : f.number ≡ 91) (o : One (opened e (chars (drop f.next p))).what) where
    reads-bracket : elements e (drop at p) ≡ one o.single ∷ pieces (element e) (drop (opened e (chars (drop f.next p))).more (chars (drop f.next p)))
    unfolding element elements
    reads-bracket = walk-pieces (walked q h) (element e) ∙ rw (k, o.is)

    bracket_ok : (r : ElementAt) → BracketAtOk e p f.next x r → ElementOk e p at x r
    unfolding elements taken
    bracket_ok (Star n) b = absurd b
    bracket_ok (Takes n) b =
        record {
          m = o.single;
          room = h;
          onward = omega (arith, b.onward, (walked q h).onward);
          reads = reads-bracket ∙ rw b.behind;
          fits = rw o.is at b.fits;
        }
    bracket_ok (Fails m) b = rw b.once (differs o.single _ reads-bracket (rw o.is at b.fails))

  pub is_bracket : f.number ≡ 91 → (r : ElementAt) → BracketAtOk e p f.next x r → ElementOk e p at x r
  is_bracket k = bracket_ok k (opened_one e (chars (drop f.next p)))
