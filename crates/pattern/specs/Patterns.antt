-- Patterns, as 01 has them under 'Classes and patterns'. "Patterns work on characters": a pattern's bytes are read as characters (`utf8`), these as
-- elements, and the elements match the characters of a name. How a pattern is spelled is known to `element` and what stands above it here, and to
-- what is stored of one (Storing.antt, Runs.antt): `element`, `negated` and `squeezed` take the edition (02, request 06), of which there is one. What matches
-- what knows elements only.
-- Assumes nothing.
use Rattle.std.specs.Prelude.{Result, Ok, Err, ℕ, ◌+◌, List, [], ◌∷◌, Bool, true, false, not, cond, ◌&&◌, ◌||◌, length, eqb, leb, ltb}
use Rattle.lists.specs.Each.{any}
use Rattle.lists.specs.Pieces.{Piece, piece, Reader, pieces, sound}
use Rattle.numbers.specs.Signs.{asterisk, bang, closing_bracket, dash, opening_bracket, question}
use Rattle.utf8.specs.Utf8.{chars, utf8}
use Rattle.numbers.specs.declared.Edition.{Edition}
use Rattle.numbers.specs.declared.Refusal.{Refusal}
use Rattle.numbers.specs.declared.Refusal.TheVariants as no

-- ---- brackets
-- "a range by code point (a falling one is empty), otherwise one is a single member"
pub data Member : Type 0 where
  single : ℕ → Member
  range : ℕ → ℕ → Member

unfoldable pub holds : Member → ℕ → Bool
holds (single a) x = eqb a x
holds (range a d) x = leb a x && leb x d

unfoldable pub some_holds : List Member → ℕ → Bool
some_holds ms x = any (λ m. holds m x) ms

-- "What stands between is read left to right: three characters with `-` in the middle are a range …, otherwise one is a single member."
unfoldable pub member : Edition → Reader ℕ Member
member e a [] = piece (single a) 0
member e a (b ∷ []) = piece (single a) 0
member e a (b ∷ d ∷ s) = cond (eqb b dash) (piece (range a d) 2) (piece (single a) 0)

-- the characters up to the first `]`
unfoldable pub inside : List ℕ → List ℕ
inside [] = []
inside (c ∷ s) = cond (eqb c closing_bracket) [] (c ∷ inside s)

-- "the first character never closes; the next `]` does": what stands between, of the characters behind `[` or `[!`
unfoldable pub between : Edition → List ℕ → List ℕ
between e [] = []
between e (c ∷ s) = c ∷ inside s

-- ---- elements
-- what takes one character: itself; `?` any one; a bracket those that one of its members holds, or, where it is negated, those that none holds
pub data Taker : Type 0 where
  literal : ℕ → Taker
  any_one : Taker
  bracket : Bool → List Member → Taker

unfoldable pub takes : Taker → ℕ → Bool
takes (literal c) x = eqb c x
takes any_one x = true
takes (bracket negated ms) x = cond negated (not (some_holds ms x)) (some_holds ms x)

-- "`?` is one, `*` any run, also none"
pub data Element : Type 0 where
  star : Element
  one : Taker → Element

-- the bracket whose `[` stands before the characters s, with k of them, 1 or 0, for `!`, and b between: "No closing `]`" is not well formed
unfoldable pub bracketed : Edition → Bool → ℕ → List ℕ → List ℕ → Piece Element
bracketed e negated k b s =
    record { what = one (bracket negated (pieces (member e) b)); more = k + length b + 1; good = ltb (k + length b) (length s) }

-- the bracket whose `[` stands before s: "After `[` or `[!`"
unfoldable pub opened : Edition → List ℕ → Piece Element
opened e [] = bracketed e false 0 [] []
opened e (c ∷ s) = cond (eqb c bang) (bracketed e true 1 (between e s) (c ∷ s)) (bracketed e false 0 (between e (c ∷ s)) (c ∷ s))

-- the element that starts at the character c with s behind it: "`\` and a stray `]` are literal"
unfoldable pub element : Edition → Reader ℕ Element
element e c s =
    cond (eqb c asterisk) (piece star 0)
    (cond (eqb c question) (piece (one any_one) 0)
    (cond (eqb c opening_bracket) (opened e s)
    (piece (one (literal c)) 0)))

-- the elements of a pattern's bytes
unfoldable pub elements : Edition → List ℕ → List Element
elements e p = pieces (element e) (chars p)

-- ---- matching
unfoldable pub ended : List ℕ → Bool
ended [] = true
ended (c ∷ s) = false

-- t holds of the first character, and f of the characters behind it
unfoldable pub first : (ℕ → Bool) → (List ℕ → Bool) → List ℕ → Bool
first t f [] = false
first t f (c ∷ s) = t c && f s

-- f holds behind some run of the first characters, also none
unfoldable pub somewhere : (List ℕ → Bool) → List ℕ → Bool
somewhere f [] = f []
somewhere f (c ∷ s) = f (c ∷ s) || somewhere f s

-- whether the elements match the characters of a name, all of them
unfoldable pub matches : List Element → List ℕ → Bool
matches [] s = ended s
matches (star ∷ p) s = somewhere (matches p) s
matches (one m ∷ p) s = first (takes m) (matches p) s

-- ---- what is refused
-- 02, request 01: "6 now means an unclosed bracket only", of the characters s
abbrev pub shape_refusal : Edition → List ℕ → Result (Unit {0}) Refusal
shape_refusal e s = cond (sound (element e) s) (Ok tt) (Err no.BadPattern)

-- "glob not UTF-8", then that
unfoldable pub refusal : Edition → List ℕ → Result (Unit {0}) Refusal
refusal e p = cond (utf8 p) (shape_refusal e (chars p)) (Err no.GlobNotUtf8)
