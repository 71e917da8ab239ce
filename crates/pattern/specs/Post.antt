-- What the inner functions answer, for the proofs of those that call them: where, in a pattern's bytes, a bracket of Patterns.antt stands. What a user
-- is promised does not lean on it.
-- Assumes nothing.
use Rattle.std.specs.Prelude.{ℕ, ◌+◌, ◌<◌, ◌≡◌, List, [], ◌∷◌, Bool, false, cond, ◌&&◌, ◌||◌, length, drop, eqb}
use Rattle.lists.specs.Pieces.{pieces}
use Rattle.numbers.specs.Signs.{bang, caret}
use Rattle.utf8.specs.Utf8.{chars}
use Rattle.numbers.specs.declared.Edition.{Edition}
use Rattle.pattern.specs.declared.bracket.MemberAt.{MemberAt}
use Rattle.pattern.specs.declared.bracket.Bracket.{Bracket}
use Rattle.pattern.specs.Patterns.{Member, holds, member, between, takes, Element, star, one, opened}

pub record MemberOk (e : Edition) (body : List ℕ) (at x : ℕ) (r : MemberAt) : Type 0 where
  pub m : Member
  pub onward : at < r.next
  pub reads : pieces (member e) (chars (drop at body)) ≡ m ∷ pieces (member e) (chars (drop r.next body))
  pub held : r.holds ≡ holds m x

-- how many bytes the mark of a negated bracket takes behind its `[`: `!`, or in a token also the `^` that is stored as `!`
abbrev pub mark_as : Bool → List ℕ → ℕ
mark_as token [] = 0
mark_as token (c ∷ s) = cond (eqb c bang || (token && eqb c caret)) 1 0

-- what an element says of a character; a star is no test of it
unfoldable pub taken : Element → ℕ → Bool
taken star x = false
taken (one m) x = takes m x

-- what is told of the bracket whose `[` stands just before `rest`: what it says of x, and the place behind its `]`, or behind where that would stand
unfoldable pub bracket_told : Edition → List ℕ → ℕ → Bracket
bracket_told e rest x =
    record {
      takes = taken (opened e (chars rest)).what x;
      past = mark_as false rest + length (between e (drop (mark_as false rest) rest)) + 1;
    }
