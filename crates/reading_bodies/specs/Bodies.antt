-- Bodies, and what a script or a list has beside them, as 01 has them under 'Reading': the step of a reading behind a skip, at the place p.
-- Assumes nothing.
use Rattle.std.specs.Prelude.{ℕ, ◌+◌, ◌-◌, List, [], ◌∷◌, cond, eqb, ltb, length, get_or, Option, Some, None}
use Rattle.numbers.specs.Marks.{global, local}
use Rattle.numbers.specs.declared.Refusal.TheVariants as no
use Rattle.numbers.specs.Signs.{closing_brace, opening_brace, semicolon}
use Rattle.linker_script.specs.Finding.{first_from, is}
use Rattle.linker_script.specs.Parts.{behind}
use Rattle.reading_tokens.specs.Tokens.{stands_at, name_end}
use Rattle.reading_cursors.specs.declared.Cursor.{Cursor}
use Rattle.reading_cursors.specs.declared.Event.TheVariants.{Node, Body, Section, Parent}
use Rattle.reading_cursors.specs.declared.places.Place.{Place}
use Rattle.reading_cursors.specs.Moves.{Step, stepped, finished, refused_at, moved, in_section, skipping, expecting, ending}
use Rattle.reading_matchers.specs.Matchers.{close_word, matcher}
use Rattle.reading_cursors.specs.Places.{at_node, at_body, in_body_extern, in_sole, in_sole_extern, in_list, in_list_extern}

-- `global:`, `local:`
abbrev pub global_word : List ℕ
global_word = 103 ∷ 108 ∷ 111 ∷ 98 ∷ 97 ∷ 108 ∷ 58 ∷ []

abbrev pub local_word : List ℕ
local_word = 108 ∷ 111 ∷ 99 ∷ 97 ∷ 108 ∷ 58 ∷ []

-- ---- "Script: skip. If `{` follows: one body, `;`, skip, end; node 0 holds the body. Otherwise node 0 is the empty base, then until the end: a name (…),
-- skip, body, parent text up to `;` (raw, trailing blanks kept), `;`, skip."
-- "a name": it starts at p and ends at q
unfoldable pub name_to : Cursor → ℕ → ℕ → Step
name_to c p q = cond (ltb p q) (stepped (Node p (q - p)) (moved c at_body q)) (refused_at no.Unreadable p)

-- "until the end"
unfoldable pub node_at : Cursor → List ℕ → ℕ → Step
node_at c s p = cond (eqb p (length s)) finished (name_to c p (name_end s p))

unfoldable pub script_at : Cursor → List ℕ → ℕ → Step
script_at c s p = cond (eqb (get_or s p 0) opening_brace) (stepped Body (moved c in_sole (p + 1))) (node_at c s p)

-- "parent text up to `;`": from p on
unfoldable pub parent_to : Cursor → ℕ → Option ℕ → Step
parent_to c p (Some q) = stepped (Parent p (q - p)) (moved c at_node (q + 1))
parent_to c p None = refused_at no.Unreadable p

unfoldable pub parent_at : Cursor → List ℕ → ℕ → Step
parent_at c s p = parent_to c p (first_from (is semicolon) s p)

-- behind the `}` of a named node's body, where the next body begins "global at first"; and of a sole body
unfoldable pub node_end : Cursor → List ℕ → ℕ → Step
node_end c s p = skipping c s p (λ q. parent_at (in_section c global) s q)

-- "skip, end"
abbrev pub end_behind : Cursor → List ℕ → ℕ → Step
end_behind c s p = skipping c s p (λ q. ending s q)

unfoldable pub sole_end : Cursor → List ℕ → ℕ → Step
sole_end c s p = skipping c s p (λ q. expecting semicolon s q (λ r. end_behind c s r))

-- ---- "Body: `{`, then repeatedly skip; `}` ends it and skips; `global:` and `local:` set the section (global at first); else a matcher."
-- at the place p, where no `}` stands; an extern block goes on at `inner`
unfoldable pub inside_body : Cursor → List ℕ → Place → ℕ → Step
inside_body c s inner p =
    cond (stands_at global_word s p) (stepped (Section global) (moved (in_section c global) c.place (behind global_word p)))
    (cond (stands_at local_word s p) (stepped (Section local) (moved (in_section c local) c.place (behind local_word p)))
    (matcher c s inner c.place p))

unfoldable pub body_at : Cursor → List ℕ → ℕ → Step
body_at c s p = cond (eqb (get_or s p 0) closing_brace) (node_end c s (p + 1)) (inside_body c s in_body_extern p)

unfoldable pub sole_at : Cursor → List ℕ → ℕ → Step
sole_at c s p = cond (eqb (get_or s p 0) closing_brace) (sole_end c s (p + 1)) (inside_body c s in_sole_extern p)

-- ---- "Export list: skip, `{`, matchers, `};` with nothing between, skip, end. Section words mean nothing there."
unfoldable pub list_at : Cursor → List ℕ → ℕ → Step
list_at c s p = cond (stands_at close_word s p) (end_behind c s (behind close_word p)) (matcher c s in_list_extern in_list p)
