-- What is read where a whole node stands in a text as `t{}u;`, with its name t and its parent text u: a node, its body and its parent, and then the text behind
-- it, at the start of a script (`script-reads`) and behind another node (`node-reads`). Assumes nothing.
use Prim.Native.Nat.{ℕ, suc, ◌+◌, ◌-◌, ◌<◌, ◌≤◌}
use mathlib.Core.Path.{◌≡◌, refl, sym, ap, ◌∙◌}
use mathlib.Core.List.{List, [], ◌∷◌, ◌++◌}
use mathlib.Core.Bool.{Bool, true, false, true≢false}
use native.Mathlib.Nat.{add-zero}
use native.Mathlib.Omega.{arith}
use borrow.Author.Tests.{eq-eqb, ne_eqb, le-ltb, lt-ltb}
use lib.Dec.{eqb}
use lib.ListN.{length, get_or, drop, length-append, length-drop, drop_of_length-le}
use lib.Seq.{drop_at, drop-drop, get_or-drop}
use Rattle.numbers.specs.declared.Edition.{Edition}
use Rattle.numbers.specs.Editions.{reld}
use Rattle.numbers.specs.Limits.{script_limit}
use Rattle.numbers.specs.Signs.{asterisk, closing_brace, hash, opening_brace, semicolon}
use Rattle.lists.specs.Each.{every}
use Rattle.lists.proofs.Tests.{both, neither}
use Rattle.std.specs.Prelude.{Some, Ok}
use Rattle.linker_script.specs.Finding.{first_from, first_in, is}
use Rattle.linker_script.specs.Skip.{blank, move, skip, skip_past, skips}
use Rattle.reading_tokens.specs.Tokens.{name_in, named}
use Rattle.reading_cursors.specs.declared.Cursor.{Cursor}
use Rattle.reading_cursors.specs.declared.Event.{Event}
use Rattle.reading_cursors.specs.declared.Event.TheVariants.{Node, Body, Parent}
use Rattle.reading_cursors.specs.Moves.{stepped, finished, edition_at, in_section, moved, start}
use Rattle.reading_cursors.specs.Places.{at_script, at_node, at_body, in_body}
use Rattle.reading_bodies.specs.Bodies.{name_to, node_at, script_at, parent_to, parent_at, node_end, body_at}
use Rattle.reading.specs.Scripts.{opening_at, start_script, go_node, go_body, step_at, next}
use Rattle.reading.specs.Events.{Reading, accepted, and_then, ends, reading, reading_from}
use Rattle.reading.specs.Standing.{Standing}
use Rattle.reading.proofs.Onward.{next_stands, reading_step, start_stands}

-- ---- a skip stops where it takes nothing
pub skip-stays : (e : Edition) (p : ℕ) (l : List ℕ) → skips l 0 ≡ false → skip_past e 0 p l ≡ Ok p
unfolding skip_past move
skip-stays e p [] h = refl
skip-stays e p (b ∷ l) h =
    let a = neither (blank b) _ h in
    let d = neither (eqb b hash) _ a.1 in
    rw (a.0, d.0, d.1)

-- a text that begins with t, and b behind it
stays_behind : (t : List ℕ) (b : ℕ) (l : List ℕ) → skips t 0 ≡ false → eqb b asterisk ≡ false → skips (b ∷ l) 0 ≡ false → skips (t ++ b ∷ l) 0 ≡ false
stays_behind [] b l h e k = k
stays_behind (x ∷ []) b l h e k = rw e h
stays_behind (x ∷ y ∷ t) b l h e k = h

-- ---- where a name ends, and where a text without `;` does
name-ends : (p : ℕ) (t : List ℕ) (b : ℕ) (l : List ℕ) → every named t ≡ true → named b ≡ false → name_in p (t ++ b ∷ l) ≡ p + length t
unfolding every name_in
name-ends p [] b l h e = rw (e, add-zero)
name-ends p (x ∷ t) b l h e =
    let a = both (named x) (every named t) h in
    rw (a.0, name-ends (p + 1) t b l a.1 e) (omega arith)

module _ (free : ℕ → Bool) (none : (b : ℕ) → free b ≡ true → eqb b semicolon ≡ false) where
  text-ends : (p : ℕ) (u l : List ℕ) → every free u ≡ true → first_in (is semicolon) p (u ++ semicolon ∷ l) ≡ Some (p + length u)
  unfolding every first_in
  text-ends p [] l h = rw add-zero
  text-ends p (x ∷ u) l h =
      let a = both (free x) (every free u) h in
      let z : p + 1 + length u ≡ p + suc (length u) = omega arith in
      rw (none x a.0, text-ends (p + 1) u l a.1, z)

module _ (s : List ℕ) where
  -- ---- the text from a place on
  pub drop_behind : (p : ℕ) (t l : List ℕ) → drop p s ≡ t ++ l → drop (p + length t) s ≡ l
  drop_behind p t l e = sym (drop-drop (length t) p s) ∙ ap (drop (length t)) e ∙ drop_at t l (length t) refl

  pub first_byte : (p b : ℕ) (l : List ℕ) → drop p s ≡ b ∷ l → get_or s p 0 ≡ b
  first_byte p b l e = ap (λ (k : ℕ). get_or s k 0) (sym (add-zero p)) ∙ sym (get_or-drop p s 0 0) ∙ ap (λ (m : List ℕ). get_or m 0 0) e

  pub skip_here : (x : Edition) (p : ℕ) → skips (drop p s) 0 ≡ false → skip x s p ≡ Ok p
  unfolding skip
  skip_here x p h = skip-stays x p (drop p s) h

  -- ---- each step
  module _ (c : Cursor) where
    -- a node is looked for, at the start of a script and behind another node
    node_first : c.place ≡ at_script → length s ≤ script_limit → skips (drop c.at s) 0 ≡ false → (get_or s c.at 0 ≡ opening_brace → ⊥)
        → next s c ≡ node_at c s c.at
    unfolding next step_at start_script script_at
    node_first z h k f =
        rw (z, le-ltb script_limit (length s) h, skip_here (edition_at c) c.at k, ne_eqb (get_or s c.at 0) opening_brace f)

    node_next : c.place ≡ at_node → skips (drop c.at s) 0 ≡ false → next s c ≡ node_at c s c.at
    unfolding next step_at go_node
    node_next z k = rw (z, skip_here (edition_at c) c.at k)

    name-step : (t l : List ℕ) → drop c.at s ≡ t ++ opening_brace ∷ l → 0 < length t → every named t ≡ true
        → node_at c s c.at ≡ stepped (Node c.at (length t)) (moved c at_body (c.at + length t))
    unfolding node_at name_to named
    name-step t l e h k =
        let i : c.at < length s = omega (arith, length-drop c.at s, ap length e ∙ length-append t (opening_brace ∷ l)) in
        let z : c.at + length t - c.at ≡ length t = omega arith in
        rw (ne_eqb c.at (length s) (λ q. omega arith), e, name-ends c.at t opening_brace l k refl, lt-ltb c.at (c.at + length t) (omega arith), z)

    body-step : (l : List ℕ) → c.place ≡ at_body → drop c.at s ≡ opening_brace ∷ l → next s c ≡ stepped Body (moved c in_body (c.at + 1))
    unfolding next step_at opening_at blank
    body-step l z e =
        let k : skips (drop c.at s) 0 ≡ false = rw e in
        rw (z, skip_here (edition_at c) c.at k, first_byte c.at opening_brace l e)

    end_step : c.place ≡ at_node → c.at ≡ length s → next s c ≡ finished
    unfolding node_at blank
    end_step z e =
        let d : drop c.at s ≡ [] = drop_of_length-le s {i = c.at} (omega arith) in
        let k : skips (drop c.at s) 0 ≡ false = rw d in
        node_next z k ∙ rw (eq-eqb c.at (length s) e)

    module _ (free : ℕ → Bool) (none : (b : ℕ) → free b ≡ true → eqb b semicolon ≡ false) where
      parent-step : (u l : List ℕ) → c.place ≡ in_body → drop c.at s ≡ closing_brace ∷ (u ++ semicolon ∷ l) → skips u 0 ≡ false → every free u ≡ true
          → next s c ≡ stepped (Parent (c.at + 1) (length u)) (moved (in_section c 0) at_node (c.at + 1 + length u + 1))
      unfolding next step_at go_body body_at node_end parent_at parent_to first_from blank
      parent-step u l z e h f =
          let k : skips (drop c.at s) 0 ≡ false = rw e in
          let d : drop (c.at + 1) s ≡ u ++ semicolon ∷ l = drop_behind c.at (closing_brace ∷ []) (u ++ semicolon ∷ l) e in
          let j : skips (drop (c.at + 1) s) 0 ≡ false = rw d (stays_behind u semicolon l h refl refl) in
          let y : c.at + 1 + length u - (c.at + 1) ≡ length u = omega arith in
          rw (
            z,
            skip_here (edition_at c) c.at k,
            first_byte c.at closing_brace (u ++ semicolon ∷ l) e,
            skip_here (edition_at c) (c.at + 1) j,
            d,
            text-ends free none (c.at + 1) u l f,
            y,
          )

-- ---- a whole node: where the reading stands behind it, at the place p, and what was read, which is r
pub record Whole (s : List ℕ) (r : Reading) (p : ℕ) (t u : List ℕ) : Type 0 where
  pub behind : Cursor
  pub stands : Standing s behind
  pub place : behind.place ≡ at_node
  pub at : behind.at ≡ p + length t + length u + 3
  pub reads : r ≡ and_then (Node p (length t)) (and_then Body (and_then (Parent (p + length t + 2) (length u)) (reading_from s behind)))

pub event_reads : {s : List ℕ} {c d : Cursor} {e : Event} → Standing s c → next s c ≡ stepped e d → reading_from s c ≡ and_then e (reading_from s d)
event_reads k h = reading_step k ∙ rw h

-- a name, and a text that stands before a `;`, by a test `free` that no `;` passes
module _ (free : ℕ → Bool) (none : (b : ℕ) → free b ≡ true → eqb b semicolon ≡ false) (s t u l : List ℕ) (some : 0 < length t) (bytes : every named t ≡ true)
    (plain : skips t 0 ≡ false) (plain-text : skips u 0 ≡ false) (text : every free u ≡ true) where
  abbrev StandsAt : ℕ → Type 0
  StandsAt p = drop p s ≡ t ++ opening_brace ∷ closing_brace ∷ (u ++ semicolon ∷ l)

  unskipped : (p : ℕ) → StandsAt p → skips (drop p s) 0 ≡ false
  unfolding blank
  unskipped p e = rw e (stays_behind t opening_brace (closing_brace ∷ (u ++ semicolon ∷ l)) plain refl refl)

  node-from : {c : Cursor} → Standing s c → next s c ≡ node_at c s c.at → StandsAt c.at → Whole s (reading_from s c) c.at t u
  node-from {c} k n e =
      let c₁ : Cursor = moved c at_body (c.at + length t) in
      let c₂ : Cursor = moved c₁ in_body (c₁.at + 1) in
      let c₃ : Cursor = moved (in_section c₂ 0) at_node (c₂.at + 1 + length u + 1) in
      let d₁ : drop c₁.at s ≡ opening_brace ∷ closing_brace ∷ (u ++ semicolon ∷ l) = drop_behind s c.at t _ e in
      let d₂ : drop c₂.at s ≡ closing_brace ∷ (u ++ semicolon ∷ l) = drop_behind s c₁.at (opening_brace ∷ []) _ d₁ in
      let n₀ : next s c ≡ stepped (Node c.at (length t)) c₁ = n ∙ name-step s c t _ e some bytes in
      let n₁ : next s c₁ ≡ stepped Body c₂ = body-step s c₁ _ refl d₁ in
      let n₂ : next s c₂ ≡ stepped (Parent (c₂.at + 1) (length u)) c₃ = parent-step s c₂ free none u l refl d₂ plain-text text in
      let k₁ = next_stands k n₀ in
      let k₂ = next_stands k₁ n₁ in
      let z : c₂.at + 1 ≡ c.at + length t + 2 = omega arith in
      record {
        behind = c₃;
        stands = next_stands k₂ n₂;
        place = refl;
        at = omega arith;
        reads = event_reads k n₀
            ∙ ap (and_then (Node c.at (length t)))
            (event_reads k₁ n₁
            ∙ ap (and_then Body) (event_reads k₂ n₂ ∙ ap (λ (p : ℕ). and_then (Parent p (length u)) (reading_from s c₃)) z));
      }

  -- a node behind another
  pub node-reads : {c : Cursor} → Standing s c → c.place ≡ at_node → StandsAt c.at → Whole s (reading_from s c) c.at t u
  node-reads {c} k z e = node-from k (node_next s c z (unskipped c.at e)) e

  -- the first node of a script
  first_byte-named : StandsAt 0 → get_or s 0 0 ≡ opening_brace → ⊥
  unfolding every named
  first_byte-named e z = go t refl some bytes
    where
      go : (v : List ℕ) → v ≡ t → 0 < length v → every named v ≡ true → ⊥
      go [] y h b = absurd (omega arith)
      go (x ∷ v) y h b =
          let q : x ≡ opening_brace =
          ap (λ (m : List ℕ). get_or m 0 0) (ap (λ (m : List ℕ). m ++ opening_brace ∷ closing_brace ∷ (u ++ semicolon ∷ l)) y ∙ sym e) ∙ z in
          true≢false (sym (both (named x) (every named v) b).0 ∙ rw q)

  pub script-reads : length s ≤ script_limit → StandsAt 0 → Whole s (reading reld at_script s) 0 t u
  unfolding reading start
  script-reads h e =
      let c : Cursor = start reld at_script in
      node-from (start_stands reld at_script s) (node_first s c refl h (unskipped 0 e) (first_byte-named e)) e

-- ---- the end, behind a node
pub end_reads : {s : List ℕ} {c : Cursor} → Standing s c → c.place ≡ at_node → c.at ≡ length s → reading_from s c ≡ ends accepted
end_reads {s} {c} k z e = reading_step k ∙ rw (end_step s c z e)
