-- The parts of the text that an event names lie within it, a line's token starts at a byte of it, or at 0 where it has none, and its section and language are
-- 0 or 1, as those of the cursor behind it (`next_parts`). One law for each way in which a step goes on, and then one for each definition, in its order.
-- Assumes nothing.
use Prim.Native.Nat.{ℕ, ◌+◌, ◌-◌, ◌<◌, ◌≤◌}
use mathlib.Core.Path.{◌≡◌, refl}
use mathlib.Core.List.{List}
use mathlib.Core.Bool.{Bool, true, false, cond}
use native.Mathlib.Omega.{arith}
use borrow.Author.Tests.{ltb-true}
use lib.Dec.{eqb, ltb}
use lib.ListN.{length, get_or, take, drop, length-take, length-drop}
use Rattle.numbers.specs.declared.Refusal.{Refusal}
use Rattle.numbers.specs.Limits.{script_limit, token_limit}
use Rattle.numbers.specs.Signs.{closing_brace, opening_brace, semicolon}
use Rattle.std.specs.Prelude.{Option, Some, None, Ok, Err}
use Rattle.linker_script.specs.Finding.{first_from, is}
use Rattle.linker_script.proofs.Searches.{first_within}
use Rattle.linker_script.proofs.Trimming.{trim_few}
use Rattle.linker_script.specs.Skip.{Skipped}
use Rattle.reading_tokens.specs.Tokens.{TokenEnd, stands_at, name_end, bare_end, trimmed}
use Rattle.numbers.specs.declared.Edition.{Edition}
use Rattle.reading_cursors.specs.declared.places.Place.TheVariants as place
use Rattle.reading_cursors.specs.declared.places.Place.{Place}
use Rattle.reading_cursors.specs.declared.Cursor.{Cursor}
use Rattle.reading_cursors.specs.declared.Event.{Event}
use Rattle.reading_cursors.specs.declared.Event.TheVariants.{Node, Body, Section, Extern, Closed, Line, Parent}
use Rattle.reading_cursors.specs.Moves.{Step, stepped, finished, refused_at, edition_at, in_section, skip_at, on_skip, skipping, expecting, ending, start}
use Rattle.reading_matchers.specs.Matchers.{extern_word, cxx_word, c_word, close_word, line_to, extern_open, extern_at, extern_inside, in_extern, in_bare, matcher, bare_line, bare_matcher}
use Rattle.reading_cursors.specs.Places.{in_body, in_body_extern, in_sole, in_sole_extern, in_list, in_list_extern, in_symbol_extern, in_bare_extern, behind_symbol}
use Rattle.reading_bodies.specs.Bodies.{global_word, local_word, name_to, node_at, script_at, parent_to, parent_at, node_end, sole_end, inside_body, body_at, sole_at, list_at}
use Rattle.reading.specs.Scripts.{opening_at, within, start_script, go_node, go_body, go_sole, go_list, step_at, next}
use Rattle.reading.proofs.Bounds.{name-within, Ends, ends, refuses, semicolon-ends, either_ends, bare-extern-ends}

-- a section and a language
pub record Marks (k l : ℕ) : Type 0 where
  pub section : k ≤ 1
  pub language : l ≤ 1

-- an event of the text s
pub data Parts (s : List ℕ) : Event → Type 0 where
  node : {p n : ℕ} → p + n ≤ length s → Parts s (Node p n)
  body : Parts s Body
  section : {k : ℕ} → Parts s (Section k)
  extern : {k l : ℕ} → Parts s (Extern k l)
  closed : Parts s Closed
  line : {k l p n : ℕ} → Marks k l → p + n ≤ length s → p ≤ length s - 1 → Parts s (Line k l p n)
  parent : {p n : ℕ} → p + n ≤ length s → Parts s (Parent p n)

abbrev pub Marked : Cursor → Type 0
Marked c = Marks c.section c.language

data Keeps (s : List ℕ) : Step → Type 0 where
  goes : {e : Event} {d : Cursor} → Parts s e → Marked d → Keeps s (stepped e d)
  done : Keeps s finished
  refused : {n : Refusal} {p : ℕ} → Keeps s (refused_at n p)

-- a token that is trimmed
trimmed-within : (s : List ℕ) (p q : ℕ) → p ≤ length s → p + trimmed s p q ≤ length s
trimmed-within s p q h = omega (arith, trim_few (take (q - p) (drop p s)), length-take (q - p) (drop p s), length-drop p s)

module _ (s : List ℕ) where
  -- ---- how a step goes on
  on_cond : (t : Bool) {a b : Step} → (t ≡ true → Keeps s a) → Keeps s b → Keeps s (cond t a b)
  on_cond true f g = f refl
  on_cond false f g = g

  on_skipping : (c : Cursor) (p : ℕ) {on : ℕ → Step} → ((q : ℕ) → Keeps s (on q)) → Keeps s (skipping c s p on)
  on_skipping c p {on} f = go (skip_at c s p)
    where
      go : (k : Skipped) → Keeps s (on_skip k on)
      go (Ok q) = f q
      go (Err q) = refused

  on_expecting : (b p : ℕ) {a : Step} → Keeps s a → Keeps s (expecting b s p (λ _. a))
  on_expecting b p f = on_cond (eqb (get_or s p 0) b) (λ _. f) refused

  on_ending : (p : ℕ) → Keeps s (ending s p)
  on_ending p = on_cond (eqb p (length s)) (λ _. done) refused

  on_within : (limit : ℕ) {r : Step} → Keeps s r → Keeps s (within limit s r)
  on_within limit f = on_cond (ltb limit (length s)) (λ _. refused) f

  module _ (c : Cursor) (m : Marked c) where
    -- ---- matchers
    line_to-keeps : (place : Place) {p : ℕ} {e : TokenEnd} → Ends s p e → Keeps s (line_to c s place p e)
    unfolding line_to
    line_to-keeps place {p} (ends {q = q} h k) = on_skipping c q (λ r. goes (line m (trimmed-within s p q (omega arith)) (omega arith)) m)
    line_to-keeps place (refuses h) = refused

    extern_open-keeps : (place : Place) (language p : ℕ) → language ≤ 1 → Keeps s (extern_open c s place language p)
    unfolding extern_open
    extern_open-keeps place language p h =
        on_skipping c p (λ q. on_expecting opening_brace q (goes extern (record { section = m.section; language = h })))

    extern_at-keeps : (place : Place) (p : ℕ) → Keeps s (extern_at c s place p)
    unfolding extern_at
    extern_at-keeps place p =
        on_cond (stands_at cxx_word s (p + 7)) (λ _. extern_open-keeps place 1 (p + 12) (omega arith))
        (on_cond (stands_at c_word s (p + 7)) (λ _. extern_open-keeps place 0 (p + 10) (omega arith)) refused)

    extern_inside-keeps : (place : Place) {p : ℕ} {e : TokenEnd} → Ends s p e → Keeps s (extern_inside c s place p e)
    unfolding extern_inside
    extern_inside-keeps place {p} h =
        on_cond (stands_at close_word s p) (λ _. on_skipping c (p + 2) (λ q. goes closed (record { section = m.section; language = omega arith })))
        (on_cond (stands_at extern_word s p) (λ _. refused) (line_to-keeps c.place h))

    in_extern-keeps : (place : Place) → Keeps s (in_extern c s place)
    unfolding in_extern
    in_extern-keeps place = on_skipping c c.at (λ p. extern_inside-keeps place (either_ends (edition_at c) s p))

    in_bare-keeps : (place : Place) → Keeps s (in_bare c s place)
    unfolding in_bare
    in_bare-keeps place = on_skipping c c.at (λ p. extern_inside-keeps place (bare-extern-ends (edition_at c) s p))

    matcher-keeps : (inner place : Place) (p : ℕ) → Keeps s (matcher c s inner place p)
    unfolding matcher
    matcher-keeps inner place p =
        on_cond (stands_at extern_word s p) (λ _. extern_at-keeps inner p) (line_to-keeps place (semicolon-ends (edition_at c) s p))

    bare_line-keeps : (place : Place) (e : TokenEnd) → Keeps s (bare_line c s place e)
    unfolding bare_line
    bare_line-keeps place (Ok q) = on_skipping c _ (λ r. goes (line m (trimmed-within s 0 q (omega arith)) (omega arith)) m)
    bare_line-keeps place (Err n) = refused

    bare_matcher-keeps : (inner place : Place) → Keeps s (bare_matcher c s inner place)
    unfolding bare_matcher
    bare_matcher-keeps inner place = on_cond (stands_at extern_word s 0) (λ _. extern_at-keeps inner 0) (bare_line-keeps place (bare_end (edition_at c) s))

    -- ---- nodes
    name_to-keeps : (p : ℕ) → Keeps s (name_to c p (name_end s p))
    unfolding name_to
    name_to-keeps p =
        on_cond (ltb p (name_end s p))
        (λ e.
        let h : p < name_end s p = ltb-true p (name_end s p) e in
        goes (node (omega (arith, name-within s p h))) m)
        refused

    node_at-keeps : (p : ℕ) → Keeps s (node_at c s p)
    unfolding node_at
    node_at-keeps p = on_cond (eqb p (length s)) (λ _. done) (name_to-keeps p)

    script_at-keeps : (p : ℕ) → Keeps s (script_at c s p)
    unfolding script_at
    script_at-keeps p = on_cond (eqb (get_or s p 0) opening_brace) (λ _. goes body m) (node_at-keeps p)

  parent_to-keeps : (c : Cursor) (p : ℕ) → Marked c → (f : Option ℕ) → first_from (is semicolon) s p ≡ f → Keeps s (parent_to c p f)
  unfolding parent_to
  parent_to-keeps c p m (Some q) e =
      let w = first_within e in
      goes (parent {p = p} {n = q - p} (omega (arith, w.onward, w.within))) m
  parent_to-keeps c p m None e = refused

  module _ (c : Cursor) (m : Marked c) where
    in_global : Marked (in_section c 0)
    in_global = record { section = omega arith; language = m.language }

    in_local : Marked (in_section c 1)
    in_local = record { section = omega arith; language = m.language }

    node_end-keeps : (p : ℕ) → Keeps s (node_end c s p)
    unfolding node_end parent_at
    node_end-keeps p = on_skipping c p (λ q. parent_to-keeps (in_section c 0) q in_global (first_from (is semicolon) s q) refl)

    opening_at-keeps : (place : Place) → Keeps s (opening_at c s place)
    unfolding opening_at
    opening_at-keeps place = on_skipping c c.at (λ p. on_expecting opening_brace p (goes body m))

    sole_end-keeps : (p : ℕ) → Keeps s (sole_end c s p)
    unfolding sole_end
    sole_end-keeps p = on_skipping c p (λ q. on_expecting semicolon q (on_skipping c (q + 1) (λ e. on_ending e)))

    -- ---- bodies and lists
    inside_body-keeps : (inner : Place) (p : ℕ) → Keeps s (inside_body c s inner p)
    unfolding inside_body
    inside_body-keeps inner p =
        on_cond (stands_at global_word s p) (λ _. goes section in_global)
        (on_cond (stands_at local_word s p) (λ _. goes section in_local) (matcher-keeps c m inner c.place p))

    body_at-keeps : (p : ℕ) → Keeps s (body_at c s p)
    unfolding body_at
    body_at-keeps p = on_cond (eqb (get_or s p 0) closing_brace) (λ _. node_end-keeps (p + 1)) (inside_body-keeps in_body_extern p)

    sole_at-keeps : (p : ℕ) → Keeps s (sole_at c s p)
    unfolding sole_at
    sole_at-keeps p = on_cond (eqb (get_or s p 0) closing_brace) (λ _. sole_end-keeps (p + 1)) (inside_body-keeps in_sole_extern p)

    list_at-keeps : (p : ℕ) → Keeps s (list_at c s p)
    unfolding list_at
    list_at-keeps p = on_cond (stands_at close_word s p) (λ _. on_skipping c (p + 2) (λ q. on_ending q)) (matcher-keeps c m in_list_extern in_list p)

    -- ---- the step at each place
    step_keeps : (x : Place) → Keeps s (step_at s c x)
    unfolding step_at start_script go_node go_body go_sole go_list
    step_keeps place.AtScript = on_within script_limit (on_skipping c c.at (λ p. script_at-keeps c m p))
    step_keeps place.AtNode = on_skipping c c.at (λ p. node_at-keeps c m p)
    step_keeps place.AtBody = opening_at-keeps in_body
    step_keeps place.InBody = on_skipping c c.at (λ p. body_at-keeps p)
    step_keeps place.InBodyExtern = in_extern-keeps c m in_body
    step_keeps place.InSole = on_skipping c c.at (λ p. sole_at-keeps p)
    step_keeps place.InSoleExtern = in_extern-keeps c m in_sole
    step_keeps place.AtList = on_within script_limit (opening_at-keeps in_list)
    step_keeps place.InList = on_skipping c c.at (λ p. list_at-keeps p)
    step_keeps place.InListExtern = in_extern-keeps c m in_list
    step_keeps place.AtSymbol = on_within token_limit (matcher-keeps c m in_symbol_extern behind_symbol 0)
    step_keeps place.InSymbolExtern = in_extern-keeps c m behind_symbol
    step_keeps place.AtBare = on_within token_limit (bare_matcher-keeps c m in_bare_extern behind_symbol)
    step_keeps place.InBareExtern = in_bare-keeps c m behind_symbol
    step_keeps place.BehindSymbol = done

    next_keeps : Keeps s (next s c)
    unfolding next
    next_keeps = step_keeps c.place

    pub next_parts : {e : Event} {d : Cursor} → next s c ≡ stepped e d → Parts s e × Marked d
    next_parts {e} {d} h = go (rw h at next_keeps)
      where
        go : Keeps s (stepped e d) → Parts s e × Marked d
        go (goes p k) = (p, k)

pub start_marked : (edition : Edition) (place : Place) → Marked (start edition place)
unfolding start
start_marked edition place = record { section = omega arith; language = omega arith }
