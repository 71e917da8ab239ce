-- What of the text lies before an event, where it is a named node's or a line: a node's name, its body and its parent text lie one behind the other, a line's
-- token lies between where the reading stood and where it goes on, and a reading ends only outside a node (`next_spans`, `next_ends`). One law for each
-- definition, in its order.
-- Assumes nothing.
use Prim.Native.Nat.{ℕ, ◌+◌, ◌-◌, ◌<◌, ◌≤◌}
use mathlib.Core.Path.{◌≡◌, refl, sym}
use mathlib.Core.List.{List}
use mathlib.Core.Bool.{Bool, true, false, cond, true≢false}
use native.Mathlib.Omega.{arith}
use borrow.Author.Tests.{ltb-true}
use lib.Dec.{eqb, ltb}
use lib.ListN.{length, get_or, take, drop, length-take}
use Rattle.numbers.specs.declared.Refusal.{Refusal}
use Rattle.numbers.specs.Limits.{script_limit}
use Rattle.numbers.specs.Signs.{closing_brace, opening_brace, semicolon}
use Rattle.std.specs.Prelude.{Option, Some, None, Ok, Err}
use Rattle.linker_script.specs.Finding.{first_from, is}
use Rattle.linker_script.proofs.Searches.{first_within}
use Rattle.linker_script.proofs.Skipping.{skip-ended}
use Rattle.linker_script.proofs.Trimming.{trim_few}
use Rattle.linker_script.specs.Skip.{Skipped}
use Rattle.reading_tokens.specs.Tokens.{TokenEnd, stands_at, name_end, trimmed}
use Rattle.reading_cursors.specs.declared.places.Place.TheVariants as place
use Rattle.reading_cursors.specs.declared.places.Place.{Place}
use Rattle.reading_cursors.specs.declared.Cursor.{Cursor}
use Rattle.reading_cursors.specs.declared.Event.{Event}
use Rattle.reading_cursors.specs.declared.Event.TheVariants.{Node, Body, Section, Extern, Closed, Line, Parent}
use Rattle.reading_cursors.specs.Moves.{Step, stepped, finished, refused_at, edition_at, in_section, moved, skip_at, on_skip, skipping, expecting, ending}
use Rattle.reading_matchers.specs.Matchers.{extern_word, cxx_word, c_word, close_word, past_semicolon}
use Rattle.reading_matchers.specs.Matchers.{line_to, extern_open, extern_at, extern_inside, in_extern, matcher}
use Rattle.reading_cursors.specs.Places.{at_node, at_body, in_body, in_body_extern, in_sole, in_sole_extern, in_list, in_list_extern, of_symbol}
use Rattle.reading_bodies.specs.Bodies.{global_word, local_word, name_to, node_at, script_at, parent_to, parent_at, node_end, sole_end, inside_body, body_at, sole_at, list_at}
use Rattle.reading.specs.Scripts.{opening_at, within, start_script, go_node, go_body, go_sole, go_list, step_at, next}
use Rattle.reading.proofs.Bounds.{Ends, ends, refuses, either_ends, past_semicolon-within, semicolon-ends}

-- how far a named node has come at a place of the grammar: there is none, it has its name, its body is open
abbrev pub outside : ℕ
outside = 0

abbrev pub has_name : ℕ
has_name = 1

abbrev pub is_open : ℕ
is_open = 2

abbrev pub stage : Place → ℕ
stage place.AtBody = has_name
stage place.InBody = is_open
stage place.InBodyExtern = is_open
stage p = outside

-- ---- an event, from the cursor c to d: a node begins with the name of n bytes at p
pub record Begins (c : Cursor) (p n : ℕ) (d : Cursor) : Type 0 where
  pub before : stage c.place ≡ outside
  pub from : c.at ≤ p
  pub to : p + n ≤ d.at
  pub behind : stage d.place ≡ has_name

-- a body opens, a node's or another
pub data Opens (c d : Cursor) : Type 0 where
  of_node : stage c.place ≡ has_name → stage d.place ≡ is_open → Opens c d
  of_none : stage c.place ≡ outside → stage d.place ≡ outside → Opens c d

-- a node ends, with the parent text of n bytes at p; a `}` stands before it, and a `;` behind
pub record Closes (c : Cursor) (p n : ℕ) (d : Cursor) : Type 0 where
  pub before : stage c.place ≡ is_open
  pub from : c.at < p
  pub to : p + n < d.at
  pub behind : stage d.place ≡ outside

-- whatever else is read leaves a node as far as it has come
abbrev pub Stays : Cursor → Cursor → Type 0
Stays c d = stage d.place ≡ stage c.place

-- a line, with the token of n bytes at p
pub record Passes (c : Cursor) (p n : ℕ) (d : Cursor) : Type 0 where
  pub stays : Stays c d
  pub from : c.at ≤ p
  pub some : p < d.at
  pub to : p + n ≤ d.at

abbrev pub Spans : Cursor → Event → Cursor → Type 0
Spans c (Node p n) d = Begins c p n d
Spans c Body d = Opens c d
Spans c (Section k) d = Stays c d
Spans c (Extern k l) d = Stays c d
Spans c Closed d = Stays c d
Spans c (Line k l p n) d = Passes c p n d
Spans c (Parent p n) d = Closes c p n d

data Comes (c : Cursor) : Step → Type 0 where
  goes : {e : Event} {d : Cursor} → Spans c e d → Comes c (stepped e d)
  done : stage c.place ≡ outside → Comes c finished
  refused : {n : Refusal} {p : ℕ} → Comes c (refused_at n p)

module _ (s : List ℕ) (c : Cursor) where
  -- ---- how a step goes on
  on_cond : (t : Bool) {a b : Step} → (t ≡ true → Comes c a) → (t ≡ false → Comes c b) → Comes c (cond t a b)
  on_cond true f g = f refl
  on_cond false f g = g refl

  on_skipping : (p : ℕ) {on : ℕ → Step} → ((q : ℕ) → p ≤ q → Comes c (on q)) → Comes c (skipping c s p on)
  on_skipping p {on} f = go (skip_at c s p) refl
    where
      go : (k : Skipped) → skip_at c s p ≡ k → Comes c (on_skip k on)
      go (Ok q) e = f q (skip-ended e).onward
      go (Err q) e = refused

  on_expecting : (b p : ℕ) {a : Step} → Comes c a → Comes c (expecting b s p (λ _. a))
  on_expecting b p f = on_cond (eqb (get_or s p 0) b) (λ _. f) (λ _. refused)

  on_within : (limit : ℕ) {r : Step} → Comes c r → Comes c (within limit s r)
  on_within limit f = on_cond (ltb limit (length s)) (λ _. refused) (λ _. f)

  -- ---- matchers: the cursor stands at `place` behind a line, and in an extern block at `inner`
  trimmed-few : (p q : ℕ) → trimmed s p q ≤ q - p
  trimmed-few p q = omega (arith, trim_few (take (q - p) (drop p s)), length-take (q - p) (drop p s))

  line_to_comes : (place : Place) (p : ℕ) {e : TokenEnd} → Ends s p e → c.at ≤ p → stage place ≡ stage c.place → Comes c (line_to c s place p e)
  unfolding line_to
  line_to_comes place p (ends {q = q} u v) k h = on_skipping q (λ r l.
      let w = past_semicolon-within s r in
      let o : Passes c p (trimmed s p q) (moved c place (past_semicolon s r)) =
      record { stays = h; from = k; some = omega (arith, w.onward); to = omega (arith, w.onward, trimmed-few p q) } in
      goes o)
  line_to_comes place p (refuses u) k h = refused

  module _ (place : Place) (h : stage place ≡ stage c.place) where
    extern_open_comes : (language p : ℕ) → Comes c (extern_open c s place language p)
    unfolding extern_open
    extern_open_comes language p = on_skipping p (λ q _. on_expecting opening_brace q (goes h))

    extern_at_comes : (p : ℕ) → Comes c (extern_at c s place p)
    unfolding extern_at
    extern_at_comes p =
        on_cond (stands_at cxx_word s (p + 7)) (λ _. extern_open_comes 1 (p + 12))
        (λ _. on_cond (stands_at c_word s (p + 7)) (λ _. extern_open_comes 0 (p + 10)) (λ _. refused))

    extern_inside_comes : (p : ℕ) {e : TokenEnd} → Ends s p e → c.at ≤ p → Comes c (extern_inside c s place p e)
    unfolding extern_inside
    extern_inside_comes p u k =
        on_cond (stands_at close_word s p) (λ _. on_skipping (p + 2) (λ q _. goes h))
        (λ _. on_cond (stands_at extern_word s p) (λ _. refused) (λ _. line_to_comes c.place p u k refl))

    in_extern_comes : Comes c (in_extern c s place)
    unfolding in_extern
    in_extern_comes = on_skipping c.at (λ p k. extern_inside_comes p (either_ends (edition_at c) s p) k)

  matcher_comes : (inner place : Place) (p : ℕ) → c.at ≤ p → stage inner ≡ stage c.place → stage place ≡ stage c.place → Comes c (matcher c s inner place p)
  unfolding matcher
  matcher_comes inner place p l h k =
      on_cond (stands_at extern_word s p) (λ _. extern_at_comes inner h p) (λ _. line_to_comes place p (semicolon-ends (edition_at c) s p) l k)

  -- ---- a body or a list opens
  opening_at_comes : (place : Place) → ((q : ℕ) → Comes c (stepped Body (moved c place q))) → Comes c (opening_at c s place)
  unfolding opening_at
  opening_at_comes place f = on_skipping c.at (λ p _. on_expecting opening_brace p (f (p + 1)))

  -- ---- outside a named node
  module _ (h : stage c.place ≡ outside) where
    on_ending : (p : ℕ) → Comes c (ending s p)
    on_ending p = on_cond (eqb p (length s)) (λ _. done h) (λ _. refused)

    list_at_comes : (p : ℕ) → c.at ≤ p → Comes c (list_at c s p)
    unfolding list_at
    list_at_comes p k =
        on_cond (stands_at close_word s p) (λ _. on_skipping (p + 2) (λ q _. on_ending q))
        (λ _. matcher_comes in_list_extern in_list p k (sym h) (sym h))

    name_to_comes : (p : ℕ) → c.at ≤ p → Comes c (name_to c p (name_end s p))
    unfolding name_to
    name_to_comes p k =
        on_cond (ltb p (name_end s p))
        (λ e.
        let l : p < name_end s p = ltb-true p (name_end s p) e in
        let o : Begins c p (name_end s p - p) (moved c at_body (name_end s p)) = record { before = h; from = k; to = omega arith; behind = refl } in
        goes o)
        (λ _. refused)

    node_at_comes : (p : ℕ) → c.at ≤ p → Comes c (node_at c s p)
    unfolding node_at
    node_at_comes p k = on_cond (eqb p (length s)) (λ _. done h) (λ _. name_to_comes p k)

    script_at_comes : (p : ℕ) → c.at ≤ p → Comes c (script_at c s p)
    unfolding script_at
    script_at_comes p k = on_cond (eqb (get_or s p 0) opening_brace) (λ _. goes (of_none h refl)) (λ _. node_at_comes p k)

    sole_end_comes : (p : ℕ) → Comes c (sole_end c s p)
    unfolding sole_end
    sole_end_comes p = on_skipping p (λ q _. on_expecting semicolon q (on_skipping (q + 1) (λ e _. on_ending e)))

  -- ---- bodies
  inside_body_comes : (inner : Place) (p : ℕ) → c.at ≤ p → stage inner ≡ stage c.place → Comes c (inside_body c s inner p)
  unfolding inside_body
  inside_body_comes inner p k h =
      on_cond (stands_at global_word s p) (λ _. goes refl)
      (λ _. on_cond (stands_at local_word s p) (λ _. goes refl)
      (λ _. matcher_comes inner c.place p k h refl))

  sole_at_comes : stage c.place ≡ outside → (p : ℕ) → c.at ≤ p → Comes c (sole_at c s p)
  unfolding sole_at
  sole_at_comes h p k =
      on_cond (eqb (get_or s p 0) closing_brace) (λ _. sole_end_comes h (p + 1)) (λ _. inside_body_comes in_sole_extern p k (sym h))

  module _ (h : stage c.place ≡ is_open) where
    parent_to_comes : (p : ℕ) → c.at < p → (f : Option ℕ) → first_from (is semicolon) s p ≡ f → Comes c (parent_to (in_section c 0) p f)
    unfolding parent_to
    parent_to_comes p k (Some q) e =
        let w = first_within e in
        let o : Closes c p (q - p) (moved (in_section c 0) at_node (q + 1)) =
        record { before = h; from = k; to = omega (arith, w.onward); behind = refl } in
        goes o
    parent_to_comes p k None e = refused

    node_end_comes : (p : ℕ) → c.at < p → Comes c (node_end c s p)
    unfolding node_end parent_at
    node_end_comes p k = on_skipping p (λ q l. parent_to_comes q (omega arith) (first_from (is semicolon) s q) refl)

    body_at_comes : (p : ℕ) → c.at ≤ p → Comes c (body_at c s p)
    unfolding body_at
    body_at_comes p k =
        on_cond (eqb (get_or s p 0) closing_brace) (λ _. node_end_comes (p + 1) (omega arith)) (λ _. inside_body_comes in_body_extern p k (sym h))

  -- ---- the step at each place
  step_comes : (x : Place) → c.place ≡ x → of_symbol x ≡ false → Comes c (step_at s c x)
  unfolding step_at start_script go_node go_body go_sole go_list
  step_comes place.AtScript z m = on_within script_limit (on_skipping c.at (λ p k. script_at_comes (rw z) p k))
  step_comes place.AtNode z m = on_skipping c.at (λ p k. node_at_comes (rw z) p k)
  step_comes place.AtBody z m = opening_at_comes in_body (λ q. goes (of_node (rw z) refl))
  step_comes place.InBody z m = on_skipping c.at (λ p k. body_at_comes (rw z) p k)
  step_comes place.InBodyExtern z m = in_extern_comes in_body (rw z)
  step_comes place.InSole z m = on_skipping c.at (λ p k. sole_at_comes (rw z) p k)
  step_comes place.InSoleExtern z m = in_extern_comes in_sole (rw z)
  step_comes place.AtList z m = on_within script_limit (opening_at_comes in_list (λ q. goes (of_none (rw z) refl)))
  step_comes place.InList z m = on_skipping c.at (λ p k. list_at_comes (rw z) p k)
  step_comes place.InListExtern z m = in_extern_comes in_list (rw z)
  step_comes place.AtSymbol z m = absurd (true≢false m)
  step_comes place.InSymbolExtern z m = absurd (true≢false m)
  step_comes place.AtBare z m = absurd (true≢false m)
  step_comes place.InBareExtern z m = absurd (true≢false m)
  step_comes place.BehindSymbol z m = absurd (true≢false m)

  next_comes : of_symbol c.place ≡ false → Comes c (next s c)
  unfolding next
  next_comes m = step_comes c.place refl m

  pub next_spans : {e : Event} {d : Cursor} → of_symbol c.place ≡ false → next s c ≡ stepped e d → Spans c e d
  next_spans {e} {d} m h = go (rw h at (next_comes m))
    where
      go : Comes c (stepped e d) → Spans c e d
      go (goes o) = o

  pub next_ends : of_symbol c.place ≡ false → next s c ≡ finished → stage c.place ≡ outside
  next_ends m h = go (rw h at (next_comes m))
    where
      go : Comes c finished → stage c.place ≡ outside
      go (done o) = o
