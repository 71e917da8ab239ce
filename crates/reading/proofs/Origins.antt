-- Where an event comes from: what stands in the text where a name or a parent is read, and the places of the grammar before and behind each event, of a
-- version script and of an export list (`next_origin`). One law for each definition, in its order. Assumes nothing.
use Prim.Native.Nat.{ℕ, zero, suc, ◌+◌, ◌-◌, ◌<◌}
use mathlib.Core.Path.{◌≡◌, refl, sym, ◌∙◌}
use mathlib.Core.List.{List, [], ◌∷◌}
use mathlib.Core.Bool.{Bool, true, false, cond, true≢false}
use native.Mathlib.Omega.{arith}
use borrow.Author.Tests.{ltb-true}
use lib.Dec.{eqb, ltb}
use lib.ListN.{length, get_or, drop}
use lib.Seq.{get_or-drop}
use Rattle.numbers.specs.declared.Refusal.{Refusal}
use Rattle.numbers.specs.Limits.{script_limit}
use Rattle.numbers.specs.Signs.{closing_brace, opening_brace, semicolon}
use Rattle.std.specs.Prelude.{Option, Some, None, Ok, Err}
use Rattle.linker_script.specs.Finding.{first_from, is}
use Rattle.linker_script.proofs.Searches.{first_within}
use Rattle.linker_script.proofs.Skipping.{Stopped, skip-ended}
use Rattle.linker_script.specs.Skip.{Skipped}
use Rattle.reading_tokens.specs.Tokens.{TokenEnd, stands_at, named, longer, name_in, name_end, to_semicolon, to_either}
use Rattle.reading_cursors.specs.declared.places.Place.TheVariants as place
use Rattle.reading_cursors.specs.declared.places.Place.{Place}
use Rattle.reading_cursors.specs.declared.Cursor.{Cursor}
use Rattle.reading_cursors.specs.declared.Event.{Event}
use Rattle.reading_cursors.specs.declared.Event.TheVariants.{Node, Body, Section, Extern, Closed, Line, Parent}
use Rattle.reading_cursors.specs.Moves.{Step, stepped, finished, refused_at, edition_at, moved, in_section, in_language, skip_at, on_skip, skipping, expecting, ending}
use Rattle.reading_matchers.specs.Matchers.{extern_word, cxx_word, c_word, close_word, line_to, extern_open, extern_at, extern_inside, in_extern, matcher}
use Rattle.reading_cursors.specs.Places.{at_node, at_body, in_body_extern, in_sole_extern, in_list, in_list_extern, of_script, of_symbol}
use Rattle.reading_bodies.specs.Bodies.{global_word, local_word, name_to, node_at, script_at, parent_to, parent_at, node_end, sole_end, inside_body, body_at, sole_at, list_at}
use Rattle.reading.specs.Scripts.{opening_at, within, start_script, go_node, go_body, go_sole, go_list, step_at, next}

-- whether a place is in an extern block, of a script or a list
abbrev pub block_place : Place → Bool
block_place place.InBodyExtern = true
block_place place.InSoleExtern = true
block_place place.InListExtern = true
block_place p = false

-- the n bytes from p on are a name, behind a skip
pub record Named (s : List ℕ) (p n : ℕ) : Type 0 where
  pub some : 0 < n
  pub bytes : (i : ℕ) → i < n → named (get_or s (p + i) 0) ≡ true
  pub stopped : Stopped s p

-- a script's place is none of `add_symbol`
pub apart : (x : Place) → of_script x ≡ true → of_symbol x ≡ false
apart place.AtScript h = refl
apart place.AtNode h = refl
apart place.AtBody h = refl
apart place.InBody h = refl
apart place.InBodyExtern h = refl
apart place.InSole h = refl
apart place.InSoleExtern h = refl
apart place.AtList h = refl
apart place.InList h = refl
apart place.InListExtern h = refl
apart place.AtSymbol h = absurd (true≢false (sym h))
apart place.InSymbolExtern h = absurd (true≢false (sym h))
apart place.AtBare h = absurd (true≢false (sym h))
apart place.InBareExtern h = absurd (true≢false (sym h))
apart place.BehindSymbol h = absurd (true≢false (sym h))

-- a place that can come behind that of c: of a script as that one, or of a list as that one
pub record Near (c : Cursor) (place : Place) : Type 0 where
  pub few : of_symbol place ≡ false
  pub same : of_script place ≡ of_script c.place

-- an event, and the cursor behind it
pub data Origin (s : List ℕ) (c : Cursor) : Event → Cursor → Type 0 where
  node : {p n q : ℕ} → of_script c.place ≡ true → block_place c.place ≡ false → Named s p n → Origin s c (Node p n) (moved c at_body q)
  body : {place : Place} {q : ℕ} → block_place c.place ≡ false → block_place place ≡ false → Origin s c Body (moved c place q)
  section : {k q : ℕ} → of_script c.place ≡ true → block_place c.place ≡ false → Origin s c (Section k) (moved (in_section c k) c.place q)
  extern : {k : ℕ} {place : Place} {q : ℕ} → block_place c.place ≡ false → block_place place ≡ true
      → Origin s c (Extern c.section k) (moved (in_language c k) place q)
  closed : {place : Place} {q : ℕ} → block_place c.place ≡ true → block_place place ≡ false → Origin s c Closed (moved (in_language c 0) place q)
  line : {p n : ℕ} {place : Place} {q : ℕ} → block_place place ≡ block_place c.place → Origin s c (Line c.section c.language p n) (moved c place q)
  parent : {p n q : ℕ} → of_script c.place ≡ true → block_place c.place ≡ false
      → ((i : ℕ) → i < n → eqb (get_or s (p + i) 0) semicolon ≡ false) → Origin s c (Parent p n) (moved (in_section c 0) at_node q)

data Comes (s : List ℕ) (c : Cursor) : Step → Type 0 where
  goes : {e : Event} {d : Cursor} → Origin s c e d → Near c d.place → Comes s c (stepped e d)
  done : Comes s c finished
  refused : {n : Refusal} {p : ℕ} → Comes s c (refused_at n p)

-- ---- the bytes of a name
name-bytes : (p : ℕ) (l : List ℕ) (k : ℕ) → p + k < name_in p l → named (get_or l k 0) ≡ true
unfolding name_in
name-bytes p [] k h = absurd (omega arith)
name-bytes p (b ∷ l) zero h = go (named b) h
  where
    go : (t : Bool) → p + 0 < longer t p (name_in (p + 1) l) → t ≡ true
    go true j = refl
    go false j = absurd (omega arith)
name-bytes p (b ∷ l) (suc k) h = name-bytes (p + 1) l k (go (named b) h)
  where
    go : (t : Bool) → p + suc k < longer t p (name_in (p + 1) l) → p + 1 + k < name_in (p + 1) l
    go true j = omega arith
    go false j = absurd (omega arith)

name_at : (s : List ℕ) (p i : ℕ) → p + i < name_end s p → named (get_or s (p + i) 0) ≡ true
name_at s p i h = rw get_or-drop at (name-bytes p (drop p s) i h)

module _ (s : List ℕ) (c : Cursor) where
  -- ---- how a step goes on
  on_cond : (t : Bool) {a b : Step} → (t ≡ true → Comes s c a) → (t ≡ false → Comes s c b) → Comes s c (cond t a b)
  on_cond true f g = f refl
  on_cond false f g = g refl

  on_skipping : (p : ℕ) {on : ℕ → Step} → ((q : ℕ) → Stopped s q → Comes s c (on q)) → Comes s c (skipping c s p on)
  on_skipping p {on} f = go (skip_at c s p) refl
    where
      go : (k : Skipped) → skip_at c s p ≡ k → Comes s c (on_skip k on)
      go (Ok q) e = f q (skip-ended e).stopped
      go (Err q) e = refused

  on_expecting : (b p : ℕ) {a : Step} → Comes s c a → Comes s c (expecting b s p (λ _. a))
  on_expecting b p f = on_cond (eqb (get_or s p 0) b) (λ _. f) (λ _. refused)

  on_ending : (p : ℕ) → Comes s c (ending s p)
  on_ending p = on_cond (eqb p (length s)) (λ _. done) (λ _. refused)

  on_within : (limit : ℕ) {r : Step} → Comes s c r → Comes s c (within limit s r)
  on_within limit f = on_cond (ltb limit (length s)) (λ _. refused) (λ _. f)

  -- ---- matchers
  line_to_comes : {place : Place} (p : ℕ) (e : TokenEnd) → block_place place ≡ block_place c.place → Near c place → Comes s c (line_to c s place p e)
  unfolding line_to
  line_to_comes p (Ok q) h n = on_skipping q (λ r _. goes (line h) n)
  line_to_comes p (Err k) h n = refused

  module _ {place : Place} (n : Near c place) where
    module _ (h : block_place c.place ≡ false) (k : block_place place ≡ true) where
      extern_open_comes : (language p : ℕ) → Comes s c (extern_open c s place language p)
      unfolding extern_open
      extern_open_comes language p = on_skipping p (λ q _. on_expecting opening_brace q (goes (extern h k) n))

      extern_at_comes : (p : ℕ) → Comes s c (extern_at c s place p)
      unfolding extern_at
      extern_at_comes p =
          on_cond (stands_at cxx_word s (p + 7)) (λ _. extern_open_comes 1 (p + 12))
          (λ _. on_cond (stands_at c_word s (p + 7)) (λ _. extern_open_comes 0 (p + 10)) (λ _. refused))

    module _ (few : of_symbol c.place ≡ false) (h : block_place c.place ≡ true) (k : block_place place ≡ false) where
      extern_inside_comes : (p : ℕ) (e : TokenEnd) → Comes s c (extern_inside c s place p e)
      unfolding extern_inside
      extern_inside_comes p e =
          on_cond (stands_at close_word s p) (λ _. on_skipping (p + 2) (λ q _. goes (closed h k) n))
          (λ _. on_cond (stands_at extern_word s p) (λ _. refused) (λ _. line_to_comes p e refl (record { few = few; same = refl })))

      in_extern_comes : Comes s c (in_extern c s place)
      unfolding in_extern
      in_extern_comes = on_skipping c.at (λ p _. extern_inside_comes p (to_either (edition_at c) s p))

  module _ (h : block_place c.place ≡ false) where
    matcher_comes : {inner place : Place} (p : ℕ) → block_place inner ≡ true → Near c inner → block_place place ≡ false → Near c place
        → Comes s c (matcher c s inner place p)
    unfolding matcher
    matcher_comes p x m y n =
        on_cond (stands_at extern_word s p) (λ _. extern_at_comes m h x p)
        (λ _. line_to_comes p (to_semicolon (edition_at c) s p) (y ∙ sym h) n)

    opening_at_comes : {place : Place} → block_place place ≡ false → Near c place → Comes s c (opening_at c s place)
    unfolding opening_at
    opening_at_comes k n = on_skipping c.at (λ p _. on_expecting opening_brace p (goes (body h k) n))

    -- ---- an export list
    list_at_comes : (p : ℕ) → Near c in_list → Near c in_list_extern → Comes s c (list_at c s p)
    unfolding list_at
    list_at_comes p n m =
        on_cond (stands_at close_word s p) (λ _. on_skipping (p + 2) (λ q _. on_ending q))
        (λ _. matcher_comes p refl m refl n)

    -- ---- a script
    module _ (l : of_script c.place ≡ true) where
      in_script : {place : Place} → of_script place ≡ true → Near c place
      in_script {place} k = record { few = apart place k; same = k ∙ sym l }

      name_to_comes : {p : ℕ} → Stopped s p → Comes s c (name_to c p (name_end s p))
      unfolding name_to
      name_to_comes {p} t =
          on_cond (ltb p (name_end s p))
          (λ e.
          let k : p < name_end s p = ltb-true p (name_end s p) e in
          goes
          (node l h (record { some = omega arith; bytes = λ i j. name_at s p i (omega arith); stopped = t }))
          (in_script refl))
          (λ _. refused)

      node_at_comes : {p : ℕ} → Stopped s p → Comes s c (node_at c s p)
      unfolding node_at
      node_at_comes {p} t = on_cond (eqb p (length s)) (λ _. done) (λ _. name_to_comes t)

      script_at_comes : {p : ℕ} → Stopped s p → Comes s c (script_at c s p)
      unfolding script_at
      script_at_comes {p} t =
          on_cond (eqb (get_or s p 0) opening_brace) (λ _. goes (body h refl) (in_script refl)) (λ _. node_at_comes t)

      parent_to_comes : (p : ℕ) (f : Option ℕ) → first_from (is semicolon) s p ≡ f → Comes s c (parent_to (in_section c 0) p f)
      unfolding parent_to
      parent_to_comes p (Some q) e =
          let w = first_within e in
          let g : (i : ℕ) → i < q - p → eqb (get_or s (p + i) 0) semicolon ≡ false = λ i j. w.before (p + i) (omega arith) (omega arith) in
          goes (parent {q = q + 1} l h g) (in_script refl)
      parent_to_comes p None e = refused

      node_end_comes : (p : ℕ) → Comes s c (node_end c s p)
      unfolding node_end parent_at
      node_end_comes p = on_skipping p (λ q _. parent_to_comes q (first_from (is semicolon) s q) refl)

      sole_end_comes : (p : ℕ) → Comes s c (sole_end c s p)
      unfolding sole_end
      sole_end_comes p = on_skipping p (λ q _. on_expecting semicolon q (on_skipping (q + 1) (λ e _. on_ending e)))

      inside_body_comes : (inner : Place) (p : ℕ) → block_place inner ≡ true → of_script inner ≡ true → Comes s c (inside_body c s inner p)
      unfolding inside_body
      inside_body_comes inner p x m =
          on_cond (stands_at global_word s p) (λ _. goes (section l h) (in_script l))
          (λ _. on_cond (stands_at local_word s p) (λ _. goes (section l h) (in_script l))
          (λ _. matcher_comes p x (in_script m) h (in_script l)))

      body_at_comes : (p : ℕ) → Comes s c (body_at c s p)
      unfolding body_at
      body_at_comes p =
          on_cond (eqb (get_or s p 0) closing_brace) (λ _. node_end_comes (p + 1)) (λ _. inside_body_comes in_body_extern p refl refl)

      sole_at_comes : (p : ℕ) → Comes s c (sole_at c s p)
      unfolding sole_at
      sole_at_comes p =
          on_cond (eqb (get_or s p 0) closing_brace) (λ _. sole_end_comes (p + 1)) (λ _. inside_body_comes in_sole_extern p refl refl)

  -- ---- the step at each place
  step_comes : (x : Place) → c.place ≡ x → of_symbol x ≡ false → Comes s c (step_at s c x)
  unfolding step_at start_script go_node go_body go_sole go_list
  step_comes place.AtScript z m = on_within script_limit (on_skipping c.at (λ _ t. script_at_comes (rw z) (rw z) t))
  step_comes place.AtNode z m = on_skipping c.at (λ _ t. node_at_comes (rw z) (rw z) t)
  step_comes place.AtBody z m = opening_at_comes (rw z) refl (in_script (rw z) (rw z) refl)
  step_comes place.InBody z m = on_skipping c.at (λ p _. body_at_comes (rw z) (rw z) p)
  step_comes place.InBodyExtern z m = in_extern_comes (record { few = refl; same = rw z }) (rw z) (rw z) refl
  step_comes place.InSole z m = on_skipping c.at (λ p _. sole_at_comes (rw z) (rw z) p)
  step_comes place.InSoleExtern z m = in_extern_comes (record { few = refl; same = rw z }) (rw z) (rw z) refl
  step_comes place.AtList z m = on_within script_limit (opening_at_comes (rw z) refl (record { few = refl; same = rw z }))
  step_comes place.InList z m =
      on_skipping c.at (λ p _. list_at_comes (rw z) p (record { few = refl; same = rw z }) (record { few = refl; same = rw z }))
  step_comes place.InListExtern z m = in_extern_comes (record { few = refl; same = rw z }) (rw z) (rw z) refl
  step_comes place.AtSymbol z m = absurd (true≢false m)
  step_comes place.InSymbolExtern z m = absurd (true≢false m)
  step_comes place.AtBare z m = absurd (true≢false m)
  step_comes place.InBareExtern z m = absurd (true≢false m)
  step_comes place.BehindSymbol z m = absurd (true≢false m)

  next_comes : of_symbol c.place ≡ false → Comes s c (next s c)
  unfolding next
  next_comes m = step_comes c.place refl m

  pub next_origin : {e : Event} {d : Cursor} → of_symbol c.place ≡ false → next s c ≡ stepped e d → Origin s c e d × Near c d.place
  next_origin {e} {d} m h = go (rw h at (next_comes m))
    where
      go : Comes s c (stepped e d) → Origin s c e d × Near c d.place
      go (goes o n) = (o, n)
