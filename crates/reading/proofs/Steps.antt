-- What any step of a reading keeps to: an event moves on in the text, and a refusal has a number of the reader's and a place of the text. One law for each way
-- in which a step goes on, and then one for each definition, in its order; `next_fits` is the last. proofs/Onward.antt and proofs/Refusals.antt say what
-- follows.
-- Assumes nothing.
use Prim.Native.Nat.{ℕ, ◌+◌, ◌<◌, ◌≤◌}
use mathlib.Core.Path.{◌≡◌, refl}
use mathlib.Core.List.{List}
use mathlib.Core.Bool.{Bool, true, false, cond, true≢false}
use native.Mathlib.Omega.{arith}
use borrow.Author.Tests.{ltb-true}
use lib.Dec.{eqb, ltb}
use lib.ListN.{length, get_or}
use Rattle.numbers.specs.Limits.{script_limit, token_limit}
use Rattle.numbers.specs.declared.Refusal.{Refusal}
use Rattle.numbers.specs.declared.Refusal.TheVariants as no
use Rattle.numbers.specs.Saying.{number}
use Rattle.numbers.specs.Signs.{closing_brace, opening_brace, semicolon}
use Rattle.std.specs.Prelude.{Option, Some, None, Ok, Err}
use Rattle.linker_script.specs.Finding.{first_from, is}
use Rattle.linker_script.proofs.Searches.{first_within}
use Rattle.linker_script.proofs.Skipping.{skip-ended}
use Rattle.linker_script.proofs.Unclosed.{unclosed-within}
use Rattle.linker_script.specs.Skip.{Skipped}
use Rattle.reading_tokens.specs.Tokens.{TokenEnd, stands_at, name_end, bare_end, bare_skip}
use Rattle.reading_cursors.specs.declared.places.Place.TheVariants as place
use Rattle.reading_cursors.specs.declared.places.Place.{Place}
use Rattle.reading_cursors.specs.declared.Cursor.{Cursor}
use Rattle.reading_cursors.specs.declared.Event.{Event}
use Rattle.reading_cursors.specs.Moves.{Step, stepped, finished, refused_at, edition_at, in_section, skip_at, on_skip, skipping, expecting, ending}
use Rattle.reading_matchers.specs.Matchers.{extern_word, cxx_word, c_word, close_word, line_to, extern_open, extern_at, extern_inside, in_extern, in_bare, matcher, bare_line, bare_matcher}
use Rattle.reading_cursors.specs.Places.{in_body, in_body_extern, in_sole, in_sole_extern, in_list, in_list_extern, in_symbol_extern, in_bare_extern, behind_symbol, is_behind}
use Rattle.reading_bodies.specs.Bodies.{global_word, local_word, name_to, node_at, script_at, parent_to, parent_at, node_end, sole_end, inside_body, body_at, sole_at, list_at}
use Rattle.reading.specs.Scripts.{opening_at, within, start_script, go_node, go_body, go_sole, go_list, step_at, next}
use Rattle.reading.specs.Rules.{symbol_start, Over, script, list, symbol, bare}
use Rattle.reading.specs.Standing.{Fresh}
use Rattle.reading.proofs.Bounds.{byte_stands, word_stands, name-within, Past, past_semicolon-within, of_grammar, Ends, ends, refuses, semicolon-ends, either_ends, bare-extern-ends, bare_skip-within, bare-refuses}

-- ---- what a step keeps to
-- from c to d
pub record Onward (s : List ℕ) (c d : Cursor) : Type 0 where
  pub onward : c.at < d.at
  pub within : d.at ≤ length s + 1
  pub begun : symbol_start d.place ≡ false
  -- past the text it stands only where nothing more is read
  pub inside : is_behind d.place ≡ false → d.at ≤ length s

-- a refusal n at the place p
pub data Reason (s : List ℕ) (c : Cursor) : Refusal → ℕ → Type 0 where
  long : Over s c.place → Reason s c no.TooLong 0
  grammar : {n : Refusal} {p : ℕ} → of_grammar (number n) ≡ true → (c.at ≤ length s → p ≤ length s) → Reason s c n p

pub data Fits (s : List ℕ) (c : Cursor) : Step → Type 0 where
  goes : {e : Event} {d : Cursor} → (Fresh c → Onward s c d) → Fits s c (stepped e d)
  done : Fits s c finished
  refused : {n : Refusal} {p : ℕ} → Reason s c n p → Fits s c (refused_at n p)

-- a place that the step from c has come to
record Reached (s : List ℕ) (c : Cursor) (p : ℕ) : Type 0 where
  ahead : Fresh c → c.at ≤ p
  inside : c.at ≤ length s → p ≤ length s

module _ (s : List ℕ) (c : Cursor) where
  here : Reached s c c.at
  here = record { ahead = λ f. omega arith; inside = λ h. h }

  first : symbol_start c.place ≡ true → Reached s c 0
  first h = record { ahead = λ f. omega (arith, f h); inside = λ _. omega arith }

  further : {p q : ℕ} → Reached s c p → p ≤ q → (p ≤ length s → q ≤ length s) → Reached s c q
  further r h k = record { ahead = λ f. omega (arith, r.ahead f); inside = λ l. k (r.inside l) }

  -- ---- how a step goes on
  refuse : {n : Refusal} {p : ℕ} → of_grammar (number n) ≡ true → Reached s c p → Fits s c (refused_at n p)
  refuse h r = refused (grammar h r.inside)

  go_on : {e : Event} {d : Cursor} {p : ℕ} → Reached s c p → p < d.at → d.at ≤ length s → symbol_start d.place ≡ false
      → Fits s c (stepped e d)
  go_on {d = d} r h k b = goes {d = d} (λ f. record { onward = omega (arith, r.ahead f); within = omega arith; begun = b; inside = λ _. k })

  on_cond : (t : Bool) {a b : Step} → (t ≡ true → Fits s c a) → (t ≡ false → Fits s c b) → Fits s c (cond t a b)
  on_cond true f g = f refl
  on_cond false f g = g refl

  on_skipping : {p : ℕ} {on : ℕ → Step} → Reached s c p → ((q : ℕ) → Past s p q → Reached s c q → Fits s c (on q)) → Fits s c (skipping c s p on)
  on_skipping {p} {on} r f = go (skip_at c s p) refl
    where
      go : (k : Skipped) → skip_at c s p ≡ k → Fits s c (on_skip k on)
      go (Ok q) e =
          let w : Past s p q = record { onward = (skip-ended e).onward; within = (skip-ended e).within } in
          f q w (further r w.onward w.within)
      go (Err q) e = refused (grammar {p = q} refl (λ h. omega (arith, unclosed-within (edition_at c) s p q (r.inside h) e)))

  on_expecting : (b : ℕ) {p : ℕ} {a : Step} → 0 < b → Reached s c p → (p < length s → Fits s c a) → Fits s c (expecting b s p (λ _. a))
  on_expecting b {p} h r f = on_cond (eqb (get_or s p 0) b) (λ e. f (byte_stands s p b h e)) (λ _. refuse refl r)

  on_ending : {p : ℕ} → Reached s c p → Fits s c (ending s p)
  on_ending {p} r = on_cond (eqb p (length s)) (λ _. done) (λ _. refuse refl r)

  on_within : (limit : ℕ) {r : Step} → (limit < length s → Over s c.place) → Fits s c r → Fits s c (within limit s r)
  on_within limit o f = on_cond (ltb limit (length s)) (λ e. refused (long (o (ltb-true limit (length s) e)))) (λ _. f)

  -- ---- matchers
  -- p is reached, and the reading then stands at `place`, which starts none
  module _ (place : Place) {p : ℕ} (b : symbol_start place ≡ false) (r : Reached s c p) where
    line_to-fits : {e : TokenEnd} → Ends s p e → Fits s c (line_to c s place p e)
    unfolding line_to
    line_to-fits (ends h k) =
        on_skipping (further r (omega arith) (λ _. omega arith)) (λ x w _.
        let y = past_semicolon-within s x in
        go_on r (omega (arith, w.onward, y.onward)) (y.within (w.within (omega arith))) b)
    line_to-fits (refuses h) = refuse h r

    extern_open-fits : (language : ℕ) → Fits s c (extern_open c s place language p)
    unfolding extern_open
    extern_open-fits language =
        on_skipping r (λ _ _ t. on_expecting opening_brace (omega arith) t (λ h. go_on t (omega arith) (omega arith) b))

  -- behind a word of n bytes
  behind : {p : ℕ} (n : ℕ) → Reached s c p → p + n ≤ length s → Reached s c (p + n)
  behind n r h = further r (omega arith) (λ _. h)

  module _ (place : Place) {p : ℕ} (b : symbol_start place ≡ false) (r : Reached s c p) where
    -- the word of a language stands behind `extern `
    language-fits : (w : List ℕ) (n language : ℕ) → 0 < length w → n ≡ 7 + length w → stands_at w s (p + 7) ≡ true
        → Fits s c (extern_open c s place language (p + n))
    language-fits w n language h z e = extern_open-fits place b (behind n r (omega (arith, word_stands w s (p + 7) h e))) language

    extern_at-fits : Fits s c (extern_at c s place p)
    unfolding extern_at
    extern_at-fits =
        on_cond (stands_at cxx_word s (p + 7)) (language-fits cxx_word 12 1 (omega arith) refl)
        (λ _. on_cond (stands_at c_word s (p + 7)) (language-fits c_word 10 0 (omega arith) refl)
        (λ _. refuse refl r))

    -- the cursor stands in the block
    extern_inside-fits : symbol_start c.place ≡ false → {e : TokenEnd} → Ends s p e → Fits s c (extern_inside c s place p e)
    unfolding extern_inside
    extern_inside-fits i h =
        on_cond (stands_at close_word s p)
        (λ k.
        let n = word_stands close_word s p (omega arith) k in
        on_skipping (behind 2 r n) (λ _ w t. go_on r (omega (arith, w.onward)) (w.within n) b))
        (λ _. on_cond (stands_at extern_word s p) (λ _. refuse refl r)
        (λ _. line_to-fits c.place i r h))

  module _ (place : Place) (b : symbol_start place ≡ false) (i : symbol_start c.place ≡ false) where
    in_extern-fits : Fits s c (in_extern c s place)
    unfolding in_extern
    in_extern-fits = on_skipping here (λ p _ r. extern_inside-fits place b r i (either_ends (edition_at c) s p))

    in_bare-fits : Fits s c (in_bare c s place)
    unfolding in_bare
    in_bare-fits = on_skipping here (λ p _ r. extern_inside-fits place b r i (bare-extern-ends (edition_at c) s p))

  module _ (inner place : Place) (a : symbol_start inner ≡ false) (b : symbol_start place ≡ false) where
    matcher-fits : {p : ℕ} → Reached s c p → Fits s c (matcher c s inner place p)
    unfolding matcher
    matcher-fits {p} r =
        on_cond (stands_at extern_word s p) (λ _. extern_at-fits inner a r) (λ _. line_to-fits place b r (semicolon-ends (edition_at c) s p))

    module _ (r : Reached s c 0) (z : place ≡ behind_symbol) where
      bare_line-fits : (e : TokenEnd) → bare_end (edition_at c) s ≡ e → Fits s c (bare_line c s place e)
      unfolding bare_line
      bare_line-fits (Ok q) _ =
          on_skipping (further {q = bare_skip (edition_at c) s} r (omega arith) (λ _. bare_skip-within (edition_at c) s)) (λ _ _ _.
          goes (λ f. record {
            onward = omega (arith, r.ahead f);
            within = omega arith;
            begun = b;
            inside = λ h. absurd (true≢false (rw z at h));
          }))
      bare_line-fits (Err n) e = refuse (bare-refuses (edition_at c) s n e) r

      bare_matcher-fits : Fits s c (bare_matcher c s inner place)
      unfolding bare_matcher
      bare_matcher-fits = on_cond (stands_at extern_word s 0) (λ _. extern_at-fits inner a r) (λ _. bare_line-fits (bare_end (edition_at c) s) refl)

  -- ---- nodes
  module _ {p : ℕ} (r : Reached s c p) where
    name_to-fits : (q : ℕ) → (p < q → q ≤ length s) → Fits s c (name_to c p q)
    unfolding name_to
    name_to-fits q h =
        on_cond (ltb p q)
        (λ e. let l = ltb-true p q e in go_on r l (h l) refl)
        (λ _. refuse refl r)

    node_at-fits : Fits s c (node_at c s p)
    unfolding node_at
    node_at-fits = on_cond (eqb p (length s)) (λ _. done) (λ _. name_to-fits (name_end s p) (name-within s p))

    script_at-fits : Fits s c (script_at c s p)
    unfolding script_at
    script_at-fits =
        on_cond (eqb (get_or s p 0) opening_brace)
        (λ e. go_on r (omega arith) (omega (arith, byte_stands s p opening_brace (omega arith) e)) refl)
        (λ _. node_at-fits)

    parent_to-fits : (d : Cursor) → (f : Option ℕ) → first_from (is semicolon) s p ≡ f → Fits s c (parent_to d p f)
    unfolding parent_to
    parent_to-fits d (Some q) e =
        let h = first_within e in
        go_on r (omega (arith, h.onward)) (omega (arith, h.within)) refl
    parent_to-fits d None e = refuse refl r

  module _ {p : ℕ} (r : Reached s c p) where
    node_end-fits : Fits s c (node_end c s p)
    unfolding node_end parent_at
    node_end-fits = on_skipping r (λ q _ t. parent_to-fits t (in_section c 0) (first_from (is semicolon) s q) refl)

    sole_end-fits : Fits s c (sole_end c s p)
    unfolding sole_end
    sole_end-fits =
        on_skipping r (λ _ _ t. on_expecting semicolon (omega arith) t (λ h.
        on_skipping (further t (omega arith) (λ _. omega arith)) (λ _ _ u. on_ending u)))

  opening_at-fits : (place : Place) → symbol_start place ≡ false → Fits s c (opening_at c s place)
  unfolding opening_at
  opening_at-fits place b =
      on_skipping here (λ _ _ r. on_expecting opening_brace (omega arith) r (λ h. go_on r (omega arith) (omega arith) b))

  -- ---- bodies and lists
  module _ (i : symbol_start c.place ≡ false) {p : ℕ} (r : Reached s c p) where
    inside_body-fits : (inner : Place) → symbol_start inner ≡ false → Fits s c (inside_body c s inner p)
    unfolding inside_body
    inside_body-fits inner a =
        on_cond (stands_at global_word s p) (λ e. go_on r (omega arith) (word_stands global_word s p (omega arith) e) i)
        (λ _. on_cond (stands_at local_word s p) (λ e. go_on r (omega arith) (word_stands local_word s p (omega arith) e) i)
        (λ _. matcher-fits inner c.place a i r))

    -- at a `}`, and else
    at_brace : {a b : Step} → (Reached s c (p + 1) → Fits s c a) → Fits s c b → Fits s c (cond (eqb (get_or s p 0) closing_brace) a b)
    at_brace f g =
        on_cond (eqb (get_or s p 0) closing_brace)
        (λ e. f (behind 1 r (omega (arith, byte_stands s p closing_brace (omega arith) e))))
        (λ _. g)

    body_at-fits : Fits s c (body_at c s p)
    unfolding body_at
    body_at-fits = at_brace node_end-fits (inside_body-fits in_body_extern refl)

    sole_at-fits : Fits s c (sole_at c s p)
    unfolding sole_at
    sole_at-fits = at_brace sole_end-fits (inside_body-fits in_sole_extern refl)

    list_at-fits : Fits s c (list_at c s p)
    unfolding list_at
    list_at-fits =
        on_cond (stands_at close_word s p)
        (λ e. on_skipping (behind 2 r (word_stands close_word s p (omega arith) e)) (λ _ _ t. on_ending t))
        (λ _. matcher-fits in_list_extern in_list refl refl r)

  -- ---- the step at each place
  step-fits : (x : Place) → c.place ≡ x → Fits s c (step_at s c x)
  unfolding step_at start_script go_node go_body go_sole go_list
  step-fits place.AtScript z = on_within script_limit (λ h. rw z (script h)) (on_skipping here (λ _ _ r. script_at-fits r))
  step-fits place.AtNode z = on_skipping here (λ _ _ r. node_at-fits r)
  step-fits place.AtBody z = opening_at-fits in_body refl
  step-fits place.InBody z = on_skipping here (λ _ _ r. body_at-fits (rw z) r)
  step-fits place.InBodyExtern z = in_extern-fits in_body refl (rw z)
  step-fits place.InSole z = on_skipping here (λ _ _ r. sole_at-fits (rw z) r)
  step-fits place.InSoleExtern z = in_extern-fits in_sole refl (rw z)
  step-fits place.AtList z = on_within script_limit (λ h. rw z (list h)) (opening_at-fits in_list refl)
  step-fits place.InList z = on_skipping here (λ _ _ r. list_at-fits (rw z) r)
  step-fits place.InListExtern z = in_extern-fits in_list refl (rw z)
  step-fits place.AtSymbol z =
      on_within token_limit (λ h. rw z (symbol h)) (matcher-fits in_symbol_extern behind_symbol refl refl (first (rw z)))
  step-fits place.InSymbolExtern z = in_extern-fits behind_symbol refl (rw z)
  step-fits place.AtBare z =
      on_within token_limit (λ h. rw z (bare h)) (bare_matcher-fits in_bare_extern behind_symbol refl refl (first (rw z)) refl)
  step-fits place.InBareExtern z = in_bare-fits behind_symbol refl (rw z)
  step-fits place.BehindSymbol z = done

  pub next_fits : Fits s c (next s c)
  unfolding next
  next_fits = step-fits c.place refl
