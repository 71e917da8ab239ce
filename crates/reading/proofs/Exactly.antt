-- A step of a reading refuses exactly where specs/Refusing.antt says, with that number and at that place (`refuses_exactly`): so for each of the numbers 2, 3
-- and 4 (`unreadable_exactly`, `unclosed_exactly`, `bad_extern_exactly`; for 1, `too_long_exactly` of proofs/Refusals.antt), and of a whole reading
-- (`reading_exactly`). A step may start at any cursor: nothing is asked of it.
-- Assumes nothing.
use Prim.Native.Nat.{ℕ, zero, suc, ◌+◌, ◌-◌, ◌<◌}
use mathlib.Core.Path.{◌≡◌, refl, sym, ◌∙◌, ap}
use mathlib.Core.List.{List}
use mathlib.Core.Bool.{Bool, true, false, cond, true≢false}
use native.Mathlib.Omega.{arith}
use borrow.Author.Tests.{eqb-true, eqb-false, ltb-false}
use lib.Dec.{eqb, ltb}
use lib.ListN.{length, get_or}
use Rattle.numbers.specs.declared.Refusal.{Refusal}
use Rattle.numbers.specs.declared.Refusal.TheVariants as no
use Rattle.numbers.specs.Saying.{number}
use Rattle.numbers.specs.Signs.{closing_brace, opening_brace, semicolon}
use Rattle.std.specs.Prelude.{Option, Some, None, Ok, Err}
use Rattle.linker_script.specs.Finding.{closes, first_from, is}
use Rattle.linker_script.proofs.Searches.{first_within}
use Rattle.reading_tokens.specs.Tokens.{TokenEnd, stands_at, name_end, end_at, to_semicolon, to_brace, bare_end, bare_skip}
use Rattle.numbers.specs.declared.Edition.{Edition}
use Rattle.reading_cursors.specs.declared.places.Place.TheVariants as place
use Rattle.reading_cursors.specs.declared.places.Place.{Place}
use Rattle.reading_cursors.specs.declared.Cursor.{Cursor}
use Rattle.reading_cursors.specs.declared.Event.{Event}
use Rattle.reading_cursors.specs.declared.Event.TheVariants.{Extern}
use Rattle.reading_cursors.specs.declared.RefusedAt.{RefusedAt}
use Rattle.reading_cursors.specs.Moves.{Step, stepped, finished, refused_at, edition_at, moved, in_language, skip_at, skipping, expecting, ending}
use Rattle.reading_matchers.specs.Matchers.{extern_word, cxx_word, c_word, close_word, line_to, extern_open, extern_at, extern_inside, matcher as matcher-at, bare_line}
use Rattle.reading_cursors.specs.Places.{in_list, in_list_extern, behind_symbol}
use Rattle.reading_bodies.specs.Bodies.{global_word, local_word, name_to, node_at, script_at, parent_to, parent_at, inside_body, list_at}
use Rattle.reading.specs.Scripts.{step_at, next}
use Rattle.reading.specs.Rules.{Byte, Token, plain_token, extern_token, bare_token, bare_extern_token, to_closing, Rule, skip_to, node, opening, parent, end, matcher, token, Due, due_script, due_node, due_opening, due_body, due_body_block, due_sole, due_sole_block, due_list, due_matchers, due_list_block, due_symbol, due_symbol_block, due_bare, due_bare_block, Over, Comes, starts, past_blank, past_line, past_comment, skipped, to_nodes, behind_body, of_body, behind_semicolon, behind_list, of_list, behind_cxx, behind_c, behind_block, of_matcher, of_block, all_text}
use Rattle.reading.specs.Refusing.{Unreadable, no_name, no_opening, no_parent_end, no_semicolon, bytes_remain, no_token_end, empty_to_semicolon, empty_to_closing, Unclosed, line, comment, no_brace_left, BadExtern, language, within_extern, Refusing, one, two, three, four, Reaches, first, after, RefusedReading}
use Rattle.reading.specs.Events.{refused, on_step, reading_from, reading}
use Rattle.reading.proofs.Absence.{nowhere_none, pair_found, skip-blank, skip-line, skip-line-opens, skip-comment, skip-comment-opens, skip-stays, semicolon-stays, closing_stays, Turn, stays, at_blank, at_line, at_comment, in_line, in_comment, turn}
use Rattle.reading.specs.Standing.{Standing}
use Rattle.reading.proofs.Onward.{start_stands, next_stands, next_onward, reading_step}
use Rattle.reading.proofs.Refusals.{refusal, too_long_exactly}
use Rattle.reading.proofs.Steps.{Reason, long, grammar}
use Rattle.reading.proofs.Coming.{name-goes, usual, token_end, Rest, skip_rest, script_rest, node_rest, opening_rest, body_rest, parent_rest, semicolon_rest, end_rest, list_rest, matcher_rest, block_rest, token_rest, bare_rest, no_more_rest, Left, left, due_left, unreadable-refuses, unclosed-refuses, bad_extern-refuses}

module _ (s : List ℕ) (c : Cursor) where
  -- ---- it refuses only so
  data Says : Step → Type 0 where
    goes : {e : Event} {d : Cursor} → Says (stepped e d)
    ended : Says finished
    refuses : {n : Refusal} {p : ℕ} → Refusing s c n p → Says (refused_at n p)

  on_cond : (t : Bool) {a b : Step} → (t ≡ true → Says a) → (t ≡ false → Says b) → Says (cond t a b)
  on_cond true f g = f refl
  on_cond false f g = g refl

  module _ {r : Rule} {on : ℕ → Step} (f : (q : ℕ) → Comes s c r q → Says (on q)) where
    skip_turn : {p : ℕ} → ((q : ℕ) → p < q → p < length s → Comes s c (skip_to r) q → Says (skipping c s q on)) → Comes s c (skip_to r) p
        → Turn (edition_at c) s p → Says (skipping c s p on)
    skip_turn {p} more w (stays e) = rw (skip-stays (edition_at c) s p e) (f p (skipped w e))
    skip_turn {p} more w (at_blank h e) = rw (skip-blank (edition_at c) s p e) (more (p + 1) (omega arith) h (past_blank w e))
    skip_turn {p} more w (at_line {q = q} h k e j) = rw (skip-line (edition_at c) s p e q j) (more (q + 1) (omega arith) (omega arith) (past_line w e j))
    skip_turn {p} more w (at_comment {q = q} h k e i j) =
        rw (skip-comment (edition_at c) s p e i q j) (more (q + 2) (omega arith) (omega arith) (past_comment w e i j))
    skip_turn {p} more w (in_line e n) = rw (skip-line-opens (edition_at c) s p e n) (refuses (three (line w e n)))
    skip_turn {p} more w (in_comment e i n) = rw (skip-comment-opens (edition_at c) s p e i n) (refuses (three (comment w e i n)))

    skip_in : (n : ℕ) {p : ℕ} → length s - p < n → Comes s c (skip_to r) p → Says (skipping c s p on)
    skip_in zero h w = absurd (omega arith)
    skip_in (suc n) {p} h w = skip_turn (λ q a b v. skip_in n (omega arith) v) w (turn (edition_at c) s p)

    skip-says : {p : ℕ} → Comes s c (skip_to r) p → Says (skipping c s p on)
    skip-says {p} w = skip_in (length s - p + 1) (omega arith) w

  module _ {p : ℕ} where
    node-says : Comes s c node p → Says (node_at c s p)
    unfolding node_at name_to
    node-says w =
        on_cond (eqb p (length s)) (λ _. ended)
        (λ e. on_cond (ltb p (name_end s p)) (λ _. goes)
        (λ h. refuses (two (no_name w (eqb-false p (length s) e) (λ n. omega (arith, ltb-false p (name_end s p) h, name-goes n))))))

    opening-says : (e : Event) (d : ℕ → Cursor) → Comes s c opening p → Says (expecting opening_brace s p (λ q. stepped e (d q)))
    opening-says e d w =
        on_cond (eqb (get_or s p 0) opening_brace) (λ _. goes) (λ h. refuses (two (no_opening w (eqb-false (get_or s p 0) opening_brace h))))

    end_says : Comes s c end p → Says (ending s p)
    end_says w = on_cond (eqb p (length s)) (λ _. ended) (λ h. refuses (two (bytes_remain w (eqb-false p (length s) h))))

    parent-says : (d : Cursor) → Comes s c parent p → Says (parent_at d s p)
    unfolding parent_at parent_to
    parent-says d w = go (first_from (is semicolon) s p) refl
      where
        go : (f : Option ℕ) → first_from (is semicolon) s p ≡ f → Says (parent_to d p f)
        go (Some q) e = goes
        go None e = refuses (two (no_parent_end w (nowhere_none semicolon s p (omega arith) e)))

  -- tokens
  data Ended (k : Token) (p : ℕ) : TokenEnd → Type 0 where
    to : {q : ℕ} → skip_at c s q ≡ Ok q → Ended k p (Ok q)
    not : {n : Refusal} → (Comes s c (token k) p → Refusing s c n p) → Ended k p (Err n)

  -- one that goes to the byte b
  ended-found : {k : Token} {p : ℕ} (b : ℕ) (n : Refusal) → ((q : ℕ) → Byte b s q → skip_at c s q ≡ Ok q) → (Byte b s p → Comes s c (token k) p → Refusing s c no.Unreadable p)
      → (first_from (is b) s p ≡ None → Comes s c (token k) p → Refusing s c n p) → (f : Option ℕ) → first_from (is b) s p ≡ f → Ended k p (end_at p n f)
  ended-found {k} {p} b n z empty none (Some q) e = go (ltb p q) refl
    where
      stands-there : Byte b s q
      stands-there = eqb-true (get_or s q 0) b (first_within e).holds

      go : (v : Bool) → ltb p q ≡ v → Ended k p (cond v (Ok q) (Err no.Unreadable))
      go true h = to (z q stands-there)
      go false h =
          let y : q ≡ p = omega (arith, ltb-false p q h, (first_within e).onward) in
          not (empty (rw y at stands-there))
  ended-found b n z empty none None e = not (none e)

  semicolon-ended : {k : Token} {p : ℕ} → to_closing (edition_at c) k s p ≡ false → Ended k p (to_semicolon (edition_at c) s p)
  unfolding to_semicolon
  semicolon-ended {p = p} h =
      ended-found semicolon no.Unreadable (semicolon-stays (edition_at c) s) (λ b w. two (empty_to_semicolon w h b))
      (λ e w. two (no_token_end w h (nowhere_none semicolon s p (omega arith) e)))
      (first_from (is semicolon) s p)
      refl

  no_brace : {k : Token} {p : ℕ} → usual k ≡ true → to_closing (edition_at c) k s p ≡ true → first_from (is closing_brace) s p ≡ None → Comes s c (token k) p
      → Refusing s c no.Unclosed p
  no_brace {k = plain_token} u h e w = absurd (true≢false (sym h))
  no_brace {k = extern_token} {p = p} u h e w = three (no_brace_left w (nowhere_none closing_brace s p (omega arith) e))
  no_brace {k = bare_token} u h e w = absurd (true≢false (sym u))
  no_brace {k = bare_extern_token} {p = p} u h e w = go (first_from closes s p) refl
    where
      go : (f : Option ℕ) → first_from closes s p ≡ f → Refusing s c no.Unclosed p
      go (Some q) k =
          let x = pair_found closing_brace semicolon s p q k in
          absurd (nowhere_none closing_brace s p (omega arith) e q x.0 x.1.0)
      go None k = absurd (true≢false (sym (rw k at h)))

  brace-ended : {k : Token} {p : ℕ} → usual k ≡ true → to_closing (edition_at c) k s p ≡ true → Ended k p (to_brace (edition_at c) s p)
  unfolding to_brace
  brace-ended {p = p} u h =
      ended-found closing_brace no.Unclosed (closing_stays (edition_at c) s) (λ b w. two (empty_to_closing w h b))
      (no_brace u h)
      (first_from (is closing_brace) s p)
      refl

  token-says : {k : Token} {p : ℕ} (place : Place) → usual k ≡ true → Comes s c (token k) p → Says (line_to c s place p (token_end (edition_at c) k s p))
  unfolding line_to
  token-says {k} {p} place u w = go (to_closing (edition_at c) k s p) refl
    where
      line-says : {e : TokenEnd} → Ended k p e → Says (line_to c s place p e)
      line-says (to z) = rw z goes
      line-says (not f) = refuses (f w)

      go : (v : Bool) → to_closing (edition_at c) k s p ≡ v
          → Says (line_to c s place p (cond v (to_brace (edition_at c) s p) (to_semicolon (edition_at c) s p)))
      go true h = line-says (brace-ended u h)
      go false h = line-says (semicolon-ended h)

  bare-says : (place : Place) {p : ℕ} → p ≡ 0 → Comes s c (token bare_token) p → Says (bare_line c s place (bare_end (edition_at c) s))
  unfolding bare_line bare_end bare_skip
  bare-says place y w = go (first_from (is closing_brace) s 0) refl
    where
      at_first : Comes s c (token bare_token) 0
      at_first = rw y at w

      go : (f : Option ℕ) → first_from (is closing_brace) s 0 ≡ f → Says (bare_line c s place (bare_end (edition_at c) s))
      go (Some q) e = rw e (here (ltb 0 q) refl)
        where
          stands-there : Byte closing_brace s q
          stands-there = eqb-true (get_or s q 0) closing_brace (first_within e).holds

          here : (v : Bool) → ltb 0 q ≡ v → Says (bare_line c s place (cond v (Ok q) (Err no.Unreadable)))
          here true h = rw (e, closing_stays (edition_at c) s q stands-there) goes
          here false h =
              let z : q ≡ 0 = omega (arith, ltb-false 0 q h) in
              refuses (two (empty_to_closing at_first refl (rw z at stands-there)))
      go None e =
          rw (e, bare_line, e) (skip-says (λ _ _. goes) (all_text at_first (nowhere_none closing_brace s 0 (omega arith) e)))

  -- matchers
  matcher-says : {k : Token} (inner : Place) {p : ℕ} {t : Step} → (Comes s c (token k) p → Says t) → Comes s c (matcher k) p
      → Says (cond (stands_at extern_word s p) (extern_at c s inner p) t)
  unfolding extern_at extern_open
  matcher-says inner {p} f w =
      on_cond (stands_at extern_word s p)
      (λ e. on_cond (stands_at cxx_word s (p + 7)) (λ a. opens 1 (behind_cxx w e a))
      (λ a. on_cond (stands_at c_word s (p + 7)) (λ b. opens 0 (behind_c w e b))
      (λ b. refuses (four (language w e a b)))))
      (λ e. f (of_matcher w e))
    where
      opens : (l : ℕ) {q : ℕ} → Comes s c (skip_to opening) q → Says (extern_open c s inner l q)
      opens l v = skip-says (λ _ y. opening-says (Extern c.section l) (λ z. moved (in_language c l) inner z) y) v

  plain-says : (inner place : Place) {p : ℕ} → Comes s c (matcher plain_token) p → Says (matcher-at c s inner place p)
  unfolding matcher-at
  plain-says inner place w = matcher-says inner (token-says place refl) w

  rest_says : {r : Rule} {p : ℕ} {t : Step} → Rest s c r p t → Comes s c r p → Says t
  unfolding script_at inside_body list_at extern_inside
  rest_says (skip_rest on f) w = skip-says (λ q v. rest_says (f q) v) w
  rest_says (script_rest {p = p}) w =
      on_cond (eqb (get_or s p 0) opening_brace) (λ _. goes) (λ e. node-says (to_nodes w (eqb-false (get_or s p 0) opening_brace e)))
  rest_says node_rest w = node-says w
  rest_says (opening_rest e d) w = opening-says e d w
  rest_says (body_rest {p = p} inner x) w =
      on_cond (eqb (get_or s p 0) closing_brace) (λ e. rest_says x (behind_body w (eqb-true (get_or s p 0) closing_brace e)))
      (λ e. on_cond (stands_at global_word s p) (λ _. goes)
      (λ a. on_cond (stands_at local_word s p) (λ _. goes)
      (λ b. plain-says inner c.place (of_body w (eqb-false (get_or s p 0) closing_brace e) a b))))
  rest_says (parent_rest d) w = parent-says d w
  rest_says (semicolon_rest {p = p}) w =
      on_cond (eqb (get_or s p 0) semicolon)
      (λ e. skip-says (λ _ v. end_says v) (behind_semicolon w (eqb-true (get_or s p 0) semicolon e)))
      (λ e. refuses (two (no_semicolon w (eqb-false (get_or s p 0) semicolon e))))
  rest_says end_rest w = end_says w
  rest_says (list_rest {p = p}) w =
      on_cond (stands_at close_word s p)
      (λ e. skip-says (λ _ v. end_says v) (behind_list w e))
      (λ e. plain-says in_list_extern in_list (of_list w e))
  rest_says (matcher_rest inner x) w = matcher-says inner (λ v. rest_says x v) w
  rest_says (block_rest {p = p} place u) w =
      on_cond (stands_at close_word s p) (λ e. skip-says (λ _ _. goes) (behind_block w e))
      (λ e. on_cond (stands_at extern_word s p) (λ f. refuses (four (within_extern w f)))
      (λ f. token-says c.place u (of_block w e f)))
  rest_says (token_rest place u) w = token-says place u w
  rest_says (bare_rest place y) w = bare-says place y w
  rest_says (no_more_rest e d) w = goes

-- ---- the rule at each place of the grammar; none behind the matcher of `add_symbol`
data Placed (x : Place) : Type 0 where
  due : {r : Rule} → Due x r → Placed x
  past : x ≡ behind_symbol → Placed x

placed : (x : Place) → Placed x
placed place.AtScript = due due_script
placed place.AtNode = due due_node
placed place.AtBody = due due_opening
placed place.InBody = due due_body
placed place.InBodyExtern = due due_body_block
placed place.InSole = due due_sole
placed place.InSoleExtern = due due_sole_block
placed place.AtList = due due_list
placed place.InList = due due_matchers
placed place.InListExtern = due due_list_block
placed place.AtSymbol = due due_symbol
placed place.InSymbolExtern = due due_symbol_block
placed place.AtBare = due due_bare
placed place.InBareExtern = due due_bare_block
placed place.BehindSymbol = past refl

-- one step has one refusal, at one place
same_refusal : {t : Step} {n m : Refusal} {p q : ℕ} → t ≡ refused_at n p → t ≡ refused_at m q → (n ≡ m) × (p ≡ q)
same_refusal {n = n} {m = m} {p = p} {q = q} x y =
    let z : ◌≡◌ {A = RefusedAt} (record { refusal = n; place = p }) (record { refusal = m; place = q }) = cc in
    (ap (λ r. r.refusal) z, ap (λ r. r.place) z)

module _ (s : List ℕ) (c : Cursor) where
  nothing_read : c.place ≡ behind_symbol → next s c ≡ finished
  unfolding next step_at
  nothing_read h = rw h

  left_says : {r : Rule} {p : ℕ} → Left s c r p → Comes s c r p → Says s c (next s c)
  left_says (left x z) w = rw z (rest_says s c x w)

  module _ {n : Refusal} {p : ℕ} where
    said : Says s c (refused_at n p) → Refusing s c n p
    said (refuses r) = r

    other : (n ≡ no.TooLong → ⊥) → next s c ≡ refused_at n p → Placed c.place → Refusing s c n p
    other h e (due d) =
        let o : Over s c.place → ⊥ = λ o. h (same_refusal e ((too_long_exactly s c).1 o)).0 in
        said (rw e at (left_says (due_left c.place refl o d) (starts o d)))
    other h e (past k) =
        let z : ◌≡◌ {A = ℕ} 0 1 = cc (nothing_read k) in
        absurd (omega arith)

    refuses-only : next s c ≡ refused_at n p → Refusing s c n p
    refuses-only e = go refl refl (refusal s c e)
      where
        go : {m : Refusal} {q : ℕ} → n ≡ m → p ≡ q → Reason s c m q → Refusing s c n p
        go z y (long o) = rw (z, y) (one o)
        go z y (grammar k l) = other (λ h. absurd (true≢false (sym (rw (← z, h) at k)))) e (placed c.place)

  refuses_so : {n : Refusal} {p : ℕ} → Refusing s c n p → next s c ≡ refused_at n p
  refuses_so (one o) = (too_long_exactly s c).1 o
  refuses_so (two u) = unreadable-refuses u
  refuses_so (three u) = unclosed-refuses u
  refuses_so (four u) = bad_extern-refuses u

  pub refuses_exactly : (n : Refusal) (p : ℕ) → (next s c ≡ refused_at n p → Refusing s c n p) × (Refusing s c n p → next s c ≡ refused_at n p)
  refuses_exactly n p = (refuses-only, refuses_so)

  -- so only one number and place fit
  pub refuses-once : {n m : Refusal} {p q : ℕ} → Refusing s c n p → Refusing s c m q → (n ≡ m) × (p ≡ q)
  refuses-once x y = same_refusal (refuses_so x) (refuses_so y)

  module _ (p : ℕ) where
    pub unreadable_exactly : (next s c ≡ refused_at no.Unreadable p → Unreadable s c p) × (Unreadable s c p → next s c ≡ refused_at no.Unreadable p)
    unreadable_exactly = (λ e. go (refuses-only e), unreadable-refuses)
      where
        go : Refusing s c no.Unreadable p → Unreadable s c p
        go (two u) = u

    pub unclosed_exactly : (next s c ≡ refused_at no.Unclosed p → Unclosed s c p) × (Unclosed s c p → next s c ≡ refused_at no.Unclosed p)
    unclosed_exactly = (λ e. go (refuses-only e), unclosed-refuses)
      where
        go : Refusing s c no.Unclosed p → Unclosed s c p
        go (three u) = u

    pub bad_extern_exactly : (next s c ≡ refused_at no.BadExtern p → BadExtern s c p) × (BadExtern s c p → next s c ≡ refused_at no.BadExtern p)
    bad_extern_exactly = (λ e. go (refuses-only e), bad_extern-refuses)
      where
        go : Refusing s c no.BadExtern p → BadExtern s c p
        go (four u) = u

-- ---- so of a whole reading
module _ (edition : Edition) (place : Place) (s : List ℕ) (n p : ℕ) where
  reached-stands : {c : Cursor} → Reaches edition place s c → Standing s c
  reached-stands first = start_stands edition place s
  reached-stands (after r h) = next_stands (reached-stands r) h

  -- what is left of it decides
  reached_same : {c : Cursor} → Reaches edition place s c → (reading edition place s).outcome ≡ (reading_from s c).outcome
  unfolding reading
  reached_same first = refl
  reached_same (after {c = c} {d = d} {e = e} r h) =
      let z : (reading_from s c).outcome ≡ (reading_from s d).outcome = rw (reading_step (reached-stands r), h) in
      reached_same r ∙ z

  refused_so : RefusedReading edition place s n p → (reading edition place s).outcome ≡ refused n p
  refused_so x = reached_same x.reached ∙ rw (reading_step (reached-stands x.reached), refuses_so s x.cursor x.refusing, x.numbered)

  -- with at most m events to come
  refused_in : (m : ℕ) {c : Cursor} → length s + 1 - c.at < m → Reaches edition place s c → (reading_from s c).outcome ≡ refused n p
      → RefusedReading edition place s n p
  refused_in zero l r h = absurd (omega arith)
  refused_in (suc m) {c} l r h =
      go (next s c) refl (rw (reading_step (reached-stands r)) at h) (λ d e k. refused_in m (near k) (after r k))
    where
      near : {d : Cursor} {e : Event} → next s c ≡ stepped e d → length s + 1 - d.at < m
      near k =
          let o = next_onward (reached-stands r) k in
          omega (arith, o.onward, o.within)

      go : (t : Step) → next s c ≡ t → (on_step t (λ d. reading_from s d)).outcome ≡ refused n p
          → ((d : Cursor) (e : Event) → next s c ≡ stepped e d → (reading_from s d).outcome ≡ refused n p → RefusedReading edition place s n p)
          → RefusedReading edition place s n p
      go (Ok (Some (e, d))) z k more = more d e z k
      go (Ok None) z k more = absurd (true≢false (cc))
      go (Err t) z k more =
          let x : number t.refusal ≡ n = cc in
          let y : t.place ≡ p = cc in
          record { cursor = c; reached = r; refusal = t.refusal; numbered = x; refusing = rw y at (refuses-only s c {n = t.refusal} {p = t.place} z) }

  refused-only : (reading edition place s).outcome ≡ refused n p → RefusedReading edition place s n p
  unfolding reading
  refused-only h = refused_in (length s + 2) (omega arith) first h

  pub reading_exactly : ((reading edition place s).outcome ≡ refused n p → RefusedReading edition place s n p)
      × (RefusedReading edition place s n p → (reading edition place s).outcome ≡ refused n p)
  reading_exactly = (refused-only, refused_so)
