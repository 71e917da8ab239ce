-- A step comes to the rules and places to which specs/Rules.antt says that it comes (`due_left`, `comes_left`), and there it refuses as specs/Refusing.antt
-- says (`unreadable-refuses`, `unclosed-refuses`, `bad_extern-refuses`). proofs/Exactly.antt says that it refuses only so.
-- Assumes nothing.
use Prim.Native.Nat.{ℕ, zero, suc, ◌+◌, ◌<◌, ◌≤◌}
use mathlib.Core.Path.{◌≡◌, refl, sym, ◌∙◌}
use mathlib.Core.List.{List, [], ◌∷◌}
use mathlib.Core.Bool.{Bool, true, false, cond, ◌&&◌, true≢false}
use native.Mathlib.Decide.{dec_lt}
use native.Mathlib.Omega.{arith}
use borrow.Author.Tests.{eq-eqb, ne_eqb, eqb-true, le-ltb}
use lib.Dec.{eqb, ltb}
use lib.ListN.{length, get_or, drop, drop_of_length-le}
use Rattle.lists.proofs.Tests.{both}
use Rattle.numbers.specs.declared.Edition.{Edition}
use Rattle.numbers.specs.Limits.{script_limit, token_limit}
use Rattle.numbers.specs.declared.Refusal.TheVariants as no
use Rattle.numbers.specs.Signs.{closing_brace, opening_brace, semicolon}
use Rattle.std.specs.Prelude.{Ok, Err}
use Rattle.linker_script.specs.Finding.{closes, first_from, found_any}
use Rattle.linker_script.proofs.Searches.{drop_next}
use Rattle.reading_tokens.specs.Tokens.{TokenEnd, begins, stands_at, named, longer, name_in, name_end, to_semicolon, to_brace, brace_next, to_either, bare_extern_end, bare_end, bare_skip}
use Rattle.reading_cursors.specs.declared.places.Place.{Place}
use Rattle.reading_cursors.specs.declared.Cursor.{Cursor}
use Rattle.reading_cursors.specs.declared.Event.{Event}
use Rattle.reading_cursors.specs.declared.Event.TheVariants.{Body, Extern, Closed}
use Rattle.reading_cursors.specs.Moves.{Step, stepped, refused_at, edition_at, moved, in_section, in_language, skip_at, skipping, expecting, ending}
use Rattle.reading_matchers.specs.Matchers.{extern_word, cxx_word, c_word, close_word, line_to, extern_open, extern_at, extern_inside, in_extern, in_bare, matcher as matcher-at, line as line_of, bare_line, bare_matcher}
use Rattle.reading_cursors.specs.Places.{in_body, in_body_extern, in_sole, in_sole_extern, in_list, in_list_extern, in_symbol_extern, in_bare_extern, behind_symbol}
use Rattle.reading_bodies.specs.Bodies.{global_word, local_word, name_to, node_at, script_at, parent_to, parent_at, node_end, sole_end, inside_body, body_at, sole_at, list_at}
use Rattle.reading.specs.Scripts.{opening_at, start_script, go_node, go_body, go_sole, go_list, step_at, next}
use Rattle.reading.specs.Rules.{Byte, NoByte, Word, NoWord, NameByte, Token, plain_token, extern_token, bare_token, bare_extern_token, to_closing, Rule, skip_to, script_start, node, opening, body, parent, last_semicolon, end, matchers, matcher, block, token, no_more, Due, due_script, due_node, due_opening, due_body, due_body_block, due_sole, due_sole_block, due_list, due_matchers, due_list_block, due_symbol, due_symbol_block, due_bare, due_bare_block, due_at, Over, script, list, symbol, bare, Comes, starts, past_blank, past_line, past_comment, skipped, to_nodes, behind_body, of_body, behind_semicolon, behind_list, of_list, behind_cxx, behind_c, behind_block, of_matcher, of_block, all_text}
use Rattle.reading.specs.Refusing.{Unreadable, no_name, no_opening, no_parent_end, no_semicolon, bytes_remain, no_token_end, empty_to_semicolon, empty_to_closing, Unclosed, line, comment, no_brace_left, BadExtern, language, within_extern}
use Rattle.reading.proofs.Absence.{none_nowhere, stands_first, pair-nowhere, skip-blank, skip-line, skip-line-opens, skip-comment, skip-comment-opens, skip-stays}

-- ---- words
-- what stands of a word at its places
begins_byte : (w l : List ℕ) (i : ℕ) → begins w l ≡ true → i < length w → get_or l i 0 ≡ get_or w i 0
unfolding begins
begins_byte [] l i e h = absurd (omega arith)
begins_byte (x ∷ w) [] i e h = absurd (true≢false (sym e))
begins_byte (x ∷ w) (b ∷ l) zero e h = eqb-true b x (both (eqb b x) (begins w l) e).0
begins_byte (x ∷ w) (b ∷ l) (suc i) e h = begins_byte w l i (both (eqb b x) (begins w l) e).1 (omega arith)

-- two words that differ in a byte do not stand at one place
differ : (v w s : List ℕ) (p i : ℕ) → i < length v → i < length w → (get_or v i 0 ≡ get_or w i 0 → ⊥) → Word v s p → NoWord w s p
differ v w s p i h k n e = go (stands_at w s p) refl
  where
    go : (t : Bool) → stands_at w s p ≡ t → stands_at w s p ≡ false
    go true f = absurd (n (sym (begins_byte v (drop p s) i e h) ∙ begins_byte w (drop p s) i f k))
    go false f = f

-- ---- names
name-least : (p : ℕ) (l : List ℕ) → p ≤ name_in p l
unfolding name_in
name-least p [] = omega arith
name-least p (b ∷ l) = go (named b) (name-least (p + 1) l)
  where
    go : (t : Bool) → p + 1 ≤ name_in (p + 1) l → p ≤ longer t p (name_in (p + 1) l)
    go true h = omega arith
    go false h = omega arith

pub name-goes : {s : List ℕ} {p : ℕ} → NameByte s p → p < name_end s p
unfolding name_in
name-goes {s} {p} n = rw (drop_next s p n.within, n.name) (omega (arith, name-least (p + 1) (drop (p + 1) s)))

module _ (s : List ℕ) (p : ℕ) where
  name-stays : (NameByte s p → ⊥) → name_end s p ≤ p
  unfolding name_in
  name-stays n = go (dec_lt p (length s))
    where
      byte : p < length s → (t : Bool) → named (get_or s p 0) ≡ t → name_end s p ≤ p
      byte h true e = absurd (n (record { within = h; name = e }))
      byte h false e = rw (drop_next s p h, e) (omega arith)

      go : Dec (p < length s) → name_end s p ≤ p
      go (yes h) = byte h (named (get_or s p 0)) refl
      go (no h) =
          let l : length s ≤ p = omega arith in
          rw (drop_of_length-le s l) (omega arith)

-- ---- tokens
-- those that end at a `;` or a `}`
abbrev pub usual : Token → Bool
usual plain_token = true
usual extern_token = true
usual bare_token = false
usual bare_extern_token = true

-- where 01 says that a token at p ends
abbrev pub token_end : Edition → Token → List ℕ → ℕ → TokenEnd
token_end x k s p = cond (to_closing x k s p) (to_brace x s p) (to_semicolon x s p)

-- so it says of one in a block without semicolon, in its own words
two_tests : (t u : Bool) (a b : TokenEnd) → cond t (cond u a b) b ≡ cond (t && u) a b
two_tests true u a b = refl
two_tests false u a b = refl

bare_end-said : (x : Edition) (s : List ℕ) (p : ℕ) → bare_extern_end x s p ≡ token_end x bare_extern_token s p
unfolding bare_extern_end to_either
bare_end-said x s p = two_tests (found_any (first_from closes s p)) (brace_next x s p) (to_brace x s p) (to_semicolon x s p)

-- ---- what is left of a step that has come to a rule at a place
pub data Rest (s : List ℕ) (c : Cursor) : Rule → ℕ → Step → Type 0 where
  skip_rest : {r : Rule} {p : ℕ} (on : ℕ → Step) → ((q : ℕ) → Rest s c r q (on q)) → Rest s c (skip_to r) p (skipping c s p on)
  script_rest : {p : ℕ} → Rest s c script_start p (script_at c s p)
  node_rest : {p : ℕ} → Rest s c node p (node_at c s p)
  opening_rest : {p : ℕ} (e : Event) (d : ℕ → Cursor) → Rest s c opening p (expecting opening_brace s p (λ q. stepped e (d q)))
  body_rest : {r : Rule} {p : ℕ} {a : Step} (inner : Place) → Rest s c (skip_to r) (p + 1) a
      → Rest s c (body r) p (cond (eqb (get_or s p 0) closing_brace) a (inside_body c s inner p))
  parent_rest : {p : ℕ} (d : Cursor) → Rest s c parent p (parent_at d s p)
  semicolon_rest : {p : ℕ} → Rest s c last_semicolon p (expecting semicolon s p (λ r. skipping c s r (λ e. ending s e)))
  end_rest : {p : ℕ} → Rest s c end p (ending s p)
  list_rest : {p : ℕ} → Rest s c matchers p (list_at c s p)
  matcher_rest : {k : Token} {p : ℕ} {t : Step} (inner : Place) → Rest s c (token k) p t
      → Rest s c (matcher k) p (cond (stands_at extern_word s p) (extern_at c s inner p) t)
  block_rest : {k : Token} {p : ℕ} (place : Place) → usual k ≡ true → Rest s c (block k) p (extern_inside c s place p (token_end (edition_at c) k s p))
  token_rest : {k : Token} {p : ℕ} (place : Place) → usual k ≡ true → Rest s c (token k) p (line_to c s place p (token_end (edition_at c) k s p))
  bare_rest : {p : ℕ} (place : Place) → p ≡ 0 → Rest s c (token bare_token) p (bare_line c s place (bare_end (edition_at c) s))
  no_more_rest : {p : ℕ} (e : Event) (d : Cursor) → Rest s c no_more p (stepped e d)

in_limit : (s : List ℕ) (limit : ℕ) → (limit < length s → ⊥) → ltb limit (length s) ≡ false
in_limit s limit h = le-ltb limit (length s) (omega arith)

pub data Left (s : List ℕ) (c : Cursor) (r : Rule) (p : ℕ) : Type 0 where
  left : {t : Step} → Rest s c r p t → next s c ≡ t → Left s c r p

module _ {s : List ℕ} {c : Cursor} where
  -- a matcher in a body or a list; the `{` of an extern block
  plain_rest : (inner place : Place) (p : ℕ) → Rest s c (matcher plain_token) p (matcher-at c s inner place p)
  unfolding matcher-at
  plain_rest inner place p = matcher_rest inner (token_rest place refl)

  extern_rest : (place : Place) (l p : ℕ) → Rest s c (skip_to opening) p (extern_open c s place l p)
  unfolding extern_open
  extern_rest place l p =
      skip_rest
      (λ r. expecting opening_brace s r (λ q. stepped (Extern c.section l) (moved (in_language c l) place q)))
      (λ q. opening_rest (Extern c.section l) (λ r. moved (in_language c l) place r))

  end_skip_rest : (p : ℕ) → Rest s c (skip_to end) p (skipping c s p (λ r. ending s r))
  end_skip_rest p = skip_rest (λ r. ending s r) (λ q. end_rest)

  closed_rest : {p : ℕ} (place : Place) → Rest s c (skip_to no_more) p (skipping c s p (λ r. stepped Closed (moved (in_language c 0) place r)))
  closed_rest place = skip_rest (λ r. stepped Closed (moved (in_language c 0) place r)) (λ q. no_more_rest Closed (moved (in_language c 0) place q))

  -- ---- a step comes to where it is said to come
  skip-moves : {r : Rule} {p q : ℕ} → skip_at c s p ≡ skip_at c s q → Left s c (skip_to r) p → Left s c (skip_to r) q
  skip-moves e (left (skip_rest on f) z) = left (skip_rest on f) (z ∙ rw e)

  skip-done : {r : Rule} {p : ℕ} → skip_at c s p ≡ Ok p → Left s c (skip_to r) p → Left s c r p
  skip-done {p = p} e (left (skip_rest on f) z) = left (f p) (z ∙ rw e)

  nodes_left : {p : ℕ} → (Byte opening_brace s p → ⊥) → Left s c script_start p → Left s c node p
  unfolding script_at
  nodes_left {p = p} n (left script_rest z) = left node_rest (z ∙ rw (ne_eqb (get_or s p 0) opening_brace n))

  body_left : {r : Rule} {p : ℕ} → Byte closing_brace s p → Left s c (body r) p → Left s c (skip_to r) (p + 1)
  body_left {p = p} e (left (body_rest inner x) z) = left x (z ∙ rw (eq-eqb (get_or s p 0) closing_brace e))

  in_body_left : {r : Rule} {p : ℕ} → (Byte closing_brace s p → ⊥) → NoWord global_word s p → NoWord local_word s p → Left s c (body r) p
      → Left s c (matcher plain_token) p
  unfolding inside_body
  in_body_left {p = p} n a b (left (body_rest inner x) z) = left (plain_rest inner c.place p) (z ∙ rw (ne_eqb (get_or s p 0) closing_brace n, a, b))

  semicolon_left : {p : ℕ} → Byte semicolon s p → Left s c last_semicolon p → Left s c (skip_to end) (p + 1)
  semicolon_left {p = p} e (left semicolon_rest z) = left (end_skip_rest (p + 1)) (z ∙ rw (eq-eqb (get_or s p 0) semicolon e))

  list_left : {p : ℕ} → Word close_word s p → Left s c matchers p → Left s c (skip_to end) (p + 2)
  unfolding list_at
  list_left {p = p} e (left list_rest z) = left (end_skip_rest (p + 2)) (z ∙ rw e)

  in_list_left : {p : ℕ} → NoWord close_word s p → Left s c matchers p → Left s c (matcher plain_token) p
  unfolding list_at
  in_list_left {p = p} e (left list_rest z) = left (plain_rest in_list_extern in_list p) (z ∙ rw e)

  cxx_left : {k : Token} {p : ℕ} → Word extern_word s p → Word cxx_word s (p + 7) → Left s c (matcher k) p → Left s c (skip_to opening) (p + 12)
  unfolding extern_at
  cxx_left {p = p} e f (left (matcher_rest inner x) z) = left (extern_rest inner 1 (p + 12)) (z ∙ rw (e, f))

  c_left : {k : Token} {p : ℕ} → Word extern_word s p → Word c_word s (p + 7) → Left s c (matcher k) p → Left s c (skip_to opening) (p + 10)
  unfolding extern_at
  c_left {p = p} e f (left (matcher_rest inner x) z) =
      let n = differ c_word cxx_word s (p + 7) 2 (omega arith) (omega arith) (λ y. omega arith) f in
      left (extern_rest inner 0 (p + 10)) (z ∙ rw (e, n, f))

  block_left : {k : Token} {p : ℕ} → Word close_word s p → Left s c (block k) p → Left s c (skip_to no_more) (p + 2)
  unfolding extern_inside
  block_left e (left (block_rest place u) z) = left (closed_rest place) (z ∙ rw e)

  matcher_left : {k : Token} {p : ℕ} → NoWord extern_word s p → Left s c (matcher k) p → Left s c (token k) p
  matcher_left e (left (matcher_rest inner x) z) = left x (z ∙ rw e)

  in_block_left : {k : Token} {p : ℕ} → NoWord close_word s p → NoWord extern_word s p → Left s c (block k) p → Left s c (token k) p
  unfolding extern_inside
  in_block_left e f (left (block_rest place u) z) = left (token_rest c.place u) (z ∙ rw (e, f))

  all_left : {p : ℕ} → NoByte closing_brace s p → Left s c (token bare_token) p → Left s c (skip_to no_more) 0
  unfolding bare_line bare_end bare_skip
  all_left n (left (token_rest place u) z) = absurd (true≢false (sym u))
  all_left n (left (bare_rest place y) z) =
      let e = none_nowhere closing_brace s 0 (rw y at n) in
      left (skip_rest (λ r. matched place) (λ q. no_more_rest (line_of c s 0 (length s)) (moved c place (length s + 1)))) (z ∙ rw (e, bare_line, e))
    where
      matched : Place → Step
      matched place = stepped (line_of c s 0 (length s)) (moved c place (length s + 1))

  -- where it starts
  at_body_rest : (p : ℕ) → Rest s c (body parent) p (body_at c s p)
  unfolding body_at node_end
  at_body_rest p = body_rest in_body_extern (skip_rest (λ q. parent_at (in_section c 0) s q) (λ q. parent_rest (in_section c 0)))

  at_sole_rest : (p : ℕ) → Rest s c (body last_semicolon) p (sole_at c s p)
  unfolding sole_at sole_end
  at_sole_rest p =
      body_rest in_sole_extern
      (skip_rest (λ q. expecting semicolon s q (λ r. skipping c s r (λ e. ending s e))) (λ q. semicolon_rest))

  at_opening_rest : (place : Place) → Rest s c (skip_to opening) c.at (opening_at c s place)
  unfolding opening_at
  at_opening_rest place =
      skip_rest (λ p. expecting opening_brace s p (λ q. stepped Body (moved c place q))) (λ p. opening_rest Body (λ q. moved c place q))

  at_block_rest : (place : Place) → Rest s c (skip_to (block extern_token)) c.at (in_extern c s place)
  unfolding in_extern to_either
  at_block_rest place =
      skip_rest {r = block extern_token}
      (λ p. extern_inside c s place p (to_either (edition_at c) s p))
      (λ p. block_rest place refl)

  at_bare-block_rest : (place : Place) → Rest s c (skip_to (block bare_extern_token)) c.at (in_bare c s place)
  unfolding in_bare
  at_bare-block_rest place =
      skip_rest {r = block bare_extern_token}
      (λ p. extern_inside c s place p (bare_extern_end (edition_at c) s p))
      (λ p. rw (bare_end-said (edition_at c) s p) (block_rest place refl))

  at_bare_rest : (inner place : Place) → Rest s c (matcher bare_token) 0 (bare_matcher c s inner place)
  unfolding bare_matcher
  at_bare_rest inner place = matcher_rest inner (bare_rest place refl)

  pub due_left : {r : Rule} (n : Place) → c.place ≡ n → (Over s n → ⊥) → Due n r → Left s c r (due_at n c.at)
  unfolding next step_at start_script go_node go_body go_sole go_list
  due_left n z o due_script = left (skip_rest (λ p. script_at c s p) (λ p. script_rest)) (rw (z, in_limit s script_limit (λ h. o (script h))))
  due_left n z o due_node = left (skip_rest (λ p. node_at c s p) (λ p. node_rest)) (rw z)
  due_left n z o due_opening = left (at_opening_rest in_body) (rw z)
  due_left n z o due_body = left (skip_rest (λ p. body_at c s p) at_body_rest) (rw z)
  due_left n z o due_body_block = left (at_block_rest in_body) (rw z)
  due_left n z o due_sole = left (skip_rest (λ p. sole_at c s p) at_sole_rest) (rw z)
  due_left n z o due_sole_block = left (at_block_rest in_sole) (rw z)
  due_left n z o due_list = left (at_opening_rest in_list) (rw (z, in_limit s script_limit (λ h. o (list h))))
  due_left n z o due_matchers = left (skip_rest (λ p. list_at c s p) (λ p. list_rest)) (rw z)
  due_left n z o due_list_block = left (at_block_rest in_list) (rw z)
  due_left n z o due_symbol = left (plain_rest in_symbol_extern behind_symbol 0) (rw (z, in_limit s token_limit (λ h. o (symbol h))))
  due_left n z o due_symbol_block = left (at_block_rest behind_symbol) (rw z)
  due_left n z o due_bare = left (at_bare_rest in_bare_extern behind_symbol) (rw (z, in_limit s token_limit (λ h. o (bare h))))
  due_left n z o due_bare_block = left (at_bare-block_rest behind_symbol) (rw z)

  comes_left : {r : Rule} {p : ℕ} → Comes s c r p → Left s c r p
  comes_left (starts o d) = due_left c.place refl o d
  comes_left (past_blank {p = p} h e) = skip-moves (skip-blank (edition_at c) s p e) (comes_left h)
  comes_left (past_line {p = p} {q = q} h e f) = skip-moves (skip-line (edition_at c) s p e q f) (comes_left h)
  comes_left (past_comment {p = p} {q = q} h e f k) = skip-moves (skip-comment (edition_at c) s p e f q k) (comes_left h)
  comes_left (skipped {p = p} h e) = skip-done (skip-stays (edition_at c) s p e) (comes_left h)
  comes_left (to_nodes h n) = nodes_left n (comes_left h)
  comes_left (behind_body h e) = body_left e (comes_left h)
  comes_left (of_body h n a b) = in_body_left n a b (comes_left h)
  comes_left (behind_semicolon h e) = semicolon_left e (comes_left h)
  comes_left (behind_list h e) = list_left e (comes_left h)
  comes_left (of_list h e) = in_list_left e (comes_left h)
  comes_left (behind_cxx h e f) = cxx_left e f (comes_left h)
  comes_left (behind_c h e f) = c_left e f (comes_left h)
  comes_left (behind_block h e) = block_left e (comes_left h)
  comes_left (of_matcher h e) = matcher_left e (comes_left h)
  comes_left (of_block h e f) = in_block_left e f (comes_left h)
  comes_left (all_text h n) = all_left n (comes_left h)

  -- ---- and refuses where it is said to refuse
  module _ {p : ℕ} where
    name-refuses : (p ≡ length s → ⊥) → (NameByte s p → ⊥) → Left s c node p → next s c ≡ refused_at no.Unreadable p
    unfolding node_at name_to
    name-refuses n m (left node_rest z) = z ∙ rw (ne_eqb p (length s) n, le-ltb p (name_end s p) (name-stays s p m))

    opening-refuses : (Byte opening_brace s p → ⊥) → Left s c opening p → next s c ≡ refused_at no.Unreadable p
    opening-refuses n (left (opening_rest e d) z) = z ∙ rw (ne_eqb (get_or s p 0) opening_brace n)

    parent-refuses : NoByte semicolon s p → Left s c parent p → next s c ≡ refused_at no.Unreadable p
    unfolding parent_at parent_to
    parent-refuses n (left (parent_rest d) z) = z ∙ rw (none_nowhere semicolon s p n)

    semicolon-refuses : (Byte semicolon s p → ⊥) → Left s c last_semicolon p → next s c ≡ refused_at no.Unreadable p
    semicolon-refuses n (left semicolon_rest z) = z ∙ rw (ne_eqb (get_or s p 0) semicolon n)

    end_refuses : (p ≡ length s → ⊥) → Left s c end p → next s c ≡ refused_at no.Unreadable p
    end_refuses n (left end_rest z) = z ∙ rw (ne_eqb p (length s) n)

    skip-refuses : {r : Rule} → skip_at c s p ≡ Err p → Left s c (skip_to r) p → next s c ≡ refused_at no.Unclosed p
    skip-refuses e (left (skip_rest on f) z) = z ∙ rw e

    language-refuses : {k : Token} → Word extern_word s p → NoWord cxx_word s (p + 7) → NoWord c_word s (p + 7) → Left s c (matcher k) p
        → next s c ≡ refused_at no.BadExtern p
    unfolding extern_at
    language-refuses e a b (left (matcher_rest inner x) z) = z ∙ rw (e, a, b)

    within-refuses : {k : Token} → Word extern_word s p → Left s c (block k) p → next s c ≡ refused_at no.BadExtern p
    unfolding extern_inside
    within-refuses e (left (block_rest place u) z) = z ∙ rw (differ extern_word close_word s p 0 (omega arith) (omega arith) (λ y. omega arith) e, e)

    -- tokens
    no_end_refuses : {k : Token} → to_closing (edition_at c) k s p ≡ false → NoByte semicolon s p → Left s c (token k) p → next s c ≡ refused_at no.Unreadable p
    unfolding line_to to_semicolon
    no_end_refuses e n (left (token_rest place u) z) = z ∙ rw (e, none_nowhere semicolon s p n)
    no_end_refuses e n (left (bare_rest place y) z) = absurd (true≢false e)

    empty-refuses : {k : Token} → to_closing (edition_at c) k s p ≡ false → Byte semicolon s p → Left s c (token k) p → next s c ≡ refused_at no.Unreadable p
    unfolding line_to to_semicolon
    empty-refuses e b (left (token_rest place u) z) = z ∙ rw (e, stands_first semicolon s p (omega arith) b, le-ltb p p (omega arith))
    empty-refuses e b (left (bare_rest place y) z) = absurd (true≢false e)

    closing_refuses : {k : Token} → to_closing (edition_at c) k s p ≡ true → Byte closing_brace s p → Left s c (token k) p → next s c ≡ refused_at no.Unreadable p
    unfolding line_to to_brace bare_line bare_end
    closing_refuses e b (left (token_rest place u) z) = z ∙ rw (e, stands_first closing_brace s p (omega arith) b, le-ltb p p (omega arith))
    closing_refuses e b (left (bare_rest place y) z) = z ∙ rw (stands_first closing_brace s 0 (omega arith) (rw y at b), y)

    brace-refuses : NoByte closing_brace s p → Left s c (token extern_token) p → next s c ≡ refused_at no.Unclosed p
    unfolding line_to to_brace
    brace-refuses n (left (token_rest place u) z) =
        z ∙ rw (pair-nowhere closing_brace semicolon s p (λ q l b _. n q l b), none_nowhere closing_brace s p n)

  module _ {p : ℕ} where
    pub unreadable-refuses : Unreadable s c p → next s c ≡ refused_at no.Unreadable p
    unreadable-refuses (no_name h n m) = name-refuses n m (comes_left h)
    unreadable-refuses (no_opening h n) = opening-refuses n (comes_left h)
    unreadable-refuses (no_parent_end h n) = parent-refuses n (comes_left h)
    unreadable-refuses (no_semicolon h n) = semicolon-refuses n (comes_left h)
    unreadable-refuses (bytes_remain h n) = end_refuses n (comes_left h)
    unreadable-refuses (no_token_end h e n) = no_end_refuses e n (comes_left h)
    unreadable-refuses (empty_to_semicolon h e b) = empty-refuses e b (comes_left h)
    unreadable-refuses (empty_to_closing h e b) = closing_refuses e b (comes_left h)

    pub unclosed-refuses : Unclosed s c p → next s c ≡ refused_at no.Unclosed p
    unclosed-refuses (line h e n) = skip-refuses (skip-line-opens (edition_at c) s p e n) (comes_left h)
    unclosed-refuses (comment h e f n) = skip-refuses (skip-comment-opens (edition_at c) s p e f n) (comes_left h)
    unclosed-refuses (no_brace_left h n) = brace-refuses n (comes_left h)

    pub bad_extern-refuses : BadExtern s c p → next s c ≡ refused_at no.BadExtern p
    bad_extern-refuses (language h e a b) = language-refuses e a b (comes_left h)
    bad_extern-refuses (within_extern h e) = within-refuses e (comes_left h)
