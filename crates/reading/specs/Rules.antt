-- The rules of 01's 'Reading', and where a step of a reading comes to each, byte by byte: a second account of `next`, by which specs/Refusing.antt says when
-- it refuses. Assumes nothing.
use Rattle.std.specs.Prelude.{ℕ, ◌+◌, ◌<◌, ◌≤◌, ◌≡◌, List, ◌++◌, Bool, true, false, cond, ◌&&◌, length, get_or, Some}
use Rattle.numbers.specs.declared.Edition.{Edition}
use Rattle.numbers.specs.Limits.{script_limit, token_limit}
use Rattle.numbers.specs.Signs.{asterisk, closing_brace, hash, line_feed, opening_brace, semicolon, slash}
use Rattle.linker_script.specs.Finding.{closes, first_from, found_any, is}
use Rattle.linker_script.specs.Parts.{behind}
use Rattle.linker_script.specs.Skip.{blank, comment_end, skips}
use Rattle.reading_tokens.specs.Tokens.{brace_next, named, stands_at}
use Rattle.reading_cursors.specs.declared.Cursor.{Cursor}
use Rattle.reading_cursors.specs.declared.places.Place.{Place}
use Rattle.reading_cursors.specs.declared.places.Place.TheVariants as place
use Rattle.reading_cursors.specs.Moves.{edition_at}
use Rattle.reading_matchers.specs.Matchers.{extern_word, cxx_word, c_word, close_word}
use Rattle.reading_cursors.specs.Places.{at_script, at_node, at_body, in_body, in_body_extern, in_sole, in_sole_extern}
use Rattle.reading_cursors.specs.Places.{at_list, in_list, in_list_extern, at_symbol, in_symbol_extern, at_bare, in_bare_extern}
use Rattle.reading_bodies.specs.Bodies.{global_word, local_word}

-- ---- the text at a place
-- the byte b stands at p; none stands from p on; nor do two bytes side by side
abbrev pub Byte : ℕ → List ℕ → ℕ → Type 0
Byte b s p = get_or s p 0 ≡ b

abbrev pub NoByte : ℕ → List ℕ → ℕ → Type 0
NoByte b s p = (q : ℕ) → p ≤ q → Byte b s q → ⊥

abbrev pub NoPair : ℕ → ℕ → List ℕ → ℕ → Type 0
NoPair a b s p = (q : ℕ) → p ≤ q → Byte a s q → Byte b s (q + 1) → ⊥

-- a word stands at p, or doesn't
abbrev pub Word : List ℕ → List ℕ → ℕ → Type 0
Word w s p = stands_at w s p ≡ true

abbrev pub NoWord : List ℕ → List ℕ → ℕ → Type 0
NoWord w s p = stands_at w s p ≡ false

-- a byte of a name stands at p
pub record NameByte (s : List ℕ) (p : ℕ) : Type 0 where
  pub within : p < length s
  pub name : named (get_or s p 0) ≡ true

-- ---- the rules
-- a token: outside an extern block; in one; with `without_semicolon`; in an extern block there
pub data Token : Type 0 where
  plain_token : Token
  extern_token : Token
  bare_token : Token
  bare_extern_token : Token

-- whether the token at p goes to `}`, or with `without_semicolon` to the text's end where there is none; else to `;`: "when the remaining text has no `};`,
-- or has one with no `;` before it"; "An extern block there differs in one point: with no `};` left, tokens go to `;`."
abbrev pub to_closing : Edition → Token → List ℕ → ℕ → Bool
to_closing x plain_token s p = false
to_closing x extern_token s p = brace_next x s p
to_closing x bare_token s p = true
to_closing x bare_extern_token s p = found_any (first_from closes s p) && brace_next x s p

pub data Rule : Type 0 where
  -- "skip", and then a rule
  skip_to : Rule → Rule
  -- "If `{` follows: … Otherwise …": a script, behind its first skip; "until the end: a name"
  script_start : Rule
  node : Rule
  -- "`{`", of a body, a list or an extern block
  opening : Rule
  -- a body, behind a skip, and then a rule: "parent text up to `;`", or "`;`, skip, end"
  body : Rule → Rule
  parent : Rule
  last_semicolon : Rule
  end : Rule
  -- an export list, behind a skip: "matchers, `};`"
  matchers : Rule
  -- a matcher with such a token; an extern block, behind a skip; a token
  matcher : Token → Rule
  block : Token → Rule
  token : Token → Rule
  -- the step has read its event
  no_more : Rule

-- the rule that is due at each place of the grammar; `add_symbol` reads "with no skip before it", and nothing is due behind its matcher
pub data Due : Place → Rule → Type 0 where
  due_script : Due at_script (skip_to script_start)
  due_node : Due at_node (skip_to node)
  due_opening : Due at_body (skip_to opening)
  due_body : Due in_body (skip_to (body parent))
  due_body_block : Due in_body_extern (skip_to (block extern_token))
  due_sole : Due in_sole (skip_to (body last_semicolon))
  due_sole_block : Due in_sole_extern (skip_to (block extern_token))
  due_list : Due at_list (skip_to opening)
  due_matchers : Due in_list (skip_to matchers)
  due_list_block : Due in_list_extern (skip_to (block extern_token))
  due_symbol : Due at_symbol (matcher plain_token)
  due_symbol_block : Due in_symbol_extern (skip_to (block extern_token))
  due_bare : Due at_bare (matcher bare_token)
  due_bare_block : Due in_bare_extern (skip_to (block bare_extern_token))

-- where it is due, at such a place of the grammar and the place p of the text: a text of `add_symbol` is read from its first byte, wherever the cursor stands
abbrev pub symbol_start : Place → Bool
symbol_start place.AtSymbol = true
symbol_start place.AtBare = true
symbol_start p = false

abbrev pub due_at : Place → ℕ → ℕ
due_at place p = cond (symbol_start place) 0 p

-- "script, text … over its limit", at the places where a reading starts: of such a text nothing is read
pub data Over (s : List ℕ) : Place → Type 0 where
  script : script_limit < length s → Over s at_script
  list : script_limit < length s → Over s at_list
  symbol : token_limit < length s → Over s at_symbol
  bare : token_limit < length s → Over s at_bare

-- ---- the step from c comes to the place p, and is to read a rule there
pub data Comes (s : List ℕ) (c : Cursor) : Rule → ℕ → Type 0 where
  starts : {r : Rule} → (Over s c.place → ⊥) → Due c.place r → Comes s c r (due_at c.place c.at)
  -- "Skip: spaces, tabs, CR, LF; `#` up to LF, …; `/*` up to the first `*/` that starts at least one byte after the `/`."
  past_blank : {r : Rule} {p : ℕ} → Comes s c (skip_to r) p → blank (get_or s p 0) ≡ true → Comes s c (skip_to r) (p + 1)
  past_line : {r : Rule} {p q : ℕ} → Comes s c (skip_to r) p → Byte hash s p → first_from (is line_feed) s (p + 1) ≡ Some q
      → Comes s c (skip_to r) (q + 1)
  past_comment : {r : Rule} {p q : ℕ} → Comes s c (skip_to r) p → Byte slash s p → Byte asterisk s (p + 1)
      → comment_end (edition_at c) s p ≡ Some q → Comes s c (skip_to r) (q + 2)
  skipped : {r : Rule} {p : ℕ} → Comes s c (skip_to r) p → skips s p ≡ false → Comes s c r p
  -- "If `{` follows: … Otherwise …"
  to_nodes : {p : ℕ} → Comes s c script_start p → (Byte opening_brace s p → ⊥) → Comes s c node p
  -- "`}` ends it and skips; `global:` and `local:` set the section …; else a matcher"
  behind_body : {r : Rule} {p : ℕ} → Comes s c (body r) p → Byte closing_brace s p → Comes s c (skip_to r) (p + 1)
  of_body : {r : Rule} {p : ℕ} → Comes s c (body r) p → (Byte closing_brace s p → ⊥) → NoWord global_word s p → NoWord local_word s p
      → Comes s c (matcher plain_token) p
  -- "`;`, skip, end"
  behind_semicolon : {p : ℕ} → Comes s c last_semicolon p → Byte semicolon s p → Comes s c (skip_to end) (p + 1)
  -- "matchers, `};` with nothing between, skip, end"
  behind_list : {p : ℕ} → Comes s c matchers p → Word close_word s p → Comes s c (skip_to end) (behind close_word p)
  of_list : {p : ℕ} → Comes s c matchers p → NoWord close_word s p → Comes s c (matcher plain_token) p
  -- "`extern ` (one space), then `"C++"` or `"C"`, skip, `{`, tokens, `};`, skip"
  behind_cxx : {k : Token} {p : ℕ} → Comes s c (matcher k) p → Word extern_word s p → Word cxx_word s (behind extern_word p)
      → Comes s c (skip_to opening) (behind (extern_word ++ cxx_word) p)
  behind_c : {k : Token} {p : ℕ} → Comes s c (matcher k) p → Word extern_word s p → Word c_word s (behind extern_word p)
      → Comes s c (skip_to opening) (behind (extern_word ++ c_word) p)
  behind_block : {k : Token} {p : ℕ} → Comes s c (block k) p → Word close_word s p → Comes s c (skip_to no_more) (behind close_word p)
  -- "Otherwise a token"; the skip behind one that ends at a `;` or a `}` passes nothing
  of_matcher : {k : Token} {p : ℕ} → Comes s c (matcher k) p → NoWord extern_word s p → Comes s c (token k) p
  of_block : {k : Token} {p : ℕ} → Comes s c (block k) p → NoWord close_word s p → NoWord extern_word s p → Comes s c (token k) p
  -- "where there is none it is all the text, empty too, and the skip after it starts at the text's first byte"
  all_text : {p : ℕ} → Comes s c (token bare_token) p → NoByte closing_brace s p → Comes s c (skip_to no_more) 0
