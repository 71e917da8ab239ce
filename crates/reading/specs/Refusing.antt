-- When a step of a reading refuses, and with which number: the first four of 01's 'Numbers that say no', each with 01's words above the ways in which it
-- arises. Each way tells the rule that is read at the place p (specs/Rules.antt), and what of it the text lacks there. proofs/Exactly.antt proves that `next`
-- refuses so and only so: at every cursor, also one that no reading gives; and a whole reading at the cursor that it has come to.
-- Assumes nothing.
use Rattle.std.specs.Prelude.{ℕ, ◌+◌, ◌≡◌, List, true, false, length}
use Rattle.linker_script.specs.Parts.{behind}
use Rattle.linker_script.specs.Skip.{closes_after}
use Rattle.numbers.specs.declared.Refusal.{Refusal}
use Rattle.numbers.specs.declared.Refusal.TheVariants as no
use Rattle.numbers.specs.Saying.{number}
use Rattle.numbers.specs.Signs.{asterisk, closing_brace, hash, line_feed, opening_brace, semicolon, slash}
use Rattle.reading_cursors.specs.declared.Cursor.{Cursor}
use Rattle.reading_cursors.specs.declared.Event.{Event}
use Rattle.numbers.specs.declared.Edition.{Edition}
use Rattle.reading_cursors.specs.declared.places.Place.{Place}
use Rattle.reading_cursors.specs.Moves.{stepped, edition_at, start}
use Rattle.reading_matchers.specs.Matchers.{extern_word, cxx_word, c_word}
use Rattle.reading.specs.Scripts.{next}
use Rattle.reading.specs.Rules.{Byte, NoByte, NoPair, Word, NoWord, NameByte, Token, extern_token, to_closing, Rule}
use Rattle.reading.specs.Rules.{skip_to, node, opening, parent, last_semicolon, end, matcher, block, token, Over, Comes}

-- ---- 2: "no reading rule fits, or bytes remain"
pub data Unreadable (s : List ℕ) (c : Cursor) (p : ℕ) : Type 0 where
  -- "until the end: a name (one or more bytes …)"
  no_name : Comes s c node p → (p ≡ length s → ⊥) → (NameByte s p → ⊥) → Unreadable s c p
  -- "`{`", of a body, an export list or an extern block
  no_opening : Comes s c opening p → (Byte opening_brace s p → ⊥) → Unreadable s c p
  -- "parent text up to `;`"
  no_parent_end : Comes s c parent p → NoByte semicolon s p → Unreadable s c p
  -- "one body, `;`"
  no_semicolon : Comes s c last_semicolon p → (Byte semicolon s p → ⊥) → Unreadable s c p
  -- "end", of a script with one body and of an export list
  bytes_remain : Comes s c end p → (p ≡ length s → ⊥) → Unreadable s c p
  -- "a token: the bytes up to the first `;`, at least one"; "to the first `}` (at least one byte)"
  no_token_end : {k : Token} → Comes s c (token k) p → to_closing (edition_at c) k s p ≡ false → NoByte semicolon s p → Unreadable s c p
  empty_to_semicolon : {k : Token} → Comes s c (token k) p → to_closing (edition_at c) k s p ≡ false → Byte semicolon s p → Unreadable s c p
  empty_to_closing : {k : Token} → Comes s c (token k) p → to_closing (edition_at c) k s p ≡ true → Byte closing_brace s p → Unreadable s c p

-- ---- 3: "`#` without LF, `/*` without `*/`, or an extern token to `}` with no `}` left"
pub data Unclosed (s : List ℕ) (c : Cursor) (p : ℕ) : Type 0 where
  line : {r : Rule} → Comes s c (skip_to r) p → Byte hash s p → NoByte line_feed s p → Unclosed s c p
  comment : {r : Rule} → Comes s c (skip_to r) p → Byte slash s p → Byte asterisk s (p + 1)
      → NoPair asterisk slash s (p + closes_after (edition_at c)) → Unclosed s c p
  -- (in a block of an `add_symbol` text without semicolon no token goes to a `}` that isn't there)
  no_brace_left : Comes s c (token extern_token) p → NoByte closing_brace s p → Unclosed s c p

-- ---- 4: "extern of another language, or within extern"
pub data BadExtern (s : List ℕ) (c : Cursor) (p : ℕ) : Type 0 where
  language : {k : Token} → Comes s c (matcher k) p → Word extern_word s p → NoWord cxx_word s (behind extern_word p) → NoWord c_word s (behind extern_word p)
      → BadExtern s c p
  within_extern : {k : Token} → Comes s c (block k) p → Word extern_word s p → BadExtern s c p

-- ---- the table: the refusal, and the place
pub data Refusing (s : List ℕ) (c : Cursor) : Refusal → ℕ → Type 0 where
  -- "script, text … over its limit"
  one : Over s c.place → Refusing s c no.TooLong 0
  two : {p : ℕ} → Unreadable s c p → Refusing s c no.Unreadable p
  three : {p : ℕ} → Unclosed s c p → Refusing s c no.Unclosed p
  four : {p : ℕ} → BadExtern s c p → Refusing s c no.BadExtern p

-- ---- a whole reading of s, in an edition, from a place of the grammar on: the cursors that it comes to, and the one at which it is refused
pub data Reaches (edition : Edition) (place : Place) (s : List ℕ) : Cursor → Type 0 where
  first : Reaches edition place s (start edition place)
  after : {c d : Cursor} {e : Event} → Reaches edition place s c → next s c ≡ stepped e d → Reaches edition place s d

pub record RefusedReading (edition : Edition) (place : Place) (s : List ℕ) (n p : ℕ) : Type 0 where
  pub cursor : Cursor
  pub reached : Reaches edition place s cursor
  pub refusal : Refusal
  pub numbered : number refusal ≡ n
  pub refusing : Refusing s cursor refusal p
