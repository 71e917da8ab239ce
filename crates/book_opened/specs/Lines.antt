-- Where the lines of an opened text came from, request 02: "the byte offset of its token in the opened text plus one". There is a line for each token that the
-- reading gives, in their order, and what was classed is the text from the token's place to its end. proofs/Lines.antt proves it. Assumes nothing.
use Rattle.std.specs.Prelude.{ℕ, ◌+◌, ◌<◌, ◌≤◌, ◌≡◌, List, true, length, get_or}
use Rattle.linker_script.specs.Parts.{part}
use Rattle.numbers.specs.Editions.{reld}
use Rattle.numbers.specs.declared.Edition.{Edition}
use Rattle.classes.specs.declared.Class.{Class}
use Rattle.classes.specs.Classes.{class_number}
use Rattle.storing.specs.Keeping.{keep, kept}
use Rattle.reading.specs.Events.{reading}
use Rattle.reading.specs.Lines.{Token, tokens}
use Rattle.book.specs.Books.{Book, Line, book_frame, edition_of, offset_at}
use Rattle.book.specs.Edits.{line_at}
use Rattle.book.specs.Layout.{Buffers}
use Rattle.book_opening.specs.declared.How.{How}
use Rattle.book_opening.specs.Opening.{opening, opens}
use Rattle.book_opened.specs.Opened.{opens_at}

-- the line x is that of the token k of the text s: its offset is the token's place and one more, its section and language are those that the token is read in,
-- and its class and bytes are what is kept of the text from that place to the token's end. Of its node nothing is said here
pub record OfToken (s : List ℕ) (e : Edition) (k : Token) (x : Line) : Type 0 where
  pub offset : x.offset ≡ offset_at k.place
  pub section : x.section ≡ k.section
  pub language : x.language ≡ k.language
  pub class : Class
  pub classed : keep e (part s k.place k.size) ≡ kept class x.bytes
  pub numbered : x.class ≡ class_number class

abbrev pub no_token : Token
no_token = record { section = 0; language = 0; place = 0; size = 0 }

abbrev pub token_at : List Token → ℕ → Token
token_at ks i = get_or ks i no_token

-- line i is that of token i, which starts at a byte of the text and ends in it; a later line's token starts behind the end of an earlier one's, and its offset
-- is greater, so that no two lines have one
pub record OfTokens (s : List ℕ) (e : Edition) (ks : List Token) (xs : List Line) : Type 0 where
  pub as_many : length xs ≡ length ks
  pub each : (i : ℕ) → i < length xs → OfToken s e (token_at ks i) (line_at xs i)
  pub starts : (i : ℕ) → i < length xs → (token_at ks i).place < length s
  pub ends : (i : ℕ) → i < length xs → (token_at ks i).place + (token_at ks i).size ≤ length s
  pub apart : (i j : ℕ) → i < j → j < length xs → (token_at ks i).place + (token_at ks i).size ≤ (token_at ks j).place
  pub rising : (i j : ℕ) → i < j → j < length xs → (line_at xs i).offset < (line_at xs j).offset

-- the theorem: of every opening of a version script or an export list
abbrev pub LinesOfTokens : Type 0
LinesOfTokens =
    (how : How) (b : Buffers) (s : List ℕ) (w : Book) → opens_at how ≡ true → opening how b s ≡ opens w
    → OfTokens s (edition_of (book_frame w)) (tokens (reading reld how.place s).events) w.lines
