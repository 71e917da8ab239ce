-- UTF-8 as RFC 3629 has it: characters as bytes, and bytes as characters. Proved of these definitions (proofs/Rfc3629.antt):
--     the encoding of any list of character numbers is UTF-8 and reads back as that list;
--     a list of bytes that is UTF-8 is the encoding of the characters that it reads as, each a character number.
-- Assumes nothing.
use Rattle.std.specs.Prelude.{ℕ, ◌+◌, ◌*◌, ◌/◌, ◌%◌, List, [], ◌∷◌, ◌++◌, Bool, true, false, cond, ◌&&◌, ◌||◌, get_or, ltb, leb}
use Rattle.lists.specs.Each.{every}
use Rattle.lists.specs.Pieces.{Piece, piece, Reader, pieces, sound}

-- "characters from the U+0000..U+10FFFF range"; "The definition of UTF-8 prohibits encoding character numbers between U+D800 and U+DFFF"
unfoldable pub scalar : ℕ → Bool
scalar c = leb c 0x10FFFF && (ltb c 0xD800 || ltb 0xDFFF c)

unfoldable pub scalars : List ℕ → Bool
scalars cs = every scalar cs

-- "Char. number range | UTF-8 octet sequence
--  (hexadecimal)       | (binary)
--  0000 0000-0000 007F | 0xxxxxxx
--  0000 0080-0000 07FF | 110xxxxx 10xxxxxx
--  0000 0800-0000 FFFF | 1110xxxx 10xxxxxx 10xxxxxx
--  0001 0000-0010 FFFF | 11110xxx 10xxxxxx 10xxxxxx 10xxxxxx"
unfoldable pub encode : ℕ → List ℕ
encode c =
    cond (ltb c 0x80) (c ∷ [])
    (cond (ltb c 0x800) ((0xC0 + c / 0x40) ∷ (0x80 + c % 0x40) ∷ [])
    (cond (ltb c 0x10000) ((0xE0 + c / 0x1000) ∷ (0x80 + c / 0x40 % 0x40) ∷ (0x80 + c % 0x40) ∷ [])
    ((0xF0 + c / 0x40000) ∷ (0x80 + c / 0x1000 % 0x40) ∷ (0x80 + c / 0x40 % 0x40) ∷ (0x80 + c % 0x40) ∷ [])))

unfoldable pub encoding : List ℕ → List ℕ
encoding [] = []
encoding (c ∷ cs) = encode c ++ encoding cs

-- ---- and back. A character with the number of bytes behind its first; where none starts, U+FFFD, one byte, and not well formed
unfoldable pub character : ℕ → ℕ → Piece ℕ
character c m = piece c m

unfoldable pub none : Piece ℕ
none = record { what = 0xFFFD; more = 0; good = false }

unfoldable pub when : Bool → Piece ℕ → Piece ℕ
when true p = p
when false p = none

-- "UTF8-tail = %x80-BF"
unfoldable pub tail : ℕ → Bool
tail b = leb 0x80 b && ltb b 0xC0

-- "Determine which bits encode the character number from the number of octets in the sequence and the second column of the table above (the bits
-- marked x)."
abbrev pub bits_two : ℕ → ℕ → ℕ
bits_two a b = a % 0x20 * 0x40 + b % 0x40

abbrev pub bits_three : ℕ → ℕ → ℕ → ℕ
bits_three a b c = a % 0x10 * 0x1000 + b % 0x40 * 0x40 + c % 0x40

abbrev pub bits_four : ℕ → ℕ → ℕ → ℕ → ℕ
bits_four a b c d = a % 8 * 0x40000 + b % 0x40 * 0x1000 + c % 0x40 * 0x40 + d % 0x40

unfoldable pub two : ℕ → ℕ → Piece ℕ
two a b = when (tail b) (character (bits_two a b) 1)

-- three bytes hold a number from 800 on that is no surrogate
unfoldable pub three : ℕ → ℕ → ℕ → Piece ℕ
three a b c = when (tail b) (when (tail c) (when (leb 0x800 (bits_three a b c) && scalar (bits_three a b c)) (character (bits_three a b c) 2)))

-- four bytes hold one from 10000 to 10FFFF
unfoldable pub four : ℕ → ℕ → ℕ → ℕ → Piece ℕ
four a b c d =
    when (tail b) (when (tail c) (when (tail d)
    (when (leb 0x10000 (bits_four a b c d) && leb (bits_four a b c d) 0x10FFFF) (character (bits_four a b c d) 3))))

-- the character that starts at the byte a with b, c and d behind it, 0 where there is no byte.
-- "The octet values C0, C1, F5 to FF never appear"; 80 to BF start none
unfoldable pub starts : ℕ → ℕ → ℕ → ℕ → Piece ℕ
starts a b c d =
    cond (ltb a 0x80) (character a 0)
    (cond (ltb a 0xC2) none
    (cond (ltb a 0xE0) (two a b)
    (cond (ltb a 0xF0) (three a b c)
    (cond (ltb a 0xF5) (four a b c d)
    none))))

unfoldable pub read : Reader ℕ ℕ
read a s = starts a (get_or s 0 0) (get_or s 1 0) (get_or s 2 0)

-- the characters of a list of bytes
unfoldable pub chars : List ℕ → List ℕ
chars s = pieces read s

-- whether a list of bytes is UTF-8
unfoldable pub utf8 : List ℕ → Bool
utf8 s = sound read s
