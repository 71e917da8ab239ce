-- 01's 'Numbers that say no'. Assumes nothing.
use Rattle.std.specs.Prelude.{ℕ}

-- "script, text, trimmed token or name over its limit"
abbrev pub too_long : ℕ
too_long = 1

-- "no reading rule fits, or bytes remain"
abbrev pub unreadable : ℕ
unreadable = 2

-- "`#` without LF, `/*` without `*/`, or an extern token to `}` with no `}` left"
abbrev pub unclosed : ℕ
unclosed = 3

-- "extern of another language, or within extern"
abbrev pub bad_extern : ℕ
bad_extern = 4

-- "glob not UTF-8"
abbrev pub glob_not_utf8 : ℕ
glob_not_utf8 = 5

-- "bracket not closed", and 02, request 01: "6 now means an unclosed bracket only"
abbrev pub bad_pattern : ℕ
bad_pattern = 6

-- "unknown parent"
abbrev pub unknown_parent : ℕ
unknown_parent = 7

-- "a row, byte or journal limit or room would be passed"
abbrev pub no_room : ℕ
no_room = 8

-- "raw or demangled name not UTF-8"
abbrev pub name_not_utf8 : ℕ
name_not_utf8 = 9

-- "unknown wanted version"
abbrev pub unknown_version : ℕ
unknown_version = 10

-- "no such node, section, language or standing line; local or node not 0 in an export list"
abbrev pub no_such : ℕ
no_such = 11

-- "undo with no edit"
abbrev pub nothing_to_undo : ℕ
nothing_to_undo = 12

-- "export query or `add_symbol` on a version book; version, locality or count query on an export list; add or strike on Rust kind"
abbrev pub wrong_kind : ℕ
wrong_kind = 13

-- "a book not laid out as above"
abbrev pub no_book : ℕ
no_book = 14
