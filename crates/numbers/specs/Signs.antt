-- The ASCII signs with which scripts, tokens and patterns are spelled, and what is printed. Assumes nothing.
use Rattle.std.specs.Prelude.{ℕ}

-- `!`
abbrev pub bang : ℕ
bang = 33

-- `"`
abbrev pub quote : ℕ
quote = 34

-- `*`
abbrev pub asterisk : ℕ
asterisk = 42

-- `-`
abbrev pub dash : ℕ
dash = 45

-- `?`
abbrev pub question : ℕ
question = 63

-- `[`
abbrev pub opening_bracket : ℕ
opening_bracket = 91

-- `\`
abbrev pub backslash : ℕ
backslash = 92

-- `]`
abbrev pub closing_bracket : ℕ
closing_bracket = 93

-- `^`
abbrev pub caret : ℕ
caret = 94

-- tab, LF, FF, CR, space
abbrev pub tab : ℕ
tab = 9

abbrev pub line_feed : ℕ
line_feed = 10

abbrev pub form_feed : ℕ
form_feed = 12

abbrev pub carriage_return : ℕ
carriage_return = 13

abbrev pub space : ℕ
space = 32

-- `#`
abbrev pub hash : ℕ
hash = 35

-- `(`
abbrev pub opening_paren : ℕ
opening_paren = 40

-- `)`
abbrev pub closing_paren : ℕ
closing_paren = 41

-- `0`, the first of the digits
abbrev pub nought : ℕ
nought = 48

-- `/`
abbrev pub slash : ℕ
slash = 47

-- `;`
abbrev pub semicolon : ℕ
semicolon = 59

-- `{`
abbrev pub opening_brace : ℕ
opening_brace = 123

-- `}`
abbrev pub closing_brace : ℕ
closing_brace = 125
