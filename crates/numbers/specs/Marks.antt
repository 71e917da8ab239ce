-- 01, 'The book': "Section 1 is local, language 1 C++." Assumes nothing.
use Rattle.std.specs.Prelude.{ℕ, Bool, leb}

abbrev pub global : ℕ
global = 0

abbrev pub local : ℕ
local = 1

abbrev pub is_section : ℕ → Bool
is_section k = leb k local

abbrev pub general : ℕ
general = 0

abbrev pub cxx : ℕ
cxx = 1

abbrev pub is_language : ℕ → Bool
is_language k = leb k cxx
