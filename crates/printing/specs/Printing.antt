-- What the programs print of numbers and refusals. Assumes nothing.
use Rattle.std.specs.Prelude.{ℕ, zero, suc, ◌+◌, ◌/◌, ◌%◌, ◌≡◌, List, [], ◌∷◌, ◌++◌, cond, ltb, length, take, drop}
use Rattle.numbers.specs.Signs.{line_feed, nought, space}
use Rattle.lists.specs.Front.{front}
use Rattle.lists.specs.Texts.{codes}

-- ---- a text is put into a buffer d: it stands at the front of what begins at the place `at`, everywhere else is what was there, and so the buffer is l; r is
-- the place behind the text
abbrev pub Puts : List ℕ → ℕ → List ℕ → List ℕ → ℕ → Type 0
Puts d at text l r = (r ≡ at + length text) × (l ≡ take at d ++ front text (drop at d))

-- the same at 0, where the place behind the text is its length
abbrev pub Begins : List ℕ → List ℕ → List ℕ → ℕ → Type 0
Begins d text l r = (r ≡ length text) × (l ≡ front text d)

-- ---- a number in decimal digits, k of them at most
unfoldable pub spelled : ℕ → ℕ → List ℕ
spelled zero n = []
spelled (suc k) n = cond (ltb n 10) ((nought + n) ∷ []) (spelled k (n / 10) ++ (nought + n % 10) ∷ [])

-- a number below 2^32 has ten at most
unfoldable pub decimal : ℕ → List ℕ
decimal n = spelled 10 n

-- ---- a word, a blank and a number; the same as a line
unfoldable pub spaced : List ℕ → ℕ → List ℕ
spaced word n = word ++ space ∷ decimal n

unfoldable pub numbered : List ℕ → ℕ → List ℕ
numbered word n = spaced word n ++ line_feed ∷ []

-- ---- "or `refused` and the number for the script"
unfoldable pub refused_line : ℕ → List ℕ
refused_line n = numbered (codes "refused") n

-- ---- "a refusal prints `!` and its number for these two fields"; the same as a line
unfoldable pub refused_fields : ℕ → List ℕ
refused_fields n = spaced (codes "!") n

unfoldable pub refused_answer : ℕ → List ℕ
refused_answer n = numbered (codes "!") n

-- room for whichever of these lines
abbrev pub answer_room : ℕ
answer_room = 128
