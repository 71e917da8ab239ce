-- What a host is told: a refusal's number, or 256 times a value. Assumes nothing.
use Rattle.std.specs.Prelude.{Result, Ok, Err, ℕ, ◌+◌, ◌*◌, ◌≡◌, List, Bool, true, false, cond, ◌||◌, length}
use Rattle.numbers.specs.Limits.{name_limit, over, token_limit}
use Rattle.numbers.specs.Refusals.{name_not_utf8, too_long}
use Rattle.utf8.specs.Utf8.{chars, utf8}
use Rattle.numbers.specs.declared.Edition.{Edition}
use Rattle.numbers.specs.declared.Refusal.{Refusal}
use Rattle.numbers.specs.Saying.{number}
use Rattle.pattern.specs.Patterns.{elements, matches, refusal}
use Rattle.classes.specs.declared.Class.TheVariants as class
use Rattle.storing.specs.declared.Stored.{Stored}
use Rattle.classes.specs.Classes.{class_number, class_of}
use Rattle.storing.specs.Keeping.{Keep, unescape, kept}
use Rattle.storing.specs.Answers.{keep_answer, keep_buffer}

abbrev pub done : ℕ → ℕ
done v = 256 * v

-- the class of a token
unfoldable pub class_told : List ℕ → ℕ
class_told t = cond (over token_limit t) too_long (done (class_number (class_of t)))

-- how many bytes are written
unfoldable pub length_told : Result Stored Refusal → ℕ
length_told (Ok s) = done s.size
length_told (Err n) = number n

-- a pattern of any class without its escapes: how many bytes are written, and what is left in the buffer
unfoldable pub unescape_told : List ℕ → ℕ → ℕ
unescape_told t room = cond (over token_limit t) too_long (length_told (keep_answer (kept class.Escaped (unescape t)) room))

unfoldable pub unescape_leaves : List ℕ → List ℕ → List ℕ
unescape_leaves t d = cond (over token_limit t) d (keep_buffer (kept class.Escaped (unescape t)) d)

abbrev pub Unescapes : List ℕ → List ℕ → ℕ → List ℕ → Type 0
Unescapes t d r d' = (r ≡ unescape_told t (length d)) × (d' ≡ unescape_leaves t d)

-- a token as it is stored: the class, and eight times how many bytes are written
unfoldable pub store_told : Result Stored Refusal → ℕ
store_told (Ok s) = done (class_number s.class + 8 * s.size)
store_told (Err n) = number n

abbrev pub TellsStored : Keep → List ℕ → ℕ → List ℕ → Type 0
TellsStored x d r d' = (r ≡ store_told (keep_answer x (length d))) × (d' ≡ keep_buffer x d)

-- yes or no
abbrev pub answer_told : Bool → ℕ
answer_told true = done 1
answer_told false = done 0

-- a pattern or a name over its limit
abbrev pub long_either : List ℕ → List ℕ → Bool
long_either p n = over token_limit p || over name_limit n

-- the matcher alone, on bytes as they stand: the pattern's and the name's refusals are not asked
unfoldable pub unasked_told : Edition → List ℕ → List ℕ → ℕ
unasked_told e p n = cond (long_either p n) too_long (answer_told (matches (elements e p) (chars n)))

-- "Refusals, in order: 1 …, 5, 6, 9" (02, request 08, of the other matcher): the pattern's, then the name's
unfoldable pub match_when : Result (Unit {0}) Refusal → Bool → Bool → ℕ
match_when (Ok _) good matched = cond good (answer_told matched) name_not_utf8
match_when (Err n) good matched = number n

-- of stored bytes p, not a token, and a name n
unfoldable pub match_told : Edition → List ℕ → List ℕ → ℕ
match_told e p n = cond (long_either p n) too_long (match_when (refusal e p) (utf8 n) (matches (elements e p) (chars n)))
