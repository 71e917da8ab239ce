-- 01, 'Reading': "Skip: spaces, tabs, CR, LF; `#` up to LF, which must come; `/*` up to the first `*/` that starts at least one byte after the `/`. So
-- `/*/` is a whole comment."
-- Assumes nothing.
use Rattle.std.specs.Prelude.{ℕ, zero, suc, ◌+◌, ◌-◌, List, [], ◌∷◌, Bool, cond, ◌||◌, eqb, get_or, drop, Option, Some, None, Result, Ok, Err}
use Rattle.numbers.specs.declared.Edition.{Edition}
use Rattle.numbers.specs.Signs.{asterisk, carriage_return, hash, line_feed, slash, space, tab}
use Rattle.linker_script.specs.Finding.{first_in, is, are}

-- "spaces, tabs, CR, LF"
unfoldable pub blank : ℕ → Bool
blank b = eqb b space || (eqb b tab || (eqb b carriage_return || eqb b line_feed))

-- whether a skip takes the byte at the place p of s: `move`, below, does not stop there
abbrev pub skips : List ℕ → ℕ → Bool
skips s p = blank (get_or s p 0) || (eqb (get_or s p 0) hash || are slash asterisk (get_or s p 0) (get_or s (p + 1) 0))

-- what a skip does at a byte: it stops there, passes k bytes more than that one, or finds a comment that nothing closes
pub data Move : Type 0 where
  stop : Move
  pass : ℕ → Move
  open_comment : Move

-- up to a place q that was found, and `more` bytes behind it, from the place p of a comment's first byte
abbrev pub past : ℕ → ℕ → Option ℕ → Move
past p more (Some q) = pass (q + more - p)
past p more None = open_comment

-- how many bytes after its `/` the `*/` of a comment can start: "at least one"
abbrev pub closes_after : Edition → ℕ
closes_after e = 1

-- "the first `*/` that starts at least one byte after the `/`": of the text l, which begins with that `/` at the place p; and in s, where it stands at p
abbrev pub comment_in : Edition → ℕ → List ℕ → Option ℕ
comment_in e p l = first_in (are asterisk slash) (p + closes_after e) (drop (closes_after e) l)

abbrev pub comment_end : Edition → List ℕ → ℕ → Option ℕ
comment_end e s p = comment_in e p (drop p s)

-- at the byte b, which stands at the place p with the text l behind it
unfoldable pub move : Edition → ℕ → ℕ → List ℕ → Move
move e p b l =
    cond (blank b) (pass 0)
    (cond (eqb b hash) (past p 0 (first_in (is line_feed) (p + 1) l))
    (cond (are slash asterisk b (get_or l 0 0)) (past p 1 (comment_in e p (b ∷ l)))
    stop))

-- where a skip ends, or the place of the comment that nothing closes
abbrev pub Skipped : Type 0
Skipped = Result ℕ ℕ

abbrev pub go : Move → ℕ → (ℕ → Skipped) → Skipped
go stop p on = Ok p
go (pass k) p on = on k
go open_comment p on = Err p

-- behind the first k bytes of the text l, which begins at the place p
unfoldable pub skip_past : Edition → ℕ → ℕ → List ℕ → Skipped
skip_past e k p [] = Ok p
skip_past e (suc k) p (b ∷ l) = skip_past e k (p + 1) l
skip_past e zero p (b ∷ l) = go (move e p b l) p (λ k. skip_past e k (p + 1) l)

-- where a skip that starts at the place p of s ends, or the place of the comment that nothing closes
unfoldable pub skip : Edition → List ℕ → ℕ → Skipped
skip e s p = skip_past e 0 p (drop p s)
