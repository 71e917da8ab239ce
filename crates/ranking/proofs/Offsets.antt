-- Neither rank nor match sees a line's offset, and so the deciding line does not (specs/Offsets.antt). Assumes nothing.
use Prim.Native.Nat.{ℕ, zero, suc, ◌+◌}
use mathlib.Core.Path.{◌≡◌, refl, ap₂}
use mathlib.Core.List.{List, [], ◌∷◌, ◌++◌}
use mathlib.Core.Bool.{Bool, ◌&&◌}
use Rattle.numbers.specs.Classes.{all_class, nonstar_class, star_class}
use Rattle.book.specs.Books.{Line, edition_of, with_offset}
use Rattle.ranking.specs.Matching.{line_matches, seen}
use Rattle.ranking.specs.Offsets.{DecidingIgnoresOffsets, MatchesIgnoresOffset, RankIgnoresOffset, without_offsets}
use Rattle.ranking.specs.Ranks.{rank}
use Rattle.ranking.specs.Walk.{Stage, exact_of, exact_stages, first_line, glob_of, glob_stages, or_else, stages, walk}

pub rank_ignores_offset : RankIgnoresOffset
unfolding rank
rank_ignores_offset n k x = refl

pub matches_ignores_offset : MatchesIgnoresOffset
unfolding line_matches seen
matches_ignores_offset e n k x = refl

-- ---- a test of lines that does not see it, and stages of the walk that do not
abbrev Blind : (Line → Bool) → Type 0
Blind t = (k : ℕ) (x : Line) → t (with_offset k x) ≡ t x

data Blinds : List Stage → Type 0 where
  none : Blinds []
  more : {t : Stage} {ts : List Stage} → Blind t → Blinds ts → Blinds (t ∷ ts)

blinds_append : {ts us : List Stage} → Blinds ts → Blinds us → Blinds (ts ++ us)
blinds_append none v = v
blinds_append (more t u) v = more t (blinds_append u v)

exact_blind : (node language section : ℕ) → Blind (exact_of node language section)
unfolding exact_of
exact_blind node language section k x = refl

glob_blind : (class node section : ℕ) → Blind (glob_of class node section)
unfolding glob_of
glob_blind class node section k x = refl

exact_blinds : (n i : ℕ) → Blinds (exact_stages n i)
unfolding exact_stages
exact_blinds zero i = none
exact_blinds (suc n) i =
    more (exact_blind i 0 0) (more (exact_blind i 0 1) (more (exact_blind i 1 0) (more (exact_blind i 1 1) (exact_blinds n (i + 1)))))

glob_blinds : (class n : ℕ) → Blinds (glob_stages class n)
unfolding glob_stages
glob_blinds class zero = none
glob_blinds class (suc n) = more (glob_blind class n 0) (more (glob_blind class n 1) (glob_blinds class n))

all_blind : (n : ℕ) → Blinds (stages n)
unfolding stages
all_blind n =
    blinds_append (exact_blinds n 0)
    (blinds_append (glob_blinds nonstar_class n) (blinds_append (glob_blinds star_class n) (glob_blinds all_class n)))

-- ---- the walk
first_without : (t : Line → Bool) → Blind t → (i : ℕ) (ls : List Line) → first_line t i (without_offsets ls) ≡ first_line t i ls
unfolding first_line without_offsets
first_without t b i [] = refl
first_without t b i (x ∷ ls) = rw (b 0 x, first_without t b (i + 1) ls)

walk-without_offsets : (m : Line → Bool) → Blind m → (ts : List Stage) → Blinds ts → (ls : List Line) → walk m ts (without_offsets ls) ≡ walk m ts ls
unfolding walk
walk-without_offsets m b [] none ls = refl
walk-without_offsets m b (t ∷ ts) (more u v) ls =
    ap₂ or_else (first_without (λ x. t x && m x) (λ k x. ap₂ ◌&&◌ (u k x) (b k x)) 0 ls) (walk-without_offsets m b ts v ls)

pub deciding_ignores_offsets : DecidingIgnoresOffsets
deciding_ignores_offsets f n ls = walk-without_offsets (line_matches (edition_of f) n) (matches_ignores_offset (edition_of f) n) (stages f.nodes) (all_blind f.nodes) ls
