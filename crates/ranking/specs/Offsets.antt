-- Request 02: "lookups ignore the new one". Neither what a line matches nor its rank sees its offset, and so lines that differ in their offsets alone have the
-- same deciding line. Assumes nothing.
use Rattle.std.specs.Prelude.{ℕ, ◌≡◌, List, [], ◌∷◌}
use Rattle.numbers.specs.declared.Edition.{Edition}
use Rattle.book.specs.declared.Frame.{Frame}
use Rattle.book.specs.Books.{Line, with_offset}
use Rattle.ranking.specs.Matching.{Name, line_matches}
use Rattle.ranking.specs.Ranks.{rank}
use Rattle.ranking.specs.Walk.{deciding_among}

abbrev pub RankIgnoresOffset : Type 0
RankIgnoresOffset = (n k : ℕ) (x : Line) → rank n (with_offset k x) ≡ rank n x

abbrev pub MatchesIgnoresOffset : Type 0
MatchesIgnoresOffset = (e : Edition) (n : Name) (k : ℕ) (x : Line) → line_matches e n (with_offset k x) ≡ line_matches e n x

-- the lines, each without its offset
unfoldable pub without_offsets : List Line → List Line
without_offsets [] = []
without_offsets (x ∷ xs) = with_offset 0 x ∷ without_offsets xs

abbrev pub DecidingIgnoresOffsets : Type 0
DecidingIgnoresOffsets = (f : Frame) (n : Name) (ls : List Line) → deciding_among f n (without_offsets ls) ≡ deciding_among f n ls
