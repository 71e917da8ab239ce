-- The search for the line that decides, in one pass over the rows of a book: the line that leads among those passed, and what it is at the end.
-- Assumes nothing.
use Prim.Native.Nat.{ℕ, ◌+◌, ◌*◌, ◌≤◌, ◌<◌}
use mathlib.Core.Path.{◌≡◌, refl, sym, ap, ap₂, ◌∙◌}
use mathlib.Core.List.{List, []}
use mathlib.Core.Bool.{Bool, true, false, false≢true}
use Rattle.std.specs.Prelude.{Option, Some, None}
use native.Mathlib.Omega.{arith}
use borrow.Author.Count.{below_more}
use lib.ListN.{length, get_or}
use Rattle.lists.proofs.Tests.{fails}
use Rattle.lists.specs.Each.{every}
use Rattle.packing.specs.Tables.{packs, things}
use Rattle.numbers.specs.Limits.{token_limit}
use Rattle.numbers.specs.declared.Edition.{Edition}
use Rattle.book.specs.declared.Frame.{Frame}
use Rattle.book.specs.Books.{Line, edition_of, no_line}
use Rattle.book.specs.Edits.{line_at}
use Rattle.book.specs.Layout.{LineLies, bytes_of_line, line_form, line_of, line_width}
use Rattle.book.specs.Sanity.{in_range, line_ok}
use Rattle.book.proofs.Forms.{ranged}
use Rattle.book.proofs.LineRows.{Row, Walk, row_line, row-short, walk-count, walk_on, walk_ranged, walk-row, walk-starts}
use Rattle.packing.proofs.TableLaws.{every_at}
use Rattle.ranking.specs.Matching.{line_matches, name_of, seen}
use Rattle.ranking.specs.Walk.{deciding_among, stages, walk}
use Rattle.ranking.specs.Ranks.{rank, Decides}
use Rattle.ranking.proofs.Stages.{rank_below}
use Rattle.ranking.proofs.Deciders.{walk_decides, walk-nothing}
use Rattle.ranking.proofs.Offsets.{matches_ignores_offset, rank_ignores_offset}

-- ---- among lines, of which i are passed
-- no line is held yet; or a line that matches is held, and each that matches before it is of a higher rank
pub data Held (n : ℕ) (m : Line → Bool) (ls : List Line) (i best : ℕ) : Option ℕ → Type 0 where
  nothing_yet : best ≡ 10 * n → Held n m ls i best None
  one : {k : ℕ} → k < i → m (line_at ls k) ≡ true → best ≡ rank n (line_at ls k)
      → ((j : ℕ) → j < k → m (line_at ls j) ≡ true → best < rank n (line_at ls j)) → Held n m ls i best (Some k)

-- and no line that is passed and matches is of a lower rank than the best
pub record Leading (n : ℕ) (m : Line → Bool) (ls : List Line) (i best : ℕ) (line : Option ℕ) : Type 0 where
  pub least : (j : ℕ) → j < i → m (line_at ls j) ≡ true → best ≤ rank n (line_at ls j)
  pub who : Held n m ls i best line

module _ {n : ℕ} {m : Line → Bool} {ls : List Line} where
  pub leading_starts : Leading n m ls 0 (10 * n) None
  leading_starts = record { least = λ j h y. absurd (omega arith); who = nothing_yet refl }

  module _ {i best : ℕ} {line : Option ℕ} (z : Leading n m ls i best line) where
    still_held : {o : Option ℕ} → Held n m ls i best o → Held n m ls (i + 1) best o
    still_held (nothing_yet e) = nothing_yet e
    still_held (one h y e f) = one (omega arith) y e f

    abbrev NoLower : ℕ → ℕ → Type 0
    NoLower b j = m (line_at ls j) ≡ true → b ≤ rank n (line_at ls j)

    -- line i is behind the best
    pub leading_behind : best ≤ rank n (line_at ls i) → Leading n m ls (i + 1) best line
    leading_behind h = record { least = below_more (NoLower best) i z.least (λ y. h); who = still_held z.who }

    -- it does not match
    pub leading_other : m (line_at ls i) ≡ false → Leading n m ls (i + 1) best line
    leading_other e = record { least = below_more (NoLower best) i z.least (λ y. absurd (false≢true (sym e ∙ y))); who = still_held z.who }

    -- it matches, and is ahead of the best
    pub leading_better : {r : ℕ} → r ≡ rank n (line_at ls i) → r < best → m (line_at ls i) ≡ true → Leading n m ls (i + 1) r (Some i)
    leading_better {r} e h y = record {
      least = below_more (NoLower r) i (λ j k w. omega (arith, z.least j k w)) (λ w. omega arith);
      who = one (omega arith) y e (λ j k w. omega (arith, z.least j k w));
    }

  -- all lines are passed
  module _ {best : ℕ} {line : Option ℕ} (z : Leading n m ls (length ls) best line) (g : every (in_range n) ls ≡ true) where
    below : (j : ℕ) → j < length ls → rank n (line_at ls j) < 10 * n
    below j h = rank_below n (line_at ls j) (ranged n (line_at ls j) (every_at (in_range n) ls j no_line g h))

    led : {o : Option ℕ} → Held n m ls (length ls) best o → o ≡ walk m (stages n) ls
    led (nothing_yet e) = sym ((walk-nothing n m ls g).1 (λ j h. fails (λ y. omega (arith, z.least j h y, below j h))))
    led (one {k} h y e f) =
        let d : Decides n m ls k = record {
          there = h;
          matching = y;
          first = λ j k w. omega (arith, z.least j k w);
          lowest = λ j k w. omega (arith, f j k w);
        } in
        sym ((walk_decides n m ls g k).1 d)

    pub leading_ends : line ≡ walk m (stages n) ls
    leading_ends = led z.who

-- ---- in the rows of a book
-- i lines are passed
pub record Seeking (frame : Frame) (n p : ℕ) (l m raw demangled : List ℕ) (best : ℕ) (line : Option ℕ) (i : ℕ) : Type 0 where
  pub walk : Walk frame n p l m i
  pub leads : Leading frame.nodes (line_matches (edition_of frame) (name_of raw demangled)) (things line_form n l m) i best line

-- neither rank nor match asks what a line's row tells elsewhere
same_rank : (nodes node code : ℕ) (bs : List ℕ) → rank nodes (line_of node code []) ≡ rank nodes (line_of node code bs)
unfolding rank
same_rank nodes node code bs = refl

same_match : (e : Edition) (raw demangled : List ℕ) (node code : ℕ) (bs : List ℕ)
    → line_matches e (name_of raw demangled) (line_of 0 code bs) ≡ line_matches e (name_of raw demangled) (line_of node code bs)
unfolding line_matches seen
same_match e raw demangled node code bs = refl

module _ {frame : Frame} {n p : ℕ} {l m raw demangled : List ℕ} where
  pub seek_starts : packs line_form (line_ok frame) n p l m ≡ true → Seeking frame n p l m raw demangled (10 * frame.nodes) None 0
  seek_starts g = record { walk = walk-starts g; leads = leading_starts }

  module _ {best : ℕ} {line : Option ℕ} {i : ℕ} (z : Seeking frame n p l m raw demangled best line i) where
    -- the row of line i, which is not passed yet
    module _ (h : i < n) where
      pub seek_row : Row frame n l m i
      seek_row = walk-row z.walk h

      pub seek_lies : LineLies l m i
      seek_lies = seek_row.lies

      pub seek_short : {bs : List ℕ} → bs ≡ bytes_of_line l m i → length bs ≤ token_limit
      seek_short b = rw b (row-short seek_row)

      module _ {r : ℕ} (q : r ≡ rank frame.nodes (line_of (get_or l (line_width * i) 0) (get_or l (line_width * i + 1) 0) [])) where
        seen-rank : r ≡ rank frame.nodes (line_at (things line_form n l m) i)
        seen-rank =
            q ∙ same_rank frame.nodes _ _ (bytes_of_line l m i) ∙ sym (rank_ignores_offset frame.nodes _ _) ∙ ap (rank frame.nodes) (row_line seek_row)

        -- the line's rank is no better: it is not matched
        pub seek_behind : best ≤ r → Seeking frame n p l m raw demangled best line (i + 1)
        seek_behind k = record { walk = walk_on z.walk h; leads = leading_behind z.leads (omega (arith, seen-rank)) }

        module _ {e : Edition} (d : e ≡ edition_of frame) {bs : List ℕ} (b : bs ≡ bytes_of_line l m i) {v : Bool}
            (y : v ≡ line_matches e (name_of raw demangled) (line_of 0 (get_or l (line_width * i + 1) 0) bs)) where
          seen_match : v ≡ line_matches (edition_of frame) (name_of raw demangled) (line_at (things line_form n l m) i)
          seen_match =
              y ∙ ap₂ (λ (u : Edition) (t : List ℕ). line_matches u (name_of raw demangled) (line_of 0 (get_or l (line_width * i + 1) 0) t)) d b
              ∙ same_match (edition_of frame) raw demangled (get_or l (line_width * i) 0) _ _ ∙ sym (matches_ignores_offset (edition_of frame) (name_of raw demangled) _ _)
              ∙ ap (line_matches (edition_of frame) (name_of raw demangled)) (row_line seek_row)

          -- it is better, and matches
          pub seek_better : r < best → v ≡ true → Seeking frame n p l m raw demangled r (Some i) (i + 1)
          seek_better k t = record { walk = walk_on z.walk h; leads = leading_better z.leads seen-rank k (sym seen_match ∙ t) }

          -- it does not match
          pub seek_other : v ≡ false → Seeking frame n p l m raw demangled best line (i + 1)
          seek_other t = record { walk = walk_on z.walk h; leads = leading_other z.leads (sym seen_match ∙ t) }

    -- all rows are passed
    module _ (h : n ≤ i) where
      all_passed : Leading frame.nodes (line_matches (edition_of frame) (name_of raw demangled)) (things line_form n l m) (length (things line_form n l m)) best line
      all_passed =
          let e : i ≡ length (things line_form n l m) = omega (arith, z.walk.within, walk-count z.walk) in
          rw e at z.leads

      pub seek_ends : line ≡ deciding_among frame (name_of raw demangled) (things line_form n l m)
      seek_ends = leading_ends all_passed (walk_ranged z.walk)
