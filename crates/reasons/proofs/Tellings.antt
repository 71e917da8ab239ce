-- A line that was found is told from its row (specs/Why.antt). Assumes nothing.
use Prim.Native.Nat.{ℕ, ◌+◌, ◌*◌, ◌≤◌, ◌<◌}
use mathlib.Core.Path.{◌≡◌, sym, ap, ◌∙◌}
use mathlib.Core.List.{List, []}
use mathlib.Core.Bool.{Bool, true}
use Rattle.std.specs.Prelude.{Option, Some, None}
use native.Mathlib.Omega.{arith}
use lib.ListN.{length, get_or}
use Rattle.numbers.specs.Limits.{line_limit}
use Rattle.packing.specs.Tables.{packs, things}
use Rattle.book.specs.declared.Frame.{Frame}
use Rattle.book.specs.Books.{Line, with_offset}
use Rattle.book.specs.Layout.{line_form, line_of, line_width}
use Rattle.book.specs.Sanity.{bare_star, line_ok}
use Rattle.book.proofs.LineRows.{Row, line_row, lines-count, row_line}
use Rattle.ranking.specs.Matching.{name_of}
use Rattle.ranking.specs.Walk.{deciding_among, first_line}
use Rattle.ranking.proofs.Deciders.{Looked, found, missing, looked}
use Rattle.lookups.proofs.Decided.{decider_below, decider_row, one_found}
use Rattle.reasons.specs.declared.Reason.{Reason}
use Rattle.reasons.specs.declared.Why.TheVariants as why
use Rattle.lookups.specs.Lookups.{listed_as}
use Rattle.reasons.specs.Why.{line_told, reason, rust_deciding}

-- what the row of line i tells
abbrev pub row_reason : List ℕ → ℕ → Reason
row_reason l i = reason i (with_offset (get_or l (line_width * i + 4) 0) (line_of (get_or l (line_width * i) 0) (get_or l (line_width * i + 1) 0) []))

-- the line that was found, by its row
told_line : {frame : Frame} {n : ℕ} {l m : List ℕ} {i : ℕ} → Row frame n l m i → (o : Option ℕ) → o ≡ Some i → (r : Reason) → r ≡ row_reason l i
    → why.Line r ≡ line_told (things line_form n l m) o
told_line {frame} {n} {l} {m} {i} w o f r e = rw (f, e, ap (reason i) (row_line w))

-- what `line_reason` asks of it
asks-row : {frame : Frame} {n : ℕ} {l m : List ℕ} {i : ℕ} → Row frame n l m i → i < n → n ≤ line_limit
    → (line_width * i + line_width ≤ length l) × (i < line_limit)
asks-row w h k = (w.lies.within, omega arith)

-- ---- by 01's ranking
module _ (frame : Frame) (n p : ℕ) (l m raw demangled : List ℕ) (g : packs line_form (line_ok frame) n p l m ≡ true) (given : Frame) (u : given ≡ frame)
    (d : Option ℕ) (s : d ≡ deciding_among given (name_of raw demangled) (things line_form n l m)) where
  pub ranked_none : d ≡ None
      → why.NoLine ≡ line_told (things line_form n l m) (deciding_among frame (name_of raw demangled) (things line_form n l m))
  ranked_none q = let w : d ≡ deciding_among frame (name_of raw demangled) (things line_form n l m) = rw u at s in rw (sym w ∙ q)

  module _ (i : ℕ) (q : d ≡ Some i) where
    row : Row frame n l m i
    row = decider_row frame n p l m raw demangled g given u d s i q

    pub ranked-line : (r : Reason) → r ≡ row_reason l i
        → why.Line r ≡ line_told (things line_form n l m) (deciding_among frame (name_of raw demangled) (things line_form n l m))
    ranked-line r e = told_line row _ (one_found frame n p l m raw demangled g given u d s i q) r e

    pub ranked-asks : n ≤ line_limit → (line_width * i + line_width ≤ length l) × (i < line_limit)
    ranked-asks k = asks-row row (decider_below frame n p l m raw demangled g given u d s i q) k

-- ---- of the Rust kind: the first line that passes a test t, which a search answered
module _ (t : Line → Bool) (frame : Frame) (n p : ℕ) (l m : List ℕ) (g : packs line_form (line_ok frame) n p l m ≡ true) where
  below : (o : Option ℕ) → Looked t (things line_form n l m) 0 o → (i : ℕ) → o ≡ Some i → i < n
  below o (found j f) i e = let q : 0 + j ≡ i = cc in omega (arith, f.there, lines-count frame n p l m g)
  below o (missing f) i e = let z : ◌≡◌ {A = ℕ} 0 1 = cc in absurd (omega arith)

  module _ (d : Option ℕ) (s : d ≡ first_line t 0 (things line_form n l m)) (i : ℕ) (q : d ≡ Some i) where
    first_found : first_line t 0 (things line_form n l m) ≡ Some i
    first_found = sym s ∙ q

    first_below : i < n
    first_below = below _ (looked t 0 (things line_form n l m)) i first_found

    pub first_asks : n ≤ line_limit → (line_width * i + line_width ≤ length l) × (i < line_limit)
    first_asks k = asks-row (line_row frame n p l m g i first_below) first_below k

    first_row : Row frame n l m i
    first_row = line_row frame n p l m g i first_below

-- the two tests
module _ (frame : Frame) (n p : ℕ) (l m t : List ℕ) (g : packs line_form (line_ok frame) n p l m ≡ true)
    (d : Option ℕ) (s : d ≡ first_line (listed_as t) 0 (things line_form n l m)) where
  pub rust-listed : (i : ℕ) → d ≡ Some i → (r : Reason) → r ≡ row_reason l i
      → why.Line r ≡ line_told (things line_form n l m) (rust_deciding t (things line_form n l m))
  unfolding rust_deciding
  rust-listed i q r e =
      told_line (first_row (listed_as t) frame n p l m g d s i q) (rust_deciding t (things line_form n l m))
      (rw (first_found (listed_as t) frame n p l m g d s i q)) r e

  module _ (q : d ≡ None) (f : Option ℕ) (u : f ≡ first_line bare_star 0 (things line_form n l m)) where
    unlisted : rust_deciding t (things line_form n l m) ≡ first_line bare_star 0 (things line_form n l m)
    unfolding rust_deciding
    unlisted = rw (sym s ∙ q)

    pub rust-star : (i : ℕ) → f ≡ Some i → (r : Reason) → r ≡ row_reason l i
        → why.Line r ≡ line_told (things line_form n l m) (rust_deciding t (things line_form n l m))
    rust-star i y r e =
        told_line (first_row bare_star frame n p l m g f u i y) _ (unlisted ∙ first_found bare_star frame n p l m g f u i y) r e

    pub rust_none : f ≡ None → why.NoLine ≡ line_told (things line_form n l m) (rust_deciding t (things line_form n l m))
    rust_none y = rw (unlisted, sym u ∙ y)
