-- Version and locality by the line that decides (specs/Lookups.antt), read from its row. Assumes nothing.
use Prim.Native.Nat.{ℕ, ◌+◌, ◌*◌, ◌≤◌, ◌<◌}
use mathlib.Core.Path.{◌≡◌, sym, ◌∙◌}
use mathlib.Core.List.{List}
use mathlib.Core.Bool.{true}
use Rattle.std.specs.Prelude.{Option, Some, None}
use native.Mathlib.Omega.{arith}
use borrow.Author.Tests.{eq-eqb, ne_eqb}
use lib.ListN.{get_or}
use Rattle.numbers.specs.Limits.{node_limit}
use Rattle.numbers.specs.Marks.{global}
use Rattle.lists.specs.Each.{every}
use Rattle.packing.specs.Tables.{packs, things}
use Rattle.book.specs.declared.Frame.{Frame}
use Rattle.book.specs.Books.{Line, edition_of, no_line}
use Rattle.book.specs.Layout.{LineLies, line_form, line_width, section_in}
use Rattle.book.specs.Sanity.{in_range, line_ok}
use Rattle.book.proofs.LineRows.{Row, lines-count, lines_in-range, lines_packed, line_row, row-node, row_ranged}
use Rattle.ranking.specs.Matching.{line_matches, name_of}
use Rattle.ranking.specs.Walk.{deciding_among}
use Rattle.ranking.proofs.Deciders.{walk_decides}
use Rattle.lookups.specs.declared.index.VersionIndex.{VersionIndex}
use Rattle.lookups.specs.declared.answers.Locality.TheVariants as locality
use Rattle.lookups.specs.Lookups.{decided_locality, decided_version, node_version}

-- the section that a row's code tells
pub row-section : {frame : Frame} {n : ℕ} {l m : List ℕ} {i : ℕ} → Row frame n l m i
    → section_in (get_or l (line_width * i + 1) 0) ≡ (get_or (things line_form n l m) i no_line).section
row-section r = let g = row_ranged r in omega (arith, r.code)

-- ---- the line that decides
-- d is what the search answered, which was given the frame `given`
module _ (frame : Frame) (n p : ℕ) (l m raw demangled : List ℕ) (g : packs line_form (line_ok frame) n p l m ≡ true) (given : Frame) (u : given ≡ frame)
    (d : Option ℕ) (s : d ≡ deciding_among given (name_of raw demangled) (things line_form n l m)) where
  abbrev xs : List Line
  xs = things line_form n l m

  abbrev found : Option ℕ
  found = deciding_among frame (name_of raw demangled) (things line_form n l m)

  w : d ≡ found
  w = rw u at s

  in_order : every (in_range frame.nodes) (things line_form n l m) ≡ true
  in_order = lines_in-range frame (things line_form n l m) (lines_packed frame n p l m g).all

  pub unversioned : d ≡ None → None ≡ decided_version xs found
  unversioned q = rw (sym w ∙ q)

  pub nothing_decides : d ≡ None → None ≡ decided_locality xs found
  nothing_decides q = rw (sym w ∙ q)

  module _ (i : ℕ) (q : d ≡ Some i) where
    pub one_found : found ≡ Some i
    one_found = sym w ∙ q

    pub decider_below : i < n
    decider_below =
        omega (arith, lines-count frame n p l m g, ((walk_decides frame.nodes (line_matches (edition_of frame) (name_of raw demangled)) xs in_order i).0 one_found).there)

    pub decider_row : Row frame n l m i
    decider_row = line_row frame n p l m g i decider_below

    pub decider_lies : LineLies l m i
    decider_lies = decider_row.lies

    pub decider_node : frame.nodes ≤ node_limit → get_or l (line_width * i) 0 < node_limit
    decider_node f = omega (arith, row-node decider_row)

    pub decider_version : (v : Option VersionIndex) → v ≡ node_version (get_or l (line_width * i) 0) → v ≡ decided_version xs found
    decider_version v e = e ∙ rw (one_found, decider_row.node)

    -- its section is that of its code
    module _ (section : ℕ) (k : section ≡ section_in (get_or l (line_width * i + 1) 0)) where
      section_is : section ≡ (get_or xs i no_line).section
      section_is = k ∙ row-section decider_row

      pub decider_global : section ≡ global → Some locality.Global ≡ decided_locality xs found
      decider_global h = rw (one_found, eq-eqb _ _ (sym section_is ∙ h))

      pub decider_local : (section ≡ global → ⊥) → Some locality.Local ≡ decided_locality xs found
      decider_local h = rw (one_found, ne_eqb _ _ (λ y. h (section_is ∙ y)))
