-- Each lookup over the lines that stand answers as it does over all lines, of a book that is not of the Rust kind. Assumes nothing.
use Prim.Native.Nat.{ℕ}
use mathlib.Core.Path.{◌≡◌, refl, sym, ap, ◌∙◌}
use mathlib.Core.List.{List}
use mathlib.Core.Bool.{Bool, false, cond}
use Rattle.std.specs.Prelude.{Option, Some, None, Ok}
use lib.Dec.{eqb}
use lib.ListN.{length}
use Rattle.numbers.specs.Marks.{global}
use Rattle.book.specs.Books.{Book, Edit, Line, book_frame, edition_of, rust, with_lines}
use Rattle.book.specs.Edits.{stands}
use Rattle.ranking.specs.Matching.{Name, line_matches}
use Rattle.ranking.specs.Walk.{deciding, stages}
use Rattle.ranking.proofs.Unmatched.{line_found}
use Rattle.lookups.specs.declared.index.VersionIndex.{VersionIndex}
use Rattle.lookups.specs.declared.answers.Locality.{Locality}
use Rattle.lookups.specs.declared.answers.Locality.TheVariants as locality
use Rattle.lookups.specs.Lookups.{by_wanted, decided_locality, decided_version, locality_asked, locality_of, node_version, version_asked, version_of}
use Rattle.export_list.specs.Membership.{contains_asked, member_of}
use Rattle.trial.specs.Trial.{standing}
use Rattle.histories.proofs.StandingLines.{standing-found, standing_match}

-- the book with other lines and edits
abbrev pub book_with : Book → List Line → List Edit → Book
book_with w ls es = record { kind = w.kind; nodes = w.nodes; lines = ls; edits = es }

-- ---- what is answered of the line that is found
abbrev version_found : Option Line → Option VersionIndex
version_found (Some x) = node_version x.node
version_found None = None

version_is : (ls : List Line) (o : Option ℕ) → decided_version ls o ≡ version_found (line_found ls o)
version_is ls (Some i) = refl
version_is ls None = refl

abbrev locality_found : Option Line → Option Locality
locality_found (Some x) = Some (cond (eqb x.section global) locality.Global locality.Local)
locality_found None = None

locality_is : (ls : List Line) (o : Option ℕ) → decided_locality ls o ≡ locality_found (line_found ls o)
locality_is ls (Some i) = refl
locality_is ls None = refl

-- "32 is added to a struck line's code": it matches nothing
module _ (w : Book) (ls : List Line) (es : List Edit) (n : Name) where
  abbrev matching : Line → Bool
  matching = line_matches (edition_of (book_frame w)) n

  struck_out : (x : Line) → stands x ≡ false → matching x ≡ false
  unfolding line_matches
  struck_out x e = rw e

  found : line_found ls (deciding n (book_with w ls es)) ≡ line_found (standing ls) (deciding n (with_lines w (standing ls)))
  unfolding deciding
  found = standing-found matching struck_out (stages (length w.nodes)) ls

  version_same : (v : Option (List ℕ)) → by_wanted (book_with w ls es) n v ≡ by_wanted (with_lines w (standing ls)) n v
  version_same (Some v) = refl
  version_same None =
      ap Ok (version_is ls (deciding n (book_with w ls es)) ∙ ap version_found found ∙ sym (version_is (standing ls) (deciding n (with_lines w (standing ls)))))

  locality_same : decided_locality ls (deciding n (book_with w ls es)) ≡ decided_locality (standing ls) (deciding n (with_lines w (standing ls)))
  locality_same =
      locality_is ls (deciding n (book_with w ls es)) ∙ ap locality_found found ∙ sym (locality_is (standing ls) (deciding n (with_lines w (standing ls))))

  module _ (k : eqb w.kind rust ≡ false) where
    pub asked_version : (v : Option (List ℕ)) → version_asked (Some (book_with w ls es)) n v ≡ version_asked (Some (with_lines w (standing ls))) n v
    unfolding version_asked version_of
    asked_version v = rw (k, version_same v)

    pub asked-locality : locality_asked (Some (book_with w ls es)) n ≡ locality_asked (Some (with_lines w (standing ls))) n
    unfolding locality_asked locality_of
    asked-locality = rw (k, locality_same)

  pub asked-member : contains_asked (Some (book_with w ls es)) n ≡ contains_asked (Some (with_lines w (standing ls))) n
  unfolding contains_asked member_of
  asked-member = rw (standing_match matching struck_out ls)
