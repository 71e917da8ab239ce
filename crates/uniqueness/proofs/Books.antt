-- What checks a book, opens a text into one and asks it leaves one answer and one end state: book, book_check, book_building, book_opening, version_script,
-- ranking, lookups, counting, export_list, reasons. Assumes nothing.
use Prim.Native.Nat.{ℕ}
use mathlib.Core.Path.{◌≡◌, refl, sym, ap, ◌∙◌}
use mathlib.Core.List.{List}
use mathlib.Core.Bool.{true, false, false≢true, Bool-set}
use mathlib.Core.HLevel.{is_prop→PathP}
use Rattle.std.specs.Prelude.{Result, Ok, Err, IfOk, IfErr}
use Rattle.numbers.specs.declared.Refusal.{Refusal}
use Rattle.numbers.specs.declared.Refusal.TheVariants.{NoBook}
use Rattle.book.specs.declared.lent.Lent.{Lent}
use Rattle.book.specs.Lending.{holds_book}
use Rattle.book_check.specs.declared.Held.{Held}
use Rattle.uniqueness.specs.Unique.{Unique, UniqueAs}
use Rattle.uniqueness.proofs.Same.{◌▹◌, same}
use Rattle.book.specs.contracts.codes.code_of
use Rattle.book.proofs.codes.code_of.Reads as code_of_reads
use Rattle.book.specs.contracts.codes.class_of
use Rattle.book.proofs.codes.class_of.Reads as class_of_reads
use Rattle.book.specs.contracts.codes.section_of
use Rattle.book.proofs.codes.section_of.Reads as section_of_reads
use Rattle.book.specs.contracts.codes.language_of
use Rattle.book.proofs.codes.language_of.Reads as language_of_reads
use Rattle.book.specs.contracts.codes.is_struck
use Rattle.book.proofs.codes.is_struck.Reads as is_struck_reads
use Rattle.book.specs.contracts.rows.put_line
use Rattle.book.proofs.rows.put_line.Reads as put_line_reads
use Rattle.book.specs.contracts.rows.line_bytes
use Rattle.book.proofs.rows.line_bytes.Reads as line_bytes_reads
use Rattle.book.specs.contracts.rows.node_name
use Rattle.book.proofs.rows.node_name.Reads as node_name_reads
use Rattle.book.specs.contracts.frame_of
use Rattle.book.proofs.frame_of.Reads as frame_of_reads
use Rattle.book.specs.contracts.no_counts
use Rattle.book.proofs.no_counts.Reads as no_counts_reads
use Rattle.book.specs.contracts.counts_with
use Rattle.book.proofs.counts_with.Reads as counts_with_reads
use Rattle.book.specs.contracts.editions.edition_of
use Rattle.book.proofs.editions.edition_of.Reads as edition_of_reads
use Rattle.book.specs.contracts.nodes.first_named
use Rattle.book.proofs.nodes.first_named.Reads as first_named_reads
use Rattle.book_check.specs.contracts.nodes.nodes_packed
use Rattle.book_check.proofs.nodes.nodes_packed.Reads as nodes_packed_reads
use Rattle.book_check.specs.contracts.nodes.nodes_good
use Rattle.book_check.proofs.nodes.nodes_good.Reads as nodes_good_reads
use Rattle.book_check.specs.contracts.lines.lines_packed
use Rattle.book_check.proofs.lines.lines_packed.Reads as lines_packed_reads
use Rattle.book_check.specs.contracts.lines.is_bare_star
use Rattle.book_check.proofs.lines.is_bare_star.Reads as is_bare_star_reads
use Rattle.book_check.specs.contracts.lines.has_star
use Rattle.book_check.proofs.lines.has_star.Reads as has_star_reads
use Rattle.book_check.specs.contracts.journal.edits_packed
use Rattle.book_check.proofs.journal.edits_packed.Reads as edits_packed_reads
use Rattle.book_check.specs.contracts.journal.journal_fits
use Rattle.book_check.proofs.journal.journal_fits.Reads as journal_fits_reads
use Rattle.book_check.specs.contracts.is_book
use Rattle.book_check.proofs.is_book.Reads as is_book_reads
use Rattle.book_check.specs.contracts.Held.of
use Rattle.book_check.proofs.Held.of.Reads as of_reads
use Rattle.book_building.specs.contracts.clear_book
use Rattle.book_building.proofs.clear_book.Reads as clear_book_reads
use Rattle.book_building.specs.contracts.take_extern
use Rattle.book_building.proofs.take_extern.Reads as take_extern_reads
use Rattle.book_building.specs.contracts.take_closed
use Rattle.book_building.proofs.take_closed.Reads as take_closed_reads
use Rattle.book_opening.specs.contracts.open as opening_open
use Rattle.book_opening.proofs.open.Reads as opening_open_reads
use Rattle.ranking.specs.contracts.rank_of
use Rattle.ranking.proofs.rank_of.Reads as rank_of_reads
use Rattle.ranking.specs.contracts.finding.find_match
use Rattle.ranking.proofs.finding.find_match.Reads as find_match_reads
use Rattle.ranking.specs.contracts.names.name_refusal
use Rattle.ranking.proofs.names.name_refusal.Reads as name_refusal_reads
use Rattle.lookups.specs.contracts.version_lookup.is_long
use Rattle.lookups.proofs.version_lookup.is_long.Reads as is_long_reads
use Rattle.lookups.specs.contracts.version_lookup.version_in_book
use Rattle.lookups.proofs.version_lookup.version_in_book.Reads as version_in_book_reads
use Rattle.lookups.specs.contracts.version_lookup.version_for_symbol
use Rattle.lookups.proofs.version_lookup.version_for_symbol.Reads as version_for_symbol_reads
use Rattle.lookups.specs.contracts.locality_lookup.locality_in_book
use Rattle.lookups.proofs.locality_lookup.locality_in_book.Reads as locality_in_book_reads
use Rattle.lookups.specs.contracts.locality_lookup.locality
use Rattle.lookups.proofs.locality_lookup.locality.Reads as locality_reads
use Rattle.lookups.specs.contracts.index.VersionIndex.from_node
use Rattle.lookups.proofs.index.VersionIndex.from_node.Reads as from_node_reads
use Rattle.lookups.specs.contracts.index.VersionIndex.number
use Rattle.lookups.proofs.index.VersionIndex.number.Reads as number_reads
use Rattle.lookups.specs.contracts.listing.first_listed
use Rattle.lookups.proofs.listing.first_listed.Reads as first_listed_reads
use Rattle.lookups.specs.contracts.wanted.wanted_version
use Rattle.lookups.proofs.wanted.wanted_version.Reads as wanted_version_reads
use Rattle.version_script.specs.contracts.open as version_script_open
use Rattle.version_script.proofs.open.Reads as version_script_open_reads
use Rattle.counting.specs.contracts.version_count
use Rattle.counting.proofs.version_count.Reads as version_count_reads
use Rattle.counting.specs.contracts.parent_count
use Rattle.counting.proofs.parent_count.Reads as parent_count_reads
use Rattle.counting.specs.contracts.version_node
use Rattle.counting.proofs.version_node.Reads as version_node_reads
use Rattle.export_list.specs.contracts.open as export_list_open
use Rattle.export_list.proofs.open.Reads as export_list_open_reads
use Rattle.export_list.specs.contracts.lookups.contains
use Rattle.export_list.proofs.lookups.contains.Reads as contains_reads
use Rattle.reasons.specs.contracts.telling.rust_why
use Rattle.reasons.proofs.telling.rust_why.Reads as rust_why_reads
use Rattle.reasons.specs.contracts.telling.ranked_why
use Rattle.reasons.proofs.telling.ranked_why.Reads as ranked_why_reads
use Rattle.reasons.specs.contracts.asking.why_in_book
use Rattle.reasons.proofs.asking.why_in_book.Reads as why_in_book_reads
use Rattle.reasons.specs.contracts.asking.why
use Rattle.reasons.proofs.asking.why.Reads as why_reads

-- ---- book
pub code_of_unique : Unique code_of.ended code_of_reads.Post
code_of_unique κs a x y v w p q = (same p q, refl)

pub class_of_unique : Unique class_of.ended class_of_reads.Post
class_of_unique κs a x y v w p q = (same p q, refl)

pub section_of_unique : Unique section_of.ended section_of_reads.Post
section_of_unique κs a x y v w p q = (same p q, refl)

pub language_of_unique : Unique language_of.ended language_of_reads.Post
language_of_unique κs a x y v w p q = (same p q, refl)

pub is_struck_unique : Unique is_struck.ended is_struck_reads.Post
is_struck_unique κs a x y v w p q = (same p q, refl)

pub put_line_unique : Unique put_line.ended put_line_reads.Post
put_line_unique κs a x y v w p q = (refl, λ i. same p q i ▹ tt ▹ tt ▹ tt ▹ tt ▹ tt ▹ tt ▹ tt)

pub line_bytes_unique : UniqueAs line_bytes.ended (λ κs. List ℕ) (λ κs r. r.now) line_bytes_reads.Post
line_bytes_unique κs a x y v w p q = (same p q, refl)

pub node_name_unique : UniqueAs node_name.ended (λ κs. List ℕ) (λ κs r. r.now) node_name_reads.Post
node_name_unique κs a x y v w p q = (same p q, refl)

pub frame_of_unique : Unique frame_of.ended frame_of_reads.Post
frame_of_unique κs a x y v w p q = (same p q, refl)

pub no_counts_unique : Unique no_counts.ended no_counts_reads.Post
no_counts_unique κs a x y v w p q = (same p q, refl)

pub counts_with_unique : Unique counts_with.ended counts_with_reads.Post
counts_with_unique κs a x y v w p q = (same p q, refl)

pub edition_of_unique : Unique edition_of.ended edition_of_reads.Post
edition_of_unique κs a x y v w p q = (same p q, refl)

pub first_named_unique : Unique first_named.ended first_named_reads.Post
first_named_unique κs a x y v w p q = (same p q, refl)

-- ---- book_check: nodes
pub nodes_packed_unique : Unique nodes_packed.ended nodes_packed_reads.Post
nodes_packed_unique κs a x y v w p q = (same p q, refl)

pub nodes_good_unique : Unique nodes_good.ended nodes_good_reads.Post
nodes_good_unique κs a x y v w p q = (same p q, refl)

-- ---- book_check: lines
pub lines_packed_unique : Unique lines_packed.ended lines_packed_reads.Post
lines_packed_unique κs a x y v w p q = (same p q, refl)

pub has_star_unique : Unique has_star.ended has_star_reads.Post
has_star_unique κs a x y v w p q = (same p q, refl)

pub is_bare_star_unique : Unique is_bare_star.ended is_bare_star_reads.Post
is_bare_star_unique κs a x y v w p q = (same p q, refl)

-- ---- book_check: the journal
pub edits_packed_unique : Unique edits_packed.ended edits_packed_reads.Post
edits_packed_unique κs a x y v w p q = (same p q, refl)

pub journal_fits_unique : Unique journal_fits.ended journal_fits_reads.Post
journal_fits_unique κs a x y v w p q = (same p q, refl)

-- ---- book_check
pub is_book_unique : Unique is_book.ended is_book_reads.Post
is_book_unique κs a x y v w p q = (same p q, refl)

-- a book that is held is what was lent: that it is one has one proof
held-one : (h k : Held) → h.lent ≡ k.lent → h ≡ k
held-one h k e i = record { lent = e i; holds = is_prop→PathP (λ j. holds_book (e j) ≡ true) (λ j. Bool-set (holds_book (e j)) true) h.holds k.holds i }

-- it is held, or refused where there is none
held-or : (b : Lent) (x y : Result Held Refusal)
    → IfOk x (λ h. h.lent ≡ b) × IfErr x (λ e. (e ≡ NoBook) × (holds_book b ≡ false))
    → IfOk y (λ h. h.lent ≡ b) × IfErr y (λ e. (e ≡ NoBook) × (holds_book b ≡ false)) → x ≡ y
held-or b (Ok h) (Ok k) p q = ap Ok (held-one h k (same p.0 q.0))
held-or b (Ok h) (Err f) p q = absurd (false≢true (sym q.1.1 ∙ ap holds_book (sym p.0) ∙ h.holds))
held-or b (Err e) (Ok k) p q = absurd (false≢true (sym p.1.1 ∙ ap holds_book (sym q.0) ∙ k.holds))
held-or b (Err e) (Err f) p q = ap Err (same p.1.0 q.1.0)

pub of_unique : Unique of.ended of_reads.Post
of_unique κs a x y v w p q = (held-or a.0 x y p q, refl)

-- ---- book_building
pub clear_book_unique : Unique clear_book.ended clear_book_reads.Post
clear_book_unique κs a x y v w p q =
    (refl, λ i. same p.nodes q.nodes i ▹ same p.names q.names i ▹ same p.lines q.lines i ▹ same p.pool q.pool i ▹ tt)

pub take_extern_unique : Unique take_extern.ended take_extern_reads.Post
take_extern_unique κs a x y v w p q = (same p q, refl)

pub take_closed_unique : Unique take_closed.ended take_closed_reads.Post
take_closed_unique κs a x y v w p q = (same p q, refl)

-- ---- book_opening
pub opening_open_unique : Unique opening_open.ended opening_open_reads.Post
opening_open_unique κs a x y v w p q =
    let b = same p.1 q.1 in
    (same p.0 q.0, λ i. tt ▹ tt ▹ (b i).nodes ▹ (b i).names ▹ (b i).lines ▹ (b i).pool ▹ (b i).journal ▹ tt)

-- ---- ranking
pub rank_of_unique : Unique rank_of.ended rank_of_reads.Post
rank_of_unique κs a x y v w p q = (same p q, refl)

pub name_refusal_unique : Unique name_refusal.ended name_refusal_reads.Post
name_refusal_unique κs a x y v w p q = (same p q, refl)

-- ---- ranking: finding
pub find_match_unique : Unique find_match.ended find_match_reads.Post
find_match_unique κs a x y v w p q = (same p q, refl)

-- ---- lookups
pub from_node_unique : Unique from_node.ended from_node_reads.Post
from_node_unique κs a x y v w p q = (same p q, refl)

pub number_unique : Unique number.ended number_reads.Post
number_unique κs a x y v w p q = (same p q, refl)

pub wanted_version_unique : Unique wanted_version.ended wanted_version_reads.Post
wanted_version_unique κs a x y v w p q = (same p q, refl)

-- ---- lookups: listing
pub first_listed_unique : Unique first_listed.ended first_listed_reads.Post
first_listed_unique κs a x y v w p q = (same p q, refl)

-- ---- lookups: version_lookup
pub version_in_book_unique : Unique version_in_book.ended version_in_book_reads.Post
version_in_book_unique κs a x y v w p q = (same p q, refl)

pub is_long_unique : Unique is_long.ended is_long_reads.Post
is_long_unique κs a x y v w p q = (same p q, refl)

pub version_for_symbol_unique : Unique version_for_symbol.ended version_for_symbol_reads.Post
version_for_symbol_unique κs a x y v w p q = (same p q, refl)

-- ---- lookups: locality_lookup
pub locality_in_book_unique : Unique locality_in_book.ended locality_in_book_reads.Post
locality_in_book_unique κs a x y v w p q = (same p q, refl)

pub locality_unique : Unique locality.ended locality_reads.Post
locality_unique κs a x y v w p q = (same p q, refl)

-- ---- version_script
pub version_script_open_unique : Unique version_script_open.ended version_script_open_reads.Post
version_script_open_unique κs a x y v w p q =
    let b = same p.1 q.1 in
    (same p.0 q.0, λ i. tt ▹ (b i).nodes ▹ (b i).names ▹ (b i).lines ▹ (b i).pool ▹ (b i).journal ▹ tt)

-- ---- counting
pub version_count_unique : Unique version_count.ended version_count_reads.Post
version_count_unique κs a x y v w p q = (same p q, refl)

pub parent_count_unique : Unique parent_count.ended parent_count_reads.Post
parent_count_unique κs a x y v w p q = (same p q, refl)

pub version_node_unique : Unique version_node.ended version_node_reads.Post
version_node_unique κs a x y v w p q = (same p q, refl)

-- ---- export_list
pub export_list_open_unique : Unique export_list_open.ended export_list_open_reads.Post
export_list_open_unique κs a x y v w p q =
    let b = same p.1 q.1 in
    (same p.0 q.0, λ i. tt ▹ (b i).nodes ▹ (b i).names ▹ (b i).lines ▹ (b i).pool ▹ (b i).journal ▹ tt)

pub contains_unique : Unique contains.ended contains_reads.Post
contains_unique κs a x y v w p q = (same p q, refl)

-- ---- reasons
pub rust_why_unique : Unique rust_why.ended rust_why_reads.Post
rust_why_unique κs a x y v w p q = (same p q, refl)

pub ranked_why_unique : Unique ranked_why.ended ranked_why_reads.Post
ranked_why_unique κs a x y v w p q = (same p q, refl)

pub why_in_book_unique : Unique why_in_book.ended why_in_book_reads.Post
why_in_book_unique κs a x y v w p q = (same p q, refl)

pub why_unique : Unique why.ended why_reads.Post
why_unique κs a x y v w p q = (same p q, refl)
