-- What a C, C++ or Rust program calls leaves one answer and one end state: c_api. Assumes nothing.
use Rattle.c_lending.specs.Calls.{Edits, Opens, Replies, RepliesWith}
use Rattle.uniqueness.specs.Unique.{Unique}
use Rattle.uniqueness.proofs.Same.{◌▹◌, same}
use Rattle.c_api.specs.contracts.edits.tuno_add
use Rattle.c_api.proofs.edits.tuno_add.Reads as tuno_add_reads
use Rattle.c_api.specs.contracts.edits.tuno_strike
use Rattle.c_api.proofs.edits.tuno_strike.Reads as tuno_strike_reads
use Rattle.c_api.specs.contracts.edits.tuno_undo
use Rattle.c_api.proofs.edits.tuno_undo.Reads as tuno_undo_reads
use Rattle.c_api.specs.contracts.edits.tuno_settle
use Rattle.c_api.proofs.edits.tuno_settle.Reads as tuno_settle_reads
use Rattle.c_api.specs.contracts.edits.tuno_add_symbol
use Rattle.c_api.proofs.edits.tuno_add_symbol.Reads as tuno_add_symbol_reads
use Rattle.c_api.specs.contracts.openings.tuno_open_version_script
use Rattle.c_api.proofs.openings.tuno_open_version_script.Reads as tuno_open_version_script_reads
use Rattle.c_api.specs.contracts.openings.tuno_open_export_list
use Rattle.c_api.proofs.openings.tuno_open_export_list.Reads as tuno_open_export_list_reads
use Rattle.c_api.specs.contracts.questions.tuno_version_count
use Rattle.c_api.proofs.questions.tuno_version_count.Reads as tuno_version_count_reads
use Rattle.c_api.specs.contracts.questions.tuno_parent_count
use Rattle.c_api.proofs.questions.tuno_parent_count.Reads as tuno_parent_count_reads
use Rattle.c_api.specs.contracts.questions.tuno_version_for_symbol
use Rattle.c_api.proofs.questions.tuno_version_for_symbol.Reads as tuno_version_for_symbol_reads
use Rattle.c_api.specs.contracts.questions.tuno_why
use Rattle.c_api.proofs.questions.tuno_why.Reads as tuno_why_reads
use Rattle.c_api.specs.contracts.questions.tuno_locality
use Rattle.c_api.proofs.questions.tuno_locality.Reads as tuno_locality_reads
use Rattle.c_api.specs.contracts.questions.tuno_contains
use Rattle.c_api.proofs.questions.tuno_contains.Reads as tuno_contains_reads

-- ---- c_api
pub tuno_add_unique : Unique tuno_add.ended tuno_add_reads.Post
unfolding Edits
tuno_add_unique κs a x y v w p q =
    let b = same p.2 q.2 in
    (same p.0 q.0, λ i. same p.1 q.1 i ▹ tt ▹ tt ▹ (b i).lines ▹ (b i).pool ▹ (b i).journal ▹ tt ▹ tt ▹ tt ▹ tt ▹ tt)

pub tuno_strike_unique : Unique tuno_strike.ended tuno_strike_reads.Post
unfolding Edits
tuno_strike_unique κs a x y v w p q =
    let b = same p.2 q.2 in
    (same p.0 q.0, λ i. same p.1 q.1 i ▹ tt ▹ tt ▹ (b i).lines ▹ tt ▹ (b i).journal ▹ tt ▹ tt)

pub tuno_undo_unique : Unique tuno_undo.ended tuno_undo_reads.Post
unfolding Edits
tuno_undo_unique κs a x y v w p q =
    let b = same p.2 q.2 in
    (same p.0 q.0, λ i. same p.1 q.1 i ▹ tt ▹ tt ▹ (b i).lines ▹ (b i).pool ▹ (b i).journal ▹ tt)

pub tuno_settle_unique : Unique tuno_settle.ended tuno_settle_reads.Post
unfolding Edits
tuno_settle_unique κs a x y v w p q =
    let b = same p.2 q.2 in
    (same p.0 q.0, λ i. same p.1 q.1 i ▹ tt ▹ tt ▹ (b i).lines ▹ (b i).pool ▹ (b i).journal ▹ tt)

pub tuno_add_symbol_unique : Unique tuno_add_symbol.ended tuno_add_symbol_reads.Post
unfolding Edits
tuno_add_symbol_unique κs a x y v w p q =
    let b = same p.2 q.2 in
    (same p.0 q.0, λ i. same p.1 q.1 i ▹ tt ▹ tt ▹ (b i).lines ▹ (b i).pool ▹ (b i).journal ▹ tt ▹ tt ▹ tt)

pub tuno_open_version_script_unique : Unique tuno_open_version_script.ended tuno_open_version_script_reads.Post
unfolding Opens
tuno_open_version_script_unique κs a x y v w p q =
    let b = same p.2 q.2 in
    (same p.0 q.0, λ i. tt ▹ same p.1 q.1 i ▹ (b i).nodes ▹ (b i).names ▹ (b i).lines ▹ (b i).pool ▹ (b i).journal ▹ tt)

pub tuno_open_export_list_unique : Unique tuno_open_export_list.ended tuno_open_export_list_reads.Post
unfolding Opens
tuno_open_export_list_unique κs a x y v w p q =
    let b = same p.2 q.2 in
    (same p.0 q.0, λ i. tt ▹ same p.1 q.1 i ▹ (b i).nodes ▹ (b i).names ▹ (b i).lines ▹ (b i).pool ▹ (b i).journal ▹ tt)

pub tuno_version_count_unique : Unique tuno_version_count.ended tuno_version_count_reads.Post
unfolding Replies
tuno_version_count_unique κs a x y v w p q = (same p.0 q.0, λ i. tt ▹ tt ▹ tt ▹ tt ▹ tt ▹ tt ▹ same p.1 q.1 i ▹ tt)

pub tuno_parent_count_unique : Unique tuno_parent_count.ended tuno_parent_count_reads.Post
unfolding Replies
tuno_parent_count_unique κs a x y v w p q = (same p.0 q.0, λ i. tt ▹ tt ▹ tt ▹ tt ▹ tt ▹ tt ▹ same p.1 q.1 i ▹ tt)

pub tuno_version_for_symbol_unique : Unique tuno_version_for_symbol.ended tuno_version_for_symbol_reads.Post
unfolding Replies
tuno_version_for_symbol_unique κs a x y v w p q = (same p.0 q.0, λ i. tt ▹ tt ▹ tt ▹ tt ▹ tt ▹ tt ▹ tt ▹ tt ▹ tt ▹ tt ▹ same p.1 q.1 i ▹ tt)

pub tuno_why_unique : Unique tuno_why.ended tuno_why_reads.Post
unfolding RepliesWith
tuno_why_unique κs a x y v w p q = (same p.0 q.0, λ i. tt ▹ tt ▹ tt ▹ tt ▹ tt ▹ tt ▹ tt ▹ tt ▹ tt ▹ tt ▹ same p.1 q.1 i ▹ tt)

pub tuno_locality_unique : Unique tuno_locality.ended tuno_locality_reads.Post
unfolding Replies
tuno_locality_unique κs a x y v w p q = (same p.0 q.0, λ i. tt ▹ tt ▹ tt ▹ tt ▹ tt ▹ tt ▹ tt ▹ tt ▹ same p.1 q.1 i ▹ tt)

pub tuno_contains_unique : Unique tuno_contains.ended tuno_contains_reads.Post
unfolding Replies
tuno_contains_unique κs a x y v w p q = (same p.0 q.0, λ i. tt ▹ tt ▹ tt ▹ tt ▹ tt ▹ tt ▹ tt ▹ tt ▹ same p.1 q.1 i ▹ tt)
