-- What answers for a lent book leaves one answer and one end state: c_lending, c_api. Assumes nothing.
use mathlib.Core.Path.{refl}
use Rattle.c_lending.specs.Calls.{Edits, Opens, Replies, RepliesWith}
use Rattle.uniqueness.specs.Unique.{Unique}
use Rattle.uniqueness.proofs.Same.{◌▹◌, same}
use Rattle.c_lending.specs.contracts.counts_of
use Rattle.c_lending.proofs.counts_of.Reads as counts_of_reads
use Rattle.c_lending.specs.contracts.put_counts
use Rattle.c_lending.proofs.put_counts.Reads as put_counts_reads
use Rattle.c_lending.specs.contracts.answer
use Rattle.c_lending.proofs.answer.Reads as answer_reads
use Rattle.c_lending.specs.contracts.finish
use Rattle.c_lending.proofs.finish.Reads as finish_reads
use Rattle.c_api.specs.contracts.lent_openings.open_lent
use Rattle.c_api.proofs.lent_openings.open_lent.Reads as open_lent_reads
use Rattle.c_api.specs.contracts.lent_questions.version_count
use Rattle.c_api.proofs.lent_questions.version_count.Reads as version_count_reads
use Rattle.c_api.specs.contracts.lent_questions.parent_count
use Rattle.c_api.proofs.lent_questions.parent_count.Reads as parent_count_reads
use Rattle.c_api.specs.contracts.lent_questions.version_for_symbol
use Rattle.c_api.proofs.lent_questions.version_for_symbol.Reads as version_for_symbol_reads
use Rattle.c_api.specs.contracts.lent_why.why
use Rattle.c_api.proofs.lent_why.why.Reads as why_reads
use Rattle.c_api.specs.contracts.lent_questions.locality
use Rattle.c_api.proofs.lent_questions.locality.Reads as locality_reads
use Rattle.c_api.specs.contracts.lent_questions.contains
use Rattle.c_api.proofs.lent_questions.contains.Reads as contains_reads
use Rattle.c_api.specs.contracts.lent_additions.add
use Rattle.c_api.proofs.lent_additions.add.Reads as add_reads
use Rattle.c_api.specs.contracts.lent_additions.add_symbol
use Rattle.c_api.proofs.lent_additions.add_symbol.Reads as add_symbol_reads
use Rattle.c_api.specs.contracts.lent_edits.strike
use Rattle.c_api.proofs.lent_edits.strike.Reads as strike_reads
use Rattle.c_api.specs.contracts.lent_edits.undo
use Rattle.c_api.proofs.lent_edits.undo.Reads as undo_reads
use Rattle.c_api.specs.contracts.lent_edits.settle
use Rattle.c_api.proofs.lent_edits.settle.Reads as settle_reads

-- ---- c_lending
pub counts_of_unique : Unique counts_of.ended counts_of_reads.Post
counts_of_unique κs a x y v w p q = (same p q, refl)

pub put_counts_unique : Unique put_counts.ended put_counts_reads.Post
put_counts_unique κs a x y v w p q = (refl, λ i. same p q i ▹ tt ▹ tt)

pub answer_unique : Unique answer.ended answer_reads.Post
answer_unique κs a x y v w p q = (same p.0 q.0, λ i. tt ▹ tt ▹ same p.1 q.1 i ▹ tt)

pub finish_unique : Unique finish.ended finish_reads.Post
finish_unique κs a x y v w p q = (same p.0 q.0, λ i. tt ▹ same p.1 q.1 i ▹ tt)

-- ---- c_api: lent_openings
pub open_lent_unique : Unique open_lent.ended open_lent_reads.Post
unfolding Opens
open_lent_unique κs a x y v w p q =
    let b = same p.2 q.2 in
    (same p.0 q.0, λ i. tt ▹ tt ▹ same p.1 q.1 i ▹ (b i).nodes ▹ (b i).names ▹ (b i).lines ▹ (b i).pool ▹ (b i).journal ▹ tt)

-- ---- c_api: lent_questions
pub version_count_unique : Unique version_count.ended version_count_reads.Post
unfolding Replies
version_count_unique κs a x y v w p q = (same p.0 q.0, λ i. tt ▹ tt ▹ tt ▹ tt ▹ tt ▹ tt ▹ same p.1 q.1 i ▹ tt)

pub parent_count_unique : Unique parent_count.ended parent_count_reads.Post
unfolding Replies
parent_count_unique κs a x y v w p q = (same p.0 q.0, λ i. tt ▹ tt ▹ tt ▹ tt ▹ tt ▹ tt ▹ same p.1 q.1 i ▹ tt)

pub version_for_symbol_unique : Unique version_for_symbol.ended version_for_symbol_reads.Post
unfolding Replies
version_for_symbol_unique κs a x y v w p q = (same p.0 q.0, λ i. tt ▹ tt ▹ tt ▹ tt ▹ tt ▹ tt ▹ tt ▹ tt ▹ tt ▹ tt ▹ same p.1 q.1 i ▹ tt)

pub locality_unique : Unique locality.ended locality_reads.Post
unfolding Replies
locality_unique κs a x y v w p q = (same p.0 q.0, λ i. tt ▹ tt ▹ tt ▹ tt ▹ tt ▹ tt ▹ tt ▹ tt ▹ same p.1 q.1 i ▹ tt)

pub contains_unique : Unique contains.ended contains_reads.Post
unfolding Replies
contains_unique κs a x y v w p q = (same p.0 q.0, λ i. tt ▹ tt ▹ tt ▹ tt ▹ tt ▹ tt ▹ tt ▹ tt ▹ same p.1 q.1 i ▹ tt)

-- ---- c_api: lent_why
pub why_unique : Unique why.ended why_reads.Post
unfolding RepliesWith
why_unique κs a x y v w p q = (same p.0 q.0, λ i. tt ▹ tt ▹ tt ▹ tt ▹ tt ▹ tt ▹ tt ▹ tt ▹ tt ▹ tt ▹ same p.1 q.1 i ▹ tt)

-- ---- c_api: lent_additions
pub add_unique : Unique add.ended add_reads.Post
unfolding Edits
add_unique κs a x y v w p q =
    let b = same p.2 q.2 in
    (same p.0 q.0, λ i. same p.1 q.1 i ▹ tt ▹ tt ▹ (b i).lines ▹ (b i).pool ▹ (b i).journal ▹ tt ▹ tt ▹ tt ▹ tt ▹ tt)

pub add_symbol_unique : Unique add_symbol.ended add_symbol_reads.Post
unfolding Edits
add_symbol_unique κs a x y v w p q =
    let b = same p.2 q.2 in
    (same p.0 q.0, λ i. same p.1 q.1 i ▹ tt ▹ tt ▹ (b i).lines ▹ (b i).pool ▹ (b i).journal ▹ tt ▹ tt ▹ tt)

-- ---- c_api: lent_edits
pub strike_unique : Unique strike.ended strike_reads.Post
unfolding Edits
strike_unique κs a x y v w p q =
    let b = same p.2 q.2 in
    (same p.0 q.0, λ i. same p.1 q.1 i ▹ tt ▹ tt ▹ (b i).lines ▹ tt ▹ (b i).journal ▹ tt ▹ tt)

pub undo_unique : Unique undo.ended undo_reads.Post
unfolding Edits
undo_unique κs a x y v w p q =
    let b = same p.2 q.2 in
    (same p.0 q.0, λ i. same p.1 q.1 i ▹ tt ▹ tt ▹ (b i).lines ▹ (b i).pool ▹ (b i).journal ▹ tt)

pub settle_unique : Unique settle.ended settle_reads.Post
unfolding Edits
settle_unique κs a x y v w p q =
    let b = same p.2 q.2 in
    (same p.0 q.0, λ i. same p.1 q.1 i ▹ tt ▹ tt ▹ (b i).lines ▹ (b i).pool ▹ (b i).journal ▹ tt)
