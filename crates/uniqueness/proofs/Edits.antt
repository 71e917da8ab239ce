-- What changes a trial book leaves one answer and one end state: trial_add, trial_settle, trial_symbols, trial_undo, trial_strike. Assumes nothing.
use mathlib.Core.Path.{refl}
use Rattle.uniqueness.specs.Unique.{Unique}
use Rattle.uniqueness.proofs.Same.{◌▹◌, same}
use Rattle.trial_add.specs.contracts.adding.append
use Rattle.trial_add.proofs.adding.append.Reads as append_reads
use Rattle.trial_settle.specs.contracts.settling.settle_lines
use Rattle.trial_settle.proofs.settling.settle_lines.Reads as settle_lines_reads
use Rattle.trial_symbols.specs.contracts.events.add_event
use Rattle.trial_symbols.proofs.events.add_event.Reads as add_event_reads
use Rattle.trial_symbols.specs.contracts.lines.clear_added
use Rattle.trial_symbols.proofs.lines.clear_added.Reads as clear_added_reads
use Rattle.trial_symbols.specs.contracts.lines.add_lines
use Rattle.trial_symbols.proofs.lines.add_lines.Reads as add_lines_reads
use Rattle.trial_symbols.specs.contracts.add_symbol
use Rattle.trial_symbols.proofs.add_symbol.Reads as add_symbol_reads
use Rattle.trial_undo.specs.contracts.taking_back.take_back_latest
use Rattle.trial_undo.proofs.taking_back.take_back_latest.Reads as take_back_latest_reads
use Rattle.trial_undo.specs.contracts.undo_latest
use Rattle.trial_undo.proofs.undo_latest.Reads as undo_latest_reads
use Rattle.trial_add.specs.contracts.add
use Rattle.trial_add.proofs.add.Reads as add_reads
use Rattle.trial_strike.specs.contracts.strike
use Rattle.trial_strike.proofs.strike.Reads as strike_reads
use Rattle.trial_settle.specs.contracts.settle
use Rattle.trial_settle.proofs.settle.Reads as settle_reads

-- ---- trial_add: what it does to a known book
pub append_unique : Unique append.ended append_reads.Post
append_unique κs a x y v w p q =
    let b = same p.1 q.1 in
    (same p.0 q.0, λ i. tt ▹ tt ▹ tt ▹ (b i).lines ▹ (b i).pool ▹ (b i).journal ▹ tt ▹ tt ▹ tt ▹ tt ▹ tt)

-- ---- trial_settle: the same
pub settle_lines_unique : Unique settle_lines.ended settle_lines_reads.Post
settle_lines_unique κs a x y v w p q =
    let e = same p.0 q.0 in
    let b = same p.1 q.1 in
    (cc, λ i. tt ▹ tt ▹ tt ▹ (b i).lines ▹ (b i).pool ▹ (b i).journal ▹ tt)

-- ---- trial_symbols
pub add_event_unique : Unique add_event.ended add_event_reads.Post
add_event_unique κs a x y v w p q =
    let b = same p.1 q.1 in
    (same p.0 q.0, λ i. tt ▹ tt ▹ tt ▹ (b i).lines ▹ (b i).pool ▹ (b i).journal ▹ tt ▹ tt ▹ tt)

pub clear_added_unique : Unique clear_added.ended clear_added_reads.Post
clear_added_unique κs a x y v w p q = (refl, λ i. tt ▹ tt ▹ same p.0 q.0 i ▹ same p.1 q.1 i ▹ same p.2 q.2 i ▹ tt)

pub add_lines_unique : Unique add_lines.ended add_lines_reads.Post
add_lines_unique κs a x y v w p q =
    let b = same p.1 q.1 in
    (same p.0 q.0, λ i. tt ▹ tt ▹ tt ▹ (b i).lines ▹ (b i).pool ▹ (b i).journal ▹ tt ▹ tt ▹ tt)

pub add_symbol_unique : Unique add_symbol.ended add_symbol_reads.Post
add_symbol_unique κs a x y v w p q =
    let b = same p.1 q.1 in
    (same p.0 q.0, λ i. tt ▹ tt ▹ tt ▹ (b i).lines ▹ (b i).pool ▹ (b i).journal ▹ tt ▹ tt ▹ tt)

-- ---- trial_undo
pub take_back_latest_unique : Unique take_back_latest.ended take_back_latest_reads.Post
take_back_latest_unique κs a x y v w p q =
    (same p.0 q.0, λ i. tt ▹ same p.1 q.1 i ▹ same p.2 q.2 i ▹ same p.3 q.3 i ▹ tt)

pub undo_latest_unique : Unique undo_latest.ended undo_latest_reads.Post
undo_latest_unique κs a x y v w p q =
    let b = same p.1 q.1 in
    (same p.0 q.0, λ i. tt ▹ tt ▹ tt ▹ (b i).lines ▹ (b i).pool ▹ (b i).journal ▹ tt)

-- ---- trial_add, trial_strike, trial_settle
pub add_unique : Unique add.ended add_reads.Post
add_unique κs a x y v w p q =
    let b = same p.1 q.1 in
    (same p.0 q.0, λ i. tt ▹ tt ▹ tt ▹ (b i).lines ▹ (b i).pool ▹ (b i).journal ▹ tt ▹ tt ▹ tt ▹ tt ▹ tt)

pub strike_unique : Unique strike.ended strike_reads.Post
strike_unique κs a x y v w p q =
    let b = same p.1 q.1 in
    (same p.0 q.0, λ i. tt ▹ tt ▹ tt ▹ (b i).lines ▹ tt ▹ (b i).journal ▹ tt ▹ tt)

pub settle_unique : Unique settle.ended settle_reads.Post
settle_unique κs a x y v w p q =
    let b = same p.1 q.1 in
    (same p.0 q.0, λ i. tt ▹ tt ▹ tt ▹ (b i).lines ▹ (b i).pool ▹ (b i).journal ▹ tt)
