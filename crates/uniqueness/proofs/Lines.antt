-- What prints leaves one answer and one end state: printing_symbols, printing_listing, printing_book, printing_why, desk. Assumes nothing.
use Prim.Native.Nat.{ℕ}
use mathlib.Core.Path.{refl}
use mathlib.Core.List.{List}
use Rattle.uniqueness.specs.Unique.{Unique, UniqueAs}
use Rattle.uniqueness.proofs.Same.{◌▹◌, same}
use Rattle.printing_symbols.specs.contracts.render_counts
use Rattle.printing_symbols.proofs.render_counts.Reads as render_counts_reads
use Rattle.printing_symbols.specs.contracts.symbols.put_symbol_line
use Rattle.printing_symbols.proofs.symbols.put_symbol_line.Reads as put_symbol_line_reads
use Rattle.printing_listing.specs.contracts.symbols.render_symbols
use Rattle.printing_listing.proofs.symbols.render_symbols.Reads as render_symbols_reads
use Rattle.printing_listing.specs.contracts.script.render_script
use Rattle.printing_listing.proofs.script.render_script.Reads as render_script_reads
use Rattle.printing_listing.specs.contracts.script.render_too_long
use Rattle.printing_listing.proofs.script.render_too_long.Reads as render_too_long_reads
use Rattle.printing_listing.specs.contracts.script_end
use Rattle.printing_listing.proofs.script_end.Reads as script_end_reads
use Rattle.printing_listing.specs.contracts.symbols_start
use Rattle.printing_listing.proofs.symbols_start.Reads as symbols_start_reads
use Rattle.printing_listing.specs.contracts.render_listing
use Rattle.printing_listing.proofs.render_listing.Reads as render_listing_reads
use Rattle.printing_book.specs.contracts.shown_room
use Rattle.printing_book.proofs.shown_room.Reads as shown_room_reads
use Rattle.printing_book.specs.contracts.show_counts
use Rattle.printing_book.proofs.show_counts.Reads as show_counts_reads
use Rattle.printing_book.specs.contracts.lines.show_lines
use Rattle.printing_book.proofs.lines.show_lines.Reads as show_lines_reads
use Rattle.printing_book.specs.contracts.dump.show_dump
use Rattle.printing_book.proofs.dump.show_dump.Reads as show_dump_reads
use Rattle.printing_why.specs.contracts.fields.put_refused_name
use Rattle.printing_why.proofs.fields.put_refused_name.Reads as put_refused_name_reads
use Rattle.printing_why.specs.contracts.fields.put_why_line
use Rattle.printing_why.proofs.fields.put_why_line.Reads as put_why_line_reads
use Rattle.printing_why.specs.contracts.demangled_of
use Rattle.printing_why.proofs.demangled_of.Reads as demangled_of_reads
use Rattle.printing_why.specs.contracts.render_why_in_book
use Rattle.printing_why.proofs.render_why_in_book.Reads as render_why_in_book_reads
use Rattle.printing_why.specs.contracts.render_why
use Rattle.printing_why.proofs.render_why.Reads as render_why_reads
use Rattle.desk.specs.contracts.answering.printed
use Rattle.desk.proofs.answering.printed.Reads as printed_reads
use Rattle.desk.specs.contracts.asking.run_ask
use Rattle.desk.proofs.asking.run_ask.Reads as run_ask_reads
use Rattle.desk.specs.contracts.asking.run_why
use Rattle.desk.proofs.asking.run_why.Reads as run_why_reads
use Rattle.desk.specs.contracts.edits.run_edit
use Rattle.desk.proofs.edits.run_edit.Reads as run_edit_reads
use Rattle.desk.specs.contracts.questions.run_question
use Rattle.desk.proofs.questions.run_question.Reads as run_question_reads
use Rattle.desk.specs.contracts.run_line
use Rattle.desk.proofs.run_line.Reads as run_line_reads

-- ---- printing_symbols
pub render_counts_unique : Unique render_counts.ended render_counts_reads.Post
render_counts_unique κs a x y v w p q = (same p.0 q.0, λ i. tt ▹ same p.1 q.1 i ▹ tt)

pub put_symbol_line_unique : Unique put_symbol_line.ended put_symbol_line_reads.Post
put_symbol_line_unique κs a x y v w p q = (same p.0 q.0, λ i. same p.1 q.1 i ▹ tt ▹ tt ▹ tt ▹ tt)

-- ---- printing_listing
pub render_symbols_unique : Unique render_symbols.ended render_symbols_reads.Post
render_symbols_unique κs a x y v w p q = (same p.0 q.0, λ i. tt ▹ tt ▹ tt ▹ same p.1 q.1 i ▹ tt)

pub render_too_long_unique : Unique render_too_long.ended render_too_long_reads.Post
render_too_long_unique κs a x y v w p q =
    let b = same p.2 q.2 in
    (same p.0 q.0, λ i. (b i).nodes ▹ (b i).names ▹ (b i).lines ▹ (b i).pool ▹ (b i).journal ▹ same p.1 q.1 i ▹ tt)

pub render_script_unique : Unique render_script.ended render_script_reads.Post
render_script_unique κs a x y v w p q =
    let b = same p.2 q.2 in
    (same p.0 q.0, λ i. tt ▹ tt ▹ (b i).nodes ▹ (b i).names ▹ (b i).lines ▹ (b i).pool ▹ (b i).journal ▹ same p.1 q.1 i ▹ tt)

pub script_end_unique : Unique script_end.ended script_end_reads.Post
script_end_unique κs a x y v w p q = (same p q, refl)

pub symbols_start_unique : Unique symbols_start.ended symbols_start_reads.Post
symbols_start_unique κs a x y v w p q = (same p q, refl)

pub render_listing_unique : Unique render_listing.ended render_listing_reads.Post
render_listing_unique κs a x y v w p q =
    let b = same p.2 q.2 in
    (same p.0 q.0, λ i. tt ▹ (b i).nodes ▹ (b i).names ▹ (b i).lines ▹ (b i).pool ▹ (b i).journal ▹ same p.1 q.1 i ▹ tt)

-- ---- printing_book
pub shown_room_unique : Unique shown_room.ended shown_room_reads.Post
shown_room_unique κs a x y v w p q = (same p q, refl)

pub show_counts_unique : Unique show_counts.ended show_counts_reads.Post
show_counts_unique κs a x y v w p q = (same p.0 q.0, λ i. tt ▹ same p.1 q.1 i ▹ tt)

pub show_lines_unique : Unique show_lines.ended show_lines_reads.Post
show_lines_unique κs a x y v w p q = (same p.0 q.0, λ i. tt ▹ same p.1 q.1 i ▹ tt)

pub show_dump_unique : Unique show_dump.ended show_dump_reads.Post
show_dump_unique κs a x y v w p q = (same p.0 q.0, λ i. tt ▹ same p.1 q.1 i ▹ tt)

-- ---- printing_why
pub put_refused_name_unique : Unique put_refused_name.ended put_refused_name_reads.Post
put_refused_name_unique κs a x y v w p q = (same p.0 q.0, λ i. same p.1 q.1 i ▹ tt ▹ tt ▹ tt)

pub put_why_line_unique : Unique put_why_line.ended put_why_line_reads.Post
put_why_line_unique κs a x y v w p q = (same p.0 q.0, λ i. same p.1 q.1 i ▹ tt ▹ tt ▹ tt ▹ tt ▹ tt ▹ tt ▹ tt ▹ tt)

pub demangled_of_unique : UniqueAs demangled_of.ended (λ κs. List ℕ) (λ κs r. r.now) demangled_of_reads.Post
demangled_of_unique κs a x y v w p q = (same p q, refl)

pub render_why_in_book_unique : Unique render_why_in_book.ended render_why_in_book_reads.Post
render_why_in_book_unique κs a x y v w p q = (same p.0 q.0, λ i. tt ▹ tt ▹ tt ▹ same p.1 q.1 i ▹ tt)

pub render_why_unique : Unique render_why.ended render_why_reads.Post
render_why_unique κs a x y v w p q = (same p.0 q.0, λ i. tt ▹ tt ▹ tt ▹ same p.1 q.1 i ▹ tt)

-- ---- desk
pub printed_unique : Unique printed.ended printed_reads.Post
printed_unique κs a x y v w p q = (same p q, refl)

pub run_ask_unique : Unique run_ask.ended run_ask_reads.Post
run_ask_unique κs a x y v w p q = (same p.0 q.0, λ i. tt ▹ tt ▹ same p.1 q.1 i ▹ tt)

pub run_why_unique : Unique run_why.ended run_why_reads.Post
run_why_unique κs a x y v w p q = (same p.0 q.0, λ i. tt ▹ tt ▹ tt ▹ same p.1 q.1 i ▹ tt)

pub run_edit_unique : Unique run_edit.ended run_edit_reads.Post
run_edit_unique κs a x y v w p q =
    let b = same p.2 q.2 in
    (same p.0 q.0, λ i. tt ▹ tt ▹ tt ▹ (b i).lines ▹ (b i).pool ▹ (b i).journal ▹ tt ▹ tt ▹ same p.1 q.1 i ▹ tt)

pub run_question_unique : Unique run_question.ended run_question_reads.Post
run_question_unique κs a x y v w p q = (same p.0 q.0, λ i. tt ▹ tt ▹ tt ▹ tt ▹ same p.1 q.1 i ▹ tt)

pub run_line_unique : Unique run_line.ended run_line_reads.Post
run_line_unique κs a x y v w p q =
    let b = same p.2 q.2 in
    (same p.0 q.0, λ i. tt ▹ tt ▹ tt ▹ (b i).lines ▹ (b i).pool ▹ (b i).journal ▹ tt ▹ tt ▹ same p.1 q.1 i ▹ tt)
