-- What writes into lent buffers leaves one answer and one end state: packing, copying, book_rooms, printing. Assumes nothing.
use mathlib.Core.Path.{refl}
use Rattle.uniqueness.specs.Unique.{Unique}
use Rattle.uniqueness.proofs.Same.{◌▹◌, same}
use Rattle.packing.specs.contracts.clear_bytes
use Rattle.packing.proofs.clear_bytes.Reads as clear_bytes_reads
use Rattle.packing.specs.contracts.clear_numbers
use Rattle.packing.proofs.clear_numbers.Reads as clear_numbers_reads
use Rattle.packing.specs.contracts.zero_bytes
use Rattle.packing.proofs.zero_bytes.Reads as zero_bytes_reads
use Rattle.packing.specs.contracts.zero_numbers
use Rattle.packing.proofs.zero_numbers.Reads as zero_numbers_reads
use Rattle.packing.specs.contracts.same_bytes
use Rattle.packing.proofs.same_bytes.Reads as same_bytes_reads
use Rattle.copying.specs.contracts.put_bytes
use Rattle.copying.proofs.put_bytes.Reads as put_bytes_reads
use Rattle.copying.specs.contracts.move_down
use Rattle.copying.proofs.move_down.Reads as move_down_reads
use Rattle.copying.specs.contracts.put_two
use Rattle.copying.proofs.put_two.Reads as put_two_reads
use Rattle.copying.specs.contracts.put_three
use Rattle.copying.proofs.put_three.Reads as put_three_reads
use Rattle.book_rooms.specs.contracts.has_row
use Rattle.book_rooms.proofs.has_row.Reads as has_row_reads
use Rattle.book_rooms.specs.contracts.has_edit
use Rattle.book_rooms.proofs.has_edit.Reads as has_edit_reads
use Rattle.book_rooms.specs.contracts.pool_end
use Rattle.book_rooms.proofs.pool_end.Reads as pool_end_reads
use Rattle.book_rooms.specs.contracts.put_token
use Rattle.book_rooms.proofs.put_token.Reads as put_token_reads
use Rattle.printing.specs.contracts.put_number
use Rattle.printing.proofs.put_number.Reads as put_number_reads
use Rattle.printing.specs.contracts.put_text
use Rattle.printing.proofs.put_text.Reads as put_text_reads
use Rattle.printing.specs.contracts.put_refused_fields
use Rattle.printing.proofs.put_refused_fields.Reads as put_refused_fields_reads
use Rattle.printing.specs.contracts.put_refused_line
use Rattle.printing.proofs.put_refused_line.Reads as put_refused_line_reads
use Rattle.printing.specs.contracts.put_spaced
use Rattle.printing.proofs.put_spaced.Reads as put_spaced_reads
use Rattle.printing.specs.contracts.put_numbered
use Rattle.printing.proofs.put_numbered.Reads as put_numbered_reads
use Rattle.printing.specs.contracts.put_refused_answer
use Rattle.printing.proofs.put_refused_answer.Reads as put_refused_answer_reads

-- ---- packing
pub clear_bytes_unique : Unique clear_bytes.ended clear_bytes_reads.Post
clear_bytes_unique κs a x y v w p q = (refl, λ i. same p q i ▹ tt)

pub clear_numbers_unique : Unique clear_numbers.ended clear_numbers_reads.Post
clear_numbers_unique κs a x y v w p q = (refl, λ i. same p q i ▹ tt)

pub zero_bytes_unique : Unique zero_bytes.ended zero_bytes_reads.Post
zero_bytes_unique κs a x y v w p q = (same p q, refl)

pub zero_numbers_unique : Unique zero_numbers.ended zero_numbers_reads.Post
zero_numbers_unique κs a x y v w p q = (same p q, refl)

pub same_bytes_unique : Unique same_bytes.ended same_bytes_reads.Post
same_bytes_unique κs a x y v w p q = (same p q, refl)

-- ---- copying
pub put_bytes_unique : Unique put_bytes.ended put_bytes_reads.Post
put_bytes_unique κs a x y v w p q = (refl, λ i. same p q i ▹ tt ▹ tt ▹ tt)

pub move_down_unique : Unique move_down.ended move_down_reads.Post
move_down_unique κs a x y v w p q = (refl, λ i. same p q i ▹ tt ▹ tt ▹ tt ▹ tt)

pub put_two_unique : Unique put_two.ended put_two_reads.Post
put_two_unique κs a x y v w p q = (refl, λ i. same p q i ▹ tt ▹ tt ▹ tt ▹ tt)

pub put_three_unique : Unique put_three.ended put_three_reads.Post
put_three_unique κs a x y v w p q = (refl, λ i. same p q i ▹ tt ▹ tt ▹ tt ▹ tt ▹ tt)

-- ---- book_rooms
pub has_row_unique : Unique has_row.ended has_row_reads.Post
has_row_unique κs a x y v w p q = (same p q, refl)

pub has_edit_unique : Unique has_edit.ended has_edit_reads.Post
has_edit_unique κs a x y v w p q = (same p q, refl)

pub pool_end_unique : Unique pool_end.ended pool_end_reads.Post
pool_end_unique κs a x y v w p q = (same p q, refl)

pub put_token_unique : Unique put_token.ended put_token_reads.Post
put_token_unique κs a x y v w p q = (same p.0 q.0, λ i. tt ▹ tt ▹ tt ▹ same p.1 q.1 i ▹ tt)

-- ---- printing
pub put_number_unique : Unique put_number.ended put_number_reads.Post
put_number_unique κs a x y v w p q = (same p.0 q.0, λ i. same p.1 q.1 i ▹ tt ▹ tt ▹ tt)

pub put_text_unique : Unique put_text.ended put_text_reads.Post
put_text_unique κs a x y v w p q = (same p.0 q.0, λ i. same p.1 q.1 i ▹ tt ▹ tt ▹ tt)

pub put_refused_fields_unique : Unique put_refused_fields.ended put_refused_fields_reads.Post
put_refused_fields_unique κs a x y v w p q = (same p.0 q.0, λ i. same p.1 q.1 i ▹ tt ▹ tt ▹ tt)

pub put_refused_line_unique : Unique put_refused_line.ended put_refused_line_reads.Post
put_refused_line_unique κs a x y v w p q = (same p.0 q.0, λ i. same p.1 q.1 i ▹ tt ▹ tt)

pub put_spaced_unique : Unique put_spaced.ended put_spaced_reads.Post
put_spaced_unique κs a x y v w p q = (same p.0 q.0, λ i. same p.1 q.1 i ▹ tt ▹ tt ▹ tt ▹ tt)

pub put_numbered_unique : Unique put_numbered.ended put_numbered_reads.Post
put_numbered_unique κs a x y v w p q = (same p.0 q.0, λ i. same p.1 q.1 i ▹ tt ▹ tt ▹ tt)

pub put_refused_answer_unique : Unique put_refused_answer.ended put_refused_answer_reads.Post
put_refused_answer_unique κs a x y v w p q = (same p.0 q.0, λ i. same p.1 q.1 i ▹ tt ▹ tt)
