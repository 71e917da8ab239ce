-- `put_pair` meets its contract. Assumes nothing.
use native.Mathlib.Omega.{arith}
use Rattle.printing_book.proofs.ShownDump.{pair_put}
use Rattle.printing_book.proofs.Numbers.{all_buffer}
use Rattle.printing_book.proofs.dump.put_pair.Goals as goal

pub put_byte_buffer-requires : goal.put_byte_buffer-requires
put_byte_buffer-requires c =
    let a = c.args in
    let f = all_buffer a.word.now 0 a.l.now in
    omega (arith, c.requires)

pub returns : goal.returns
returns c =
    let a = c.args in
    pair_put a.out.now a.at a.word.now a.l.now a.second.now a.bytes.now c.requires c.shared_slice_known-4-1.given c.put_buffer-end.ensures
    c.put_byte_buffer.ensures
