-- `put_buffer` meets its contract. Assumes nothing.
use Prim.Native.Nat.{◌+◌, ◌≤◌}
use lib.ListN.{length}
use native.Mathlib.Omega.{arith}
use Rattle.printing_book.proofs.Numbers.{buffer_put, all_numbers}
use Rattle.printing_book.specs.Shown.{numbers_shown}
use Rattle.printing_book.proofs.dump.put_buffer.Goals as goal

pub put_numbers-b-requires : goal.put_numbers-b-requires
put_numbers-b-requires c = omega (arith, c.requires)

pub put_text-requires : goal.put_text-requires
put_text-requires c =
    let a = c.args in
    let f = all_numbers a.l.now in
    omega (arith, c.requires)

pub returns : goal.returns
returns c =
    let a = c.args in
    let f = all_numbers a.l.now in
    let p = c.put_text-a in
    let q = c.put_numbers-b in
    let s = c.put_text in
    let room : a.at + length a.word.now + length (numbers_shown a.l.now) + 1 ≤ length a.out.now = omega
    (arith, c.requires) in
    buffer_put a.out.now a.at a.word.now a.l.now room p.ensures q.ensures s.ensures
