-- `extern_end` meets its contract. Assumes nothing.
use native.Mathlib.Omega.{arith}
use Rattle.reading_tokens.proofs.Enders.{extern-none_left, extern_at-once, extern-closed, extern-no_semicolon, extern-apart}
use Rattle.reading_tokens.proofs.extern_end.Goals as goal

pub returns-then-last-at : goal.returns-then-last-at
returns-then-last-at c = search extern-none_left

pub returns-then-q-at : goal.returns-then-q-at
returns-then-q-at c = extern_at-once _ _ _ _ c.requires c.if-last-at.false _ c.find.ensures _ c.in-Some.is (omega (arith, c.if-q-at.true))

pub returns-then-byte_at-eq125 : goal.returns-then-byte_at-eq125
returns-then-byte_at-eq125 c = search (extern-closed c.args.edition c.args.last c.args.s.now c.args.at c.requires)

pub returns-in-None : goal.returns-in-None
returns-in-None c = search extern-no_semicolon

pub returns-else-byte_at-eq125 : goal.returns-else-byte_at-eq125
returns-else-byte_at-eq125 c = search extern-apart
