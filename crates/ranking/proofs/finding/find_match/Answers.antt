-- `find_match` meets its contract. The loop's invariant: `line` leads among the lines that are passed, and `best` is its rank. Assumes nothing.
use Prim.Native.Nat.{◌≤◌, ◌<◌}
use native.Mathlib.Omega.{arith}
use borrow.Author.Rules.{rules}
use Rattle.book.proofs.LineRows.{row-code, row-node}
use Rattle.ranking.proofs.Leading.{seek_starts, seek_row, seek_lies, seek_short, seek_behind, seek_better, seek_other, seek_ends}
use Rattle.ranking.proofs.finding.find_match.Goals.{then-line_matches, else-line_matches}
use Rattle.ranking.proofs.finding.find_match.Goals as goal

pub loop-i-init : goal.loop-i-init
loop-i-init c = search seek_starts

pub rank_of-rank-requires : goal.rank_of-rank-requires
rank_of-rank-requires c = let r = seek_row c.loop-i.invariant c.loop-i-test.true in (search rules, row-node r, row-code r)

pub loop-i-preserved-then-best-rank : goal.loop-i-preserved-then-best-rank
loop-i-preserved-then-best-rank c =
    let w : c.loop-i.best ≤ c.rank_of-rank.result = omega (arith, c.if-best-rank.true) in search (seek_behind, w)

pub line_bytes-requires : goal.line_bytes-requires
line_bytes-requires c = search seek_lies

pub line_matches-requires : goal.line_matches-requires
line_matches-requires c = (search seek_short, search rules, search rules)

pub loop-i-preserved : goal.loop-i-preserved
loop-i-preserved c = elim c.if-line_matches.branch [
  | then-line_matches w ↦
      let ahead : c.rank_of-rank.result < c.loop-i.best = omega (arith, c.if-best-rank.false) in
      let m = w.if-line_matches.true in
      rw (w.best-is, w.line-is) (search (seek_better, ahead, m))
  | else-line_matches w ↦ let m = w.if-line_matches.false in rw (w.best-is, w.line-is) (search (seek_other, m))
]

pub returns : goal.returns
returns c = search seek_ends
