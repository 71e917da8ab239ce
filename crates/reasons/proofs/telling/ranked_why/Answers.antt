-- `ranked_why` meets its contract, by the laws of Tellings. Assumes nothing.
use native.Mathlib.Omega.{arith}
use Rattle.reasons.proofs.Tellings.{ranked-asks, ranked-line, ranked_none}
use Rattle.reasons.proofs.telling.ranked_why.Goals as goal

pub find_match-requires : goal.find_match-requires
find_match-requires c =
    let p = c.requires in
    rw c.frame_of.ensures (p.0, p.1, omega (arith, p.2, p.3), omega (arith, p.2, p.3))

pub line_reason-requires : goal.line_reason-requires
line_reason-requires c =
    ranked-asks _ _ _ _ _ _ _ c.requires.0 _ c.frame_of.ensures
    _ c.find_match.ensures _ c.in-Some.is c.requires.4

pub returns-in-None : goal.returns-in-None
returns-in-None c = search ranked_none

pub returns-in-Some : goal.returns-in-Some
returns-in-Some c = search ranked-line
