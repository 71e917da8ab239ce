-- The known histories hold of the definitions: each side computes to the other. Assumes nothing.
use Rattle.known_points.proofs.Computing.{computing}
use Rattle.histories.specs.Histories.{answer, change, edits_left, history, lent_after, line_events, run, undos}
use Rattle.histories.specs.Demand.{all_room, lines_kept}
use Rattle.histories.specs.KnownHistories.{KnownHistories, numbers}

pub known_histories : KnownHistories
unfolding computing answer change history lent_after run numbers edits_left line_events undos lines_kept all_room
known_histories = record {
  haze_struck = record { month = search; day = search; other = search; done = search; struck = search; undone = search; back = search };
  added = search;
  demangled = search;
  number_again = search;
  settled = record { done = search; new = search; dropped = search; left = search; no_edit = search; renumbered = search };
  nothing_struck = search;
  rust = search;
  refusals = search;
  symbols = search;
  all_or_none = search;
  without_semicolon = search;
  left_to_undo = search;
  rooms_for_all = search;
}
