-- `undo_latest` meets its contract, by the laws of Told. Assumes nothing.
use Rattle.trial_undo.proofs.Told.{told-done, told-refused}
use Rattle.trial_undo.proofs.undo_latest.Goals as goal

pub returns-then-u-ne0 : goal.returns-then-u-ne0
returns-then-u-ne0 c = search told-refused

pub returns : goal.returns
returns c = search told-done
