-- `script_end` meets its contract. Assumes nothing.
use Rattle.printing_listing.proofs.Inputs.{all_script, script_before}
use Rattle.printing_listing.proofs.script_end.Goals as goal

pub returns-in-None : goal.returns-in-None
returns-in-None c = all_script c.args.text.now _ c.find_mark.ensures c.in-None.is

pub returns-in-Some : goal.returns-in-Some
returns-in-Some c = script_before c.args.text.now _ c.find_mark.ensures _ c.in-Some.is
