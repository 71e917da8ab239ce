-- `next_event` meets its contract. Assumes nothing.
use Rattle.reading_bodies.proofs.Deciding.{ways}
use Rattle.reading.specs.Scripts.{step_at, start_script, go_node, go_body, go_sole, go_list}
use Rattle.reading.proofs.Placing.{at_place}
use Rattle.reading.proofs.scripts.next_event.Goals as goal

pub returns-in_err-skip_at-in-InList : goal.returns-in_err-skip_at-in-InList
unfolding step_at start_script go_node go_body go_sole go_list
returns-in_err-skip_at-in-InList c = search (ways, at_place)

pub returns-in_err-skip_at-in-InSole : goal.returns-in_err-skip_at-in-InSole
unfolding step_at start_script go_node go_body go_sole go_list
returns-in_err-skip_at-in-InSole c = search (ways, at_place)

pub returns-in_err-skip_at-in-InBody : goal.returns-in_err-skip_at-in-InBody
unfolding step_at start_script go_node go_body go_sole go_list
returns-in_err-skip_at-in-InBody c = search (ways, at_place)

pub returns-in_err-skip_at-in-AtNode : goal.returns-in_err-skip_at-in-AtNode
unfolding step_at start_script go_node go_body go_sole go_list
returns-in_err-skip_at-in-AtNode c = search (ways, at_place)

pub returns-in_err-skip_at-in-AtScript-2 : goal.returns-in_err-skip_at-in-AtScript-2
unfolding step_at start_script go_node go_body go_sole go_list
returns-in_err-skip_at-in-AtScript-2 c = search (ways, at_place)

pub returns-in-AtScript : goal.returns-in-AtScript
unfolding step_at start_script go_node go_body go_sole go_list
returns-in-AtScript c = search (ways, at_place)

pub returns-in-AtSymbol : goal.returns-in-AtSymbol
unfolding step_at start_script go_node go_body go_sole go_list
returns-in-AtSymbol c = search (ways, at_place)

pub returns-in-AtSymbol-2 : goal.returns-in-AtSymbol-2
unfolding step_at start_script go_node go_body go_sole go_list
returns-in-AtSymbol-2 c = search (ways, at_place)

pub returns-in-AtBare : goal.returns-in-AtBare
unfolding step_at start_script go_node go_body go_sole go_list
returns-in-AtBare c = search (ways, at_place)

pub returns-in-BehindSymbol-2 : goal.returns-in-BehindSymbol-2
unfolding step_at start_script go_node go_body go_sole go_list
returns-in-BehindSymbol-2 c = search (ways, at_place)

pub returns-in-InBareExtern : goal.returns-in-InBareExtern
unfolding step_at start_script go_node go_body go_sole go_list
returns-in-InBareExtern c = search (ways, at_place)

pub returns-in-InSymbolExtern : goal.returns-in-InSymbolExtern
unfolding step_at start_script go_node go_body go_sole go_list
returns-in-InSymbolExtern c = search (ways, at_place)

pub returns-in-InListExtern : goal.returns-in-InListExtern
unfolding step_at start_script go_node go_body go_sole go_list
returns-in-InListExtern c = search (ways, at_place)

pub returns-in_ok-skip_at-in-InList : goal.returns-in_ok-skip_at-in-InList
unfolding step_at start_script go_node go_body go_sole go_list
returns-in_ok-skip_at-in-InList c = search (ways, at_place)

pub returns-in-AtList : goal.returns-in-AtList
unfolding step_at start_script go_node go_body go_sole go_list
returns-in-AtList c = search (ways, at_place)

pub returns-in-InSoleExtern : goal.returns-in-InSoleExtern
unfolding step_at start_script go_node go_body go_sole go_list
returns-in-InSoleExtern c = search (ways, at_place)

pub returns-in_ok-skip_at-in-InSole : goal.returns-in_ok-skip_at-in-InSole
unfolding step_at start_script go_node go_body go_sole go_list
returns-in_ok-skip_at-in-InSole c = search (ways, at_place)

pub returns-in-InBodyExtern : goal.returns-in-InBodyExtern
unfolding step_at start_script go_node go_body go_sole go_list
returns-in-InBodyExtern c = search (ways, at_place)

pub returns-in_ok-skip_at-in-InBody : goal.returns-in_ok-skip_at-in-InBody
unfolding step_at start_script go_node go_body go_sole go_list
returns-in_ok-skip_at-in-InBody c = search (ways, at_place)

pub returns-in-AtBody : goal.returns-in-AtBody
unfolding step_at start_script go_node go_body go_sole go_list
returns-in-AtBody c = search (ways, at_place)

pub returns-in_ok-skip_at-in-AtNode : goal.returns-in_ok-skip_at-in-AtNode
unfolding step_at start_script go_node go_body go_sole go_list
returns-in_ok-skip_at-in-AtNode c = search (ways, at_place)

pub returns-in_ok-skip_at-in-AtScript-2 : goal.returns-in_ok-skip_at-in-AtScript-2
unfolding step_at start_script go_node go_body go_sole go_list
returns-in_ok-skip_at-in-AtScript-2 c = search (ways, at_place)
