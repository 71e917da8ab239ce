-- `refusal_without_row` meets its contract: `store_token` has no room at all. Assumes nothing.
use Rattle.trial_add.proofs.Appending.{unplaced-refused, unplaced-stored}
use Rattle.trial_add.proofs.adding.refusal_without_row.Goals as goal

pub returns-in-Err : goal.returns-in-Err
returns-in-Err c =
    let a = c.args in
    unplaced-refused c.edition_of.result a.frame a.token.now c.edition_of.ensures
    c.store_token.result c.store_token.ensures.0 _ c.in-Err.is _ c.number.ensures

pub returns-in-Ok : goal.returns-in-Ok
returns-in-Ok c =
    let a = c.args in
    unplaced-stored c.edition_of.result a.frame a.token.now c.edition_of.ensures
    c.store_token.result c.store_token.ensures.0 _ c.in-Ok.is
