-- `contains` meets its contract, by the laws of Members. Assumes nothing.
use Rattle.std.proofs.Common.{ap, not}
use Rattle.std.proofs.lemmas.Result.{err_from_is_err_and}
use Rattle.export_list.proofs.Members.{list-no_book, list_other_kind, list-no_name, asks_match, list-told}
use Rattle.export_list.proofs.lookups.contains.Goals as goal

pub returns-then-not-is_book : goal.returns-then-not-is_book
returns-then-not-is_book c = search list-no_book

pub returns-then-c-ne-EXPORT : goal.returns-then-c-ne-EXPORT
returns-then-c-ne-EXPORT c = search list_other_kind

pub returns-in_err-name_refusal : goal.returns-in_err-name_refusal
returns-in_err-name_refusal c =
    let p = err_from_is_err_and c.from_residual.result c.from_residual.ensures.1 in
    rw (p.1, p.2) (list-no_name _ _ _ _ _ _ _ _ _ c.is_book.ensures (ap not c.if-not-is_book.false) c.if-c-ne-EXPORT.false
    _ c.name_refusal.ensures _ c.in_err-name_refusal.was)

pub find_match-decider-requires : goal.find_match-decider-requires
find_match-decider-requires c =
    asks_match _ _ _ _ _ _ _ _ _ c.is_book.ensures (ap not c.if-not-is_book.false) c.if-c-ne-EXPORT.false
    _ c.name_refusal.ensures _ c.in_ok-name_refusal.was _ c.frame_of.ensures

pub returns : goal.returns
returns c =
    list-told _ _ _ _ _ _ _ _ _ c.is_book.ensures (ap not c.if-not-is_book.false) c.if-c-ne-EXPORT.false
    _ c.name_refusal.ensures _ c.in_ok-name_refusal.was _ c.frame_of.ensures
    _ c.find_match-decider.ensures _ c.is_some.ensures
