-- `line_to` meets its contract. Assumes nothing.
use borrow.Author.Rules.{rules}
use Rattle.reading_matchers.proofs.Exits.{line_refused, line-open, line-goes}
use Rattle.reading_matchers.proofs.line_to.Goals as goal

pub returns-in_err-q : goal.returns-in_err-q
returns-in_err-q c = search (rules, line_refused)

pub returns-in_err-r : goal.returns-in_err-r
returns-in_err-r c = search (rules, line-open c.args.c c.args.s.now c.args.place c.args.p c.args.end _ c.token_end.ensures _ c.in_ok-q.was _ c.skip_at.ensures)

pub returns : goal.returns
returns c =
    let a = c.args in
    line-goes a.c a.s.now a.place a.p a.end _ c.token_end.ensures _ c.in_ok-q.was _ c.skip_at.ensures _ c.in_ok-r.was _ c.line_of.ensures _ c.past_semicolon.ensures _ c.move_to-next.ensures
