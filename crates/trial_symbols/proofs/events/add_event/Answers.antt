-- `add_event` meets its contract, event by event. Assumes nothing.
use mathlib.Core.Path.{refl}
use native.Mathlib.Omega.{arith}
use Rattle.book.specs.Layout.{five}
use Rattle.book.specs.View.{book_of}
use Rattle.book.proofs.Views.{Layout, laid-packs}
use Rattle.trial.specs.Symbols.{add_event}
use Rattle.trial_symbols.proofs.AddedEvents.{adds-line, line-language, line-lies, unchanged}
use Rattle.trial_symbols.proofs.events.add_event.Goals as goal

pub overflow_add-end : goal.overflow_add-end
overflow_add-end c = omega (arith, line-lies c.in-Line.is c.args.s.now c.requires.2)

pub slice_bounds-append-end : goal.slice_bounds-append-end
slice_bounds-append-end c = omega (arith, line-lies c.in-Line.is c.args.s.now c.requires.2)

pub append-requires : goal.append-requires
append-requires c = (c.requires.0, c.requires.1, omega arith, omega (arith, line-language c.in-Line.is c.args.s.now c.requires.2))

pub returns-in-Node : goal.returns-in-Node
unfolding add_event
returns-in-Node c =
    let layout : Layout c.args.c (let a = c.args in five a.nodes.now a.names.now a.lines.now a.pool.now a.journal.now) (book_of c.args.c (let a = c.args in five a.nodes.now a.names.now a.lines.now a.pool.now a.journal.now)) = laid-packs c.args.c (let a = c.args in five a.nodes.now a.names.now a.lines.now a.pool.now a.journal.now) c.requires.0 in
    unchanged layout c.args.s.now c.in-Node.is refl

pub returns-in-Body : goal.returns-in-Body
unfolding add_event
returns-in-Body c =
    let layout : Layout c.args.c (let a = c.args in five a.nodes.now a.names.now a.lines.now a.pool.now a.journal.now) (book_of c.args.c (let a = c.args in five a.nodes.now a.names.now a.lines.now a.pool.now a.journal.now)) = laid-packs c.args.c (let a = c.args in five a.nodes.now a.names.now a.lines.now a.pool.now a.journal.now) c.requires.0 in
    unchanged layout c.args.s.now c.in-Body.is refl

pub returns-in-Section : goal.returns-in-Section
unfolding add_event
returns-in-Section c =
    let layout : Layout c.args.c (let a = c.args in five a.nodes.now a.names.now a.lines.now a.pool.now a.journal.now) (book_of c.args.c (let a = c.args in five a.nodes.now a.names.now a.lines.now a.pool.now a.journal.now)) = laid-packs c.args.c (let a = c.args in five a.nodes.now a.names.now a.lines.now a.pool.now a.journal.now) c.requires.0 in
    unchanged layout c.args.s.now c.in-Section.is refl

pub returns-in-Extern : goal.returns-in-Extern
unfolding add_event
returns-in-Extern c =
    let layout : Layout c.args.c (let a = c.args in five a.nodes.now a.names.now a.lines.now a.pool.now a.journal.now) (book_of c.args.c (let a = c.args in five a.nodes.now a.names.now a.lines.now a.pool.now a.journal.now)) = laid-packs c.args.c (let a = c.args in five a.nodes.now a.names.now a.lines.now a.pool.now a.journal.now) c.requires.0 in
    unchanged layout c.args.s.now c.in-Extern.is refl

pub returns-in-Closed : goal.returns-in-Closed
unfolding add_event
returns-in-Closed c =
    let layout : Layout c.args.c (let a = c.args in five a.nodes.now a.names.now a.lines.now a.pool.now a.journal.now) (book_of c.args.c (let a = c.args in five a.nodes.now a.names.now a.lines.now a.pool.now a.journal.now)) = laid-packs c.args.c (let a = c.args in five a.nodes.now a.names.now a.lines.now a.pool.now a.journal.now) c.requires.0 in
    unchanged layout c.args.s.now c.in-Closed.is refl

pub returns-in-Line : goal.returns-in-Line
returns-in-Line c =
    adds-line c.in-Line.is c.args.s.now c.args.c (let a = c.args in five a.nodes.now a.names.now a.lines.now a.pool.now a.journal.now) _ _ c.append.ensures

pub returns-in-Parent : goal.returns-in-Parent
unfolding add_event
returns-in-Parent c =
    let layout : Layout c.args.c (let a = c.args in five a.nodes.now a.names.now a.lines.now a.pool.now a.journal.now) (book_of c.args.c (let a = c.args in five a.nodes.now a.names.now a.lines.now a.pool.now a.journal.now)) = laid-packs c.args.c (let a = c.args in five a.nodes.now a.names.now a.lines.now a.pool.now a.journal.now) c.requires.0 in
    unchanged layout c.args.s.now c.in-Parent.is refl
