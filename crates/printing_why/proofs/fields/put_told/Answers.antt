-- `put_told` meets its contract, answer by answer. Assumes nothing.
use native.Mathlib.Omega.{arith}
use Rattle.lists.specs.Texts.{codes}
use Rattle.packing.specs.Tables.{things}
use Rattle.book.specs.Layout.{node_form}
use Rattle.printing_why.proofs.NamedNodes.{name-short, node-lies, node-named}
use Rattle.printing_why.proofs.WhyExits.{line-put, none_put, wanted-put}
use Rattle.printing_why.proofs.fields.put_told.Goals as goal

pub node_name-requires : goal.node_name-requires
node_name-requires c =
    let a = c.args in
    node-lies a.n a.m a.nodes.now a.names.now c.requires.0 _ (omega (arith, c.requires.2 _ c.in-Line.is))

pub put_line-requires : goal.put_line-requires
put_line-requires c =
    let a = c.args in
    let k = c.requires.2 _ c.in-Line.is in
    omega (arith, c.requires.1, name-short a.n a.m a.nodes.now a.names.now c.requires.0 _ k _ c.node_name.ensures)

pub returns-in-Line : goal.returns-in-Line
returns-in-Line c =
    let a = c.args in
    let k = c.requires.2 _ c.in-Line.is in
    line-put a.out.now a.text.now (things node_form a.n a.nodes.now a.names.now) a.name.now c.in-Line.is _
    (node-named a.n a.m a.nodes.now a.names.now c.requires.0 _ k _ c.node_name.ensures) c.put_line.ensures

pub returns-in-NoLine : goal.returns-in-NoLine
unfolding codes
returns-in-NoLine c =
    let a = c.args in
    none_put a.out.now a.text.now (things node_form a.n a.nodes.now a.names.now) a.name.now c.in-NoLine.is
    c.put_answer.ensures

pub returns-in-Wanted : goal.returns-in-Wanted
unfolding codes
returns-in-Wanted c =
    let a = c.args in
    wanted-put a.out.now a.text.now (things node_form a.n a.nodes.now a.names.now) a.name.now c.in-Wanted.is
    c.put_answer-in-Wanted.ensures
