-- `values::row_values::first_of` meets its contract: the first j components can be taken away.
use borrow.Author.Tests.{le-leb}
use Rattle.layout.proofs.Loops.{sofar_none, sofar_more}
use Rattle.values.proofs.row_values.Words.{first_stops, first_end}
use Rattle.values.proofs.row_values.first_of.Goals as goal

pub loop-j-init : goal.loop-j-init
loop-j-init c = sofar_none _ _

pub returns-then-at-j : goal.returns-then-at-j
returns-then-at-j c = λ x p. first_stops _ _ _ _ p.1.1 c.loop-j.j c.loop-j-test.true c.if-at-j.true

pub loop-j-preserved : goal.loop-j-preserved
loop-j-preserved c = sofar_more _ _ _ c.loop-j.invariant c.loop-j-test.true (le-leb _ _ c.if-at-j.false)

pub returns : goal.returns
returns c = λ x p. first_end _ _ _ _ p.1.1 _ c.loop-j.invariant c.loop-j-test.false
