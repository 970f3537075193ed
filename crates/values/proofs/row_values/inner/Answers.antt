-- `values::row_values::inner` meets its contract: the first j dimensions pass.
use mathlib.Core.Path.{sym}
use borrow.Author.Tests.{le-leb, lt-leb}
use Rattle.base.proofs.Tests.{every_not}
use Rattle.layout.proofs.Loops.{sofar_none, sofar_more, sofar_end}
use Rattle.values.proofs.row_values.inner.Goals as goal

pub loop-j-init : goal.loop-j-init
loop-j-init c = sofar_none _ _

pub returns-then-at-j : goal.returns-then-at-j
returns-then-at-j c = sym (every_not _ _ c.loop-j.j c.loop-j-test.true (lt-leb _ _ c.if-at-j.true))

pub loop-j-preserved : goal.loop-j-preserved
loop-j-preserved c = sofar_more _ _ _ c.loop-j.invariant c.loop-j-test.true (le-leb _ _ c.if-at-j.false)

pub returns : goal.returns
returns c = sym (sofar_end _ _ _ c.loop-j.invariant c.loop-j-test.false)
