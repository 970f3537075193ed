-- `parcels::beyond_last` meets its contract: none of the first j components is beyond.
use mathlib.Core.Path.{sym}
use borrow.Author.Tests.{le-leb, lt-leb}
use Rattle.base.proofs.Tests.{some_one}
use Rattle.layout.proofs.Loops.{nowhere_none, nowhere_more, nowhere_end}
use Rattle.parcels.proofs.beyond_last.Goals as goal

pub loop-j-init : goal.loop-j-init
loop-j-init c = nowhere_none _ _

pub returns-then-at-j : goal.returns-then-at-j
returns-then-at-j c = sym (some_one _ _ c.loop-j.j c.loop-j-test.true (le-leb _ _ c.if-at-j.true))

pub loop-j-preserved : goal.loop-j-preserved
loop-j-preserved c = nowhere_more _ _ _ c.loop-j.invariant c.loop-j-test.true (lt-leb _ _ c.if-at-j.false)

pub returns : goal.returns
returns c = sym (nowhere_end _ _ _ c.loop-j.invariant c.loop-j-test.false)
