-- `parcels::leaves` meets its contract: none of the first j steps comes to another processor.
use mathlib.Core.Path.{sym, ◌∙◌}
use Rattle.base.proofs.Tests.{some_one}
use Rattle.layout.proofs.Loops.{nowhere_none, nowhere_more, nowhere_end}
use Rattle.parcels.proofs.leaves.Goals as goal

pub loop-j-init : goal.loop-j-init
loop-j-init c = nowhere_none _ _

pub returns-then-hops : goal.returns-then-hops
returns-then-hops c = sym (some_one _ _ c.loop-j.j c.loop-j-test.true (sym c.hops.ensures ∙ c.if-hops.true))

pub loop-j-preserved : goal.loop-j-preserved
loop-j-preserved c = nowhere_more _ _ _ c.loop-j.invariant c.loop-j-test.true (sym c.hops.ensures ∙ c.if-hops.false)

pub returns : goal.returns
returns c = sym (nowhere_end _ _ _ c.loop-j.invariant c.loop-j-test.false)
