-- `inner::put_owners` meets its contract: the rows passed.
use Rattle.std.specs.Prelude.{◌-◌, ◌*◌, ◌≤◌}
use Rattle.plan.specs.declared.Route.TheVariants.{Direct}
use Rattle.plan.specs.Shaped.{plan_of}
use Rattle.base.proofs.Stored as stored
use Rattle.transport.specs.Calls.{owner_of}
use Rattle.transport.proofs.inner.put_owners.Given as goal

abbrev pub invariant-loop-q : goal.invariant-loop-q
invariant-loop-q l = (l.q ≤ l.rows) × stored.Stored (owner_of (plan_of Direct l.layout.nest)) l.initial.out l.out (l.q * l.width)

abbrev pub decreases-loop-q : goal.decreases-loop-q
decreases-loop-q l = l.rows - l.q
