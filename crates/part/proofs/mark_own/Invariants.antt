-- `mark_own` meets its contract: rows with one processor, one after the other.
use Prim.Native.Nat.{◌*◌, ◌-◌, ◌≤◌}
use Rattle.plan.specs.Shaped.{plan_of}
use Rattle.part.specs.Marking.{row_cells}
use Rattle.part.proofs.Owned as owned
use Rattle.part.proofs.mark_own.Given as goal

abbrev pub invariant-loop-q : goal.invariant-loop-q
invariant-loop-q l = (l.q ≤ l.rows) × owned.OwnTo (plan_of l.layout.sizes.route l.layout.nest) l.b l.marks (l.q * row_cells l.layout.nest)

abbrev pub decreases-loop-q : goal.decreases-loop-q
decreases-loop-q l = l.rows - l.q
