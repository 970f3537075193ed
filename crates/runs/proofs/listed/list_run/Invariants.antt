-- `list_run` meets its contract: the first y cells are listed.
use Prim.Native.Nat.{◌-◌}
use Rattle.base.proofs.Copies.{Copies}
use Rattle.runs.specs.listed.Numbers.{numbers}
use Rattle.runs.proofs.listed.list_run.Given as goal

abbrev pub invariant-loop-y : goal.invariant-loop-y
invariant-loop-y l = Copies l.initial.cells numbers l.at l.first l.n l.cells l.y

abbrev pub decreases-loop-y : goal.decreases-loop-y
decreases-loop-y l = l.n - l.y
