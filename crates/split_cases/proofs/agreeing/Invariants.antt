-- What is counted up stays below the component.
use Rattle.std.proofs.Common.{◌≤◌}
use Rattle.split_cases.proofs.agreeing.Given as goal

abbrev pub invariant-loop-component : goal.invariant-loop-component
invariant-loop-component l = (l.component ≤ 1024) × ((l.tile ≤ l.component) × ((l.rest ≤ l.component) × (l.n ≤ l.component)))
