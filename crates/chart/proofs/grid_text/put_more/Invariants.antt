use Rattle.nest.specs.Spans.{within}
use Prim.Native.Nat.{◌+◌, ◌≤◌, ◌-◌}
use Rattle.text.specs.Grid.{more}
use Rattle.text.proofs.Steps.{Going}
use Rattle.chart.proofs.grid_text.put_more.Given as goal

abbrev pub invariant-loop-j : goal.invariant-loop-j
invariant-loop-j l = (l.j ≤ l.n) × Going l.initial.space l.at (more l.grid (within l.s) l.c l.n) l.space l.place (more l.grid (within l.s) (l.c + l.j) (l.n - l.j))

abbrev pub decreases-loop-j : goal.decreases-loop-j
decreases-loop-j l = l.n - l.j
