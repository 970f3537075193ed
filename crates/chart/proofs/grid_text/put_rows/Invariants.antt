use Rattle.nest.specs.Shape.{in_shape}
use Prim.Native.Nat.{◌≤◌, ◌*◌, ◌-◌}
use mathlib.Core.Path.{◌≡◌}
use Rattle.text.specs.Grid.{rows_from}
use Rattle.text.proofs.Steps.{Going}
use Rattle.chart.proofs.grid_text.put_rows.Given as goal

abbrev pub invariant-loop-i : goal.invariant-loop-i
invariant-loop-i l = (l.i ≤ l.k) × ((l.c ≡ l.i * l.n) × Going l.initial.space l.at (rows_from l.grid (in_shape l.nest) l.n 0 l.k) l.space l.place (rows_from l.grid (in_shape l.nest) l.n l.c (l.k - l.i)))

abbrev pub decreases-loop-i : goal.decreases-loop-i
decreases-loop-i l = l.k - l.i
