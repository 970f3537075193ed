-- `bands::edge_rows::edge` meets its contract: the first y cells are stored.
use Rattle.kernels.specs.Taps.{in_line}
use Rattle.kernels.proofs.Sums.{Rowing}
use Rattle.bands.proofs.edge_rows.edge.Given as goal

abbrev pub invariant-loop-y : goal.invariant-loop-y
invariant-loop-y l = Rowing (in_line l.n l.firsts l.backs l.weights l.boundary l.shift l.source l.cell l.component) l.initial.memory l.memory l.cell l.width l.y
