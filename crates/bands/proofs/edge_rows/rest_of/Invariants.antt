-- `bands::edge_rows::rest_of` meets its contract: the first k taps.
use Rattle.kernels.proofs.Sums.{Resting}
use Rattle.bands.proofs.edge_rows.rest_of.Given as goal

abbrev pub invariant-loop-k : goal.invariant-loop-k
invariant-loop-k l = Resting l.n l.firsts l.backs l.weights l.boundary l.left_backs l.left_weights l.outside l.k
