-- `bands::edge_rows::mixed_at` meets its contract: the sum of the first k taps, which fits 64 bits.
use Prim.Native.Nat.{◌-◌}
use lib.ListN.{get_or}
use lib.Dec.{leb}
use Rattle.base.specs.Tests.{pick}
use Rattle.kernels.proofs.Sums.{Mixing}
use Rattle.bands.proofs.edge_rows.mixed_at.Given as goal

abbrev pub invariant-loop-k : goal.invariant-loop-k
invariant-loop-k l = Mixing l.n l.weights (λ i. pick (leb (get_or l.firsts i 0) l.component) (get_or l.memory (l.cell - get_or l.backs i 0) 0) l.boundary) (get_or l.source l.cell 0) l.total l.k
