-- `values::shaped_values::value_at` meets its contract: the sum of what the first k distances give, which fits 64 bits.
use Prim.Native.Nat.{◌-◌}
use lib.ListN.{get_or}
use Rattle.base.specs.Tests.{pick}
use Rattle.kernels.proofs.Sums.{Mixing}
use Rattle.values.specs.shaped_values.Rows.{between}
use Rattle.values.proofs.shaped_values.value_at.Given as goal

abbrev pub invariant-loop-k : goal.invariant-loop-k
invariant-loop-k l =
    Mixing l.n l.weights (λ i. pick (between (get_or l.firsts i 0) (get_or l.ends i 0) l.component) (get_or l.memory (l.cell - get_or l.backs i 0) 0) l.boundary) (get_or l.source l.from 0)
    l.total l.k

abbrev pub decreases-loop-k : goal.decreases-loop-k
decreases-loop-k l = l.n - l.k
