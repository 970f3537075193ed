-- `kernels::store` meets its contract: the sum of the first k taps.
use Prim.Native.Nat.{◌-◌}
use Rattle.kernels.proofs.Sums.{Summing}
use Rattle.kernels.proofs.store.Given as goal

abbrev pub invariant-loop-k : goal.invariant-loop-k
invariant-loop-k g l = Summing g.row.N l.backs l.weights l.rule.outside l.source l.memory l.c l.total l.k

abbrev pub decreases-loop-k : goal.decreases-loop-k
decreases-loop-k g l = g.row.N - l.k
