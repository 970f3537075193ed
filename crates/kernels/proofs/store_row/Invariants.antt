-- `kernels::store_row` meets its contract: the first y cells are stored.
use Prim.Native.Nat.{◌-◌}
use Rattle.kernels.specs.Taps.{made}
use Rattle.kernels.proofs.Sums.{Rowing}
use Rattle.kernels.proofs.store_row.Given as goal

abbrev pub invariant-loop-y : goal.invariant-loop-y
invariant-loop-y g l = Rowing (made g.row.N l.backs l.weights l.rule.outside l.rule.shift l.source) l.initial.memory l.memory l.cell l.width l.y

abbrev pub decreases-loop-y : goal.decreases-loop-y
decreases-loop-y g l = l.width - l.y
