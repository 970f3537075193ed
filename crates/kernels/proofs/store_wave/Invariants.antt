-- `kernels::store_wave` meets its contract: the first y columns are stored.
use Prim.Native.Nat.{◌-◌}
use Rattle.kernels.specs.Taps.{made}
use Rattle.kernels.proofs.Sums.{Waving}
use Rattle.kernels.proofs.store_wave.Given as goal

abbrev pub invariant-loop-y : goal.invariant-loop-y
invariant-loop-y g l = Waving (made g.row.N l.backs l.weights l.rule.outside l.rule.shift l.source) l.initial.memory l.memory l.a l.t l.width l.y

abbrev pub decreases-loop-y : goal.decreases-loop-y
decreases-loop-y g l = l.width - l.y
