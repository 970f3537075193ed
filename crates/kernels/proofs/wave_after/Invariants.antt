-- `kernels::wave_after` meets its contract: the first y columns are stored, and the last of them is at hand.
use Prim.Native.Nat.{◌+◌, ◌-◌}
use mathlib.Core.List.{[], ◌∷◌}
use Rattle.kernels.specs.Taps.{made, Stands}
use Rattle.kernels.proofs.Sums.{Waving}
use Rattle.kernels.proofs.wave_after.Given as goal

abbrev pub invariant-loop-y : goal.invariant-loop-y
invariant-loop-y l = Waving (made 1 (l.p.back ∷ []) (l.p.weight ∷ []) l.rule.outside l.rule.shift l.source) l.initial.memory l.memory l.a l.t l.width l.y × Stands l.memory (l.a + l.y - 1) l.t l.last

abbrev pub decreases-loop-y : goal.decreases-loop-y
decreases-loop-y l = l.width - l.y
