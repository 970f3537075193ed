-- `soundings::set_out` meets its contract: the cells passed have the value, and no key.
use Prim.Native.Nat.{◌-◌}
use Rattle.soundings.proofs.Sifting as S
use Rattle.soundings.proofs.set_out.Given as goal

abbrev pub invariant-loop-c : goal.invariant-loop-c
invariant-loop-c l = S.SettingOut l.value l.size l.best l.c

abbrev pub decreases-loop-c : goal.decreases-loop-c
decreases-loop-c l = l.size - l.c
