-- `soundings::copy` meets its contract: the words passed are the depths.
use Prim.Native.Nat.{◌-◌}
use lib.ListN.{length}
use Rattle.soundings.proofs.Sifting as S
use Rattle.soundings.proofs.copy.Given as goal

abbrev pub invariant-loop-c : goal.invariant-loop-c
invariant-loop-c l = S.Copying l.best l.initial.source l.source l.c

abbrev pub decreases-loop-c : goal.decreases-loop-c
decreases-loop-c l = length l.initial.source - l.c
