-- `soundings::sift` meets its contract: the records passed name cells of the box, and are noted.
use Prim.Native.Nat.{◌-◌}
use Rattle.soundings.specs.Sifting.{depth_in}
use Rattle.soundings.proofs.Sifting as S
use Rattle.soundings.proofs.sift.Given as goal

abbrev pub invariant-loop-r : goal.invariant-loop-r
invariant-loop-r l = S.Sifting l.size l.file (depth_in l.initial.best) l.best l.r

abbrev pub decreases-loop-r : goal.decreases-loop-r
decreases-loop-r l = l.n - l.r
