-- `layout::remainders` meets its contract: the array is filled from its start.
use Prim.Native.Nat.{◌%◌}
use lib.ListN.{get_or}
use Rattle.layout.proofs.Loops.{Filled}
use Rattle.layout.proofs.Layout.remainders.Given as goal

abbrev pub invariant-loop-j : goal.invariant-loop-j
invariant-loop-j l = Filled 4 (λ i. get_or l.at i 0 % get_or l.self.nest.counts i 0) l.self.nest.spread l.processor l.j
