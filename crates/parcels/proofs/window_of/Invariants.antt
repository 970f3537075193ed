-- `parcels::window_of` meets its contract: the first j spread dimensions.
use Prim.Native.Nat.{◌+◌, ◌*◌, min}
use lib.ListN.{get_or}
use lib.Dec.{leb}
use Rattle.base.specs.Tests.{one}
use Rattle.layout.proofs.Loops.{Changed}
use Rattle.parcels.proofs.window_of.Given as goal

abbrev pub invariant-loop-j : goal.invariant-loop-j
invariant-loop-j l =
    Changed (λ i. (get_or l.at i 0 + get_or l.ahead i 0) * get_or l.fn.nest.tiling i 0) l.fn.nest.spread l.initial.low l.low l.j
    × Changed (λ i. min ((get_or l.at i 0 + get_or l.ahead i 0 + one (leb l.later i)) * get_or l.fn.nest.tiling i 0 + get_or l.fn.nest.tiling i 0) (get_or l.lengths i 0)) l.fn.nest.spread l.initial.high l.high l.j
