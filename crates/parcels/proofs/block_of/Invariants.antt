-- `parcels::block_of` meets its contract: the first j dimensions.
use Prim.Native.Nat.{◌+◌, ◌*◌, ◌-◌, min}
use lib.ListN.{get_or}
use lib.Dec.{ltb}
use Rattle.base.specs.Tests.{one}
use Rattle.layout.proofs.Loops.{Filled}
use Rattle.parcels.proofs.block_of.Given as goal

abbrev pub invariant-loop-j : goal.invariant-loop-j
invariant-loop-j l =
    Filled 4 (λ i. (get_or l.at i 0 - one (ltb i l.earlier)) * get_or l.fn.nest.tiling i 0) l.fn.nest.dimensions l.corner l.j
    × Filled 4 (λ i. min (get_or l.at i 0 * get_or l.fn.nest.tiling i 0 + get_or l.fn.nest.tiling i 0) (get_or l.fn.nest.lengths i 0) - (get_or l.at i 0 - one (ltb i l.earlier)) * get_or l.fn.nest.tiling i 0) l.fn.nest.dimensions l.lengths l.j
