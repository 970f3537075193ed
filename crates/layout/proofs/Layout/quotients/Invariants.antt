-- `layout::quotients` meets its contract: the array is filled from its start.
use Prim.Native.Nat.{◌/◌}
use lib.ListN.{get_or}
use Rattle.nest.specs.Nest.{tile_length}
use Rattle.layout.proofs.Loops.{Filled}
use Rattle.layout.proofs.Layout.quotients.Given as goal

abbrev pub invariant-loop-j : goal.invariant-loop-j
invariant-loop-j l = Filled 4 (λ i. get_or l.at i 0 / tile_length l.self.nest i) l.self.nest.dimensions l.tile l.j
