-- `layout::across_of` meets its contract: the array is filled from its start.
use Rattle.nest.specs.Nest.{tile_count}
use Rattle.layout.proofs.Loops.{Filled}
use Rattle.layout.proofs.across_of.Given as goal

abbrev pub invariant-loop-j : goal.invariant-loop-j
invariant-loop-j l = Filled 4 (tile_count l.nest) l.nest.dimensions l.across l.j
