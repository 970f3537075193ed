-- `layout::bounds_of` meets its contract: corner and lengths are done before j; from j on the corner is still the tile's place.
use Rattle.layout.proofs.Cells.{Boxing}
use Rattle.layout.proofs.Layout.bounds_of.Given as goal

abbrev pub invariant-loop-j : goal.invariant-loop-j
invariant-loop-j l = Boxing l.self.nest l.tile l.corner l.lengths l.j
