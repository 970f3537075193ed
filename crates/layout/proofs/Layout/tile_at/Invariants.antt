-- `layout::tile_at` meets its contract: what the dimensions left give, weighed, and the rank of those done.
use Rattle.layout.proofs.Shares.{Finding}
use Rattle.layout.proofs.Layout.tile_at.Given as goal

abbrev pub invariant-loop-j : goal.invariant-loop-j
invariant-loop-j l = Finding l.self.nest.counts l.self.sizes.across l.self.nest.spread l.self.nest.dimensions l.processor l.finished l.j l.rest l.left l.weight l.tile
