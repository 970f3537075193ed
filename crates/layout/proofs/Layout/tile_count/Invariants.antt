-- `layout::tile_count` meets its contract: the product of the shares done, times that of the shares left.
use Rattle.layout.proofs.Shares.{Counting}
use Rattle.layout.proofs.Layout.tile_count.Given as goal

abbrev pub invariant-loop-j : goal.invariant-loop-j
invariant-loop-j l = Counting l.self.nest.counts l.self.sizes.across l.self.nest.spread l.self.nest.dimensions l.processor l.j l.rest l.n
