-- `summary::many_of` meets its contract: the mask of the dimensions before this one.
use Rattle.summary.proofs.Ones as L
use Rattle.summary.proofs.many_of.Given as goal

abbrev pub invariant-loop-count : goal.invariant-loop-count
invariant-loop-count l = L.Masking l.fn.nest.counts l.fn.nest.spread l.mask l.count-index
