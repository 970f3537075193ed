-- `fill_counts` meets its contract: the blocks passed.
use Rattle.rank_index.proofs.Blocks as laws
use Rattle.rank_index.proofs.fill_counts.Given as goal

abbrev pub invariant-loop-q : goal.invariant-loop-q
invariant-loop-q l = laws.Filled l.marks l.counts l.q l.n
