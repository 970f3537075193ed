-- The tiles so far.
use Rattle.schedule.proofs.Chains as chains
use Rattle.schedule.proofs.index.clear.Given as goal

abbrev pub invariant-loop-t : goal.invariant-loop-t
invariant-loop-t l = chains.Cleared l.none l.chain l.t
