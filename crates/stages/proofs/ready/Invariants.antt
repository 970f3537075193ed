-- The messages left to look at decide.
use Rattle.stages.proofs.Parts as parts
use Rattle.stages.proofs.ready.Given as goal

abbrev pub invariant-loop-j : goal.invariant-loop-j
invariant-loop-j l = parts.Looking l.table.layout.sizes.route l.table.layout.nest l.tile l.status l.n l.j
