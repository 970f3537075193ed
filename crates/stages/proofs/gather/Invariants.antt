-- The messages left to gather give the same memory and marks.
use Rattle.stages.proofs.Parts as parts
use Rattle.stages.proofs.gather.Given as goal

abbrev pub invariant-loop-j : goal.invariant-loop-j
invariant-loop-j l = parts.Gathering l.table.layout.sizes.route l.table.layout.nest l.tile l.buffer l.initial.memory l.initial.status l.memory l.status l.n l.j
