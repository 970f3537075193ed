-- The rows passed are copied.
use Rattle.stages.proofs.Collecting as collecting
use Rattle.stages.proofs.copy_box.Given as goal

abbrev pub invariant-loop-c : goal.invariant-loop-c
invariant-loop-c l = collecting.Copied l.layout.nest l.memories l.initial.grid l.grid l.c
