-- After each turn: the pass so far.
use Rattle.machine.specs.Machine.{state_of}
use Rattle.engine.specs.Demands.{calls}
use Rattle.comparison.specs.drive.Drive.{turns_to, Tried}
use Rattle.comparison.proofs.drive.turn_each.Given as goal

abbrev pub invariant-loop-place : goal.invariant-loop-place
invariant-loop-place l =
    Tried (calls l.encoded 0 l.source) (state_of l.initial.memories l.initial.buffer l.initial.progress l.initial.status) (turns_to l.processors l.falling l.place) l.taken
    (state_of l.memories l.buffer l.progress l.status)
