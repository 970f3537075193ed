-- After each delivery: the pass so far.
use Rattle.machine.specs.Machine.{state_of}
use Rattle.engine.specs.Demands.{calls}
use Rattle.comparison.specs.drive.Drive.{deliveries_to, Tried}
use Rattle.comparison.proofs.drive.deliver_each.Given as goal

abbrev pub invariant-loop-message : goal.invariant-loop-message
invariant-loop-message l =
    Tried (calls l.encoded 0 l.source) (state_of l.memories l.buffer l.progress l.initial.status)
    (deliveries_to l.message) l.delivered (state_of l.memories l.buffer l.progress l.status)
