-- The rounds left from the state reached give what all the rounds give.
use Prim.Native.Nat.{◌-◌}
use Rattle.machine.specs.Machine.{state_of}
use Rattle.comparison.proofs.drive.Steps as laws
use Rattle.comparison.proofs.drive.drive.Given as goal

abbrev pub invariant-loop-done : goal.invariant-loop-done
invariant-loop-done l =
    laws.Left l.encoded l.source (state_of l.initial.memories l.initial.buffer l.initial.progress l.initial.status) l.order l.steps
    (l.steps - l._done) (state_of l.memories l.buffer l.progress l.status)
