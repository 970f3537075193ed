-- The messages left to look at decide.
use Rattle.std.specs.Prelude.{◌-◌}
use Rattle.part_calls.proofs.turn.Working as working
use Rattle.part_calls.proofs.turn.on_part.ready.Given as goal

abbrev pub invariant-loop-j : goal.invariant-loop-j
invariant-loop-j l = working.Looking l.table.layout.sizes.route l.table.layout.nest l.tile l.ordinals l.marks l.n l.j

abbrev pub decreases-loop-j : goal.decreases-loop-j
decreases-loop-j l = l.n - l.j
