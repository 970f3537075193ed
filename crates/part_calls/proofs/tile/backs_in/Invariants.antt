-- `part_calls::tile::backs_in` meets its contract: those of the first e distances.
use Rattle.std.specs.Prelude.{◌-◌}
use Rattle.part_calls.proofs.tile.InPart.{Filling}
use Rattle.part_calls.proofs.tile.backs_in.Given as goal

abbrev pub invariant-loop-e : goal.invariant-loop-e
invariant-loop-e l = Filling l.kept l.cell l.component l.few l.n l.firsts l.ends l.back l.backs l.e

abbrev pub decreases-loop-e : goal.decreases-loop-e
decreases-loop-e l = l.n - l.e
