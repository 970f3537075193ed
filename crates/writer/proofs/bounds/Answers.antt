use Rattle.std.proofs.Common.{rules}
use Rattle.base.specs.Tests.{◌and◌}
use Rattle.writer.specs.Fields.{bounds}
use Rattle.writer.proofs.bounds.Goals as goal

pub returns-then-slopes-sides : goal.returns-then-slopes-sides
unfolding bounds ◌and◌
returns-then-slopes-sides c = search rules

pub returns-else-slopes-sides : goal.returns-else-slopes-sides
unfolding bounds ◌and◌
returns-else-slopes-sides c = search rules
