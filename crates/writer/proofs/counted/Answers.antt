use Rattle.std.proofs.Common.{rules}
use Rattle.base.specs.Tests.{◌and◌}
use Rattle.writer.specs.Fields.{counted}
use Rattle.writer.proofs.counted.Goals as goal

pub returns-then-counts-lengths : goal.returns-then-counts-lengths
unfolding counted ◌and◌
returns-then-counts-lengths c = search rules

pub returns-else-counts-lengths : goal.returns-else-counts-lengths
unfolding counted ◌and◌
returns-else-counts-lengths c = search rules
