use Rattle.std.proofs.Common.{rules}
use Rattle.base.specs.Tests.{◌and◌}
use Rattle.writer.specs.Writing.{nest_writable}
use Rattle.writer.proofs.is_writable.Goals as goal

pub returns-then-bounds_fit : goal.returns-then-bounds_fit
unfolding nest_writable ◌and◌
returns-then-bounds_fit c = search rules

pub returns-else-bounds_fit : goal.returns-else-bounds_fit
unfolding nest_writable ◌and◌
returns-else-bounds_fit c = search rules
