-- `reader::spread_after` meets its contract: each test in turn.
use Rattle.std.proofs.Common.{rules}
use Rattle.base.specs.Tests.{◌and◌, not}
use Rattle.reader.proofs.spread_after.Goals as goal

pub returns-then-nest-j-eq0 : goal.returns-then-nest-j-eq0
unfolding ◌and◌ not
returns-then-nest-j-eq0 c = search rules

pub returns-else-nest-j-eq0 : goal.returns-else-nest-j-eq0
unfolding ◌and◌ not
returns-else-nest-j-eq0 c = search rules
