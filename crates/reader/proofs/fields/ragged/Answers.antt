-- `reader::fields::ragged` meets its contract: each test in turn.
use Rattle.std.proofs.Common.{rules}
use Rattle.base.specs.Tests.{◌or◌, not}
use Rattle.nest.specs.Reader.{ragged}
use Rattle.reader.proofs.fields.ragged.Goals as goal

pub returns-then-is_empty : goal.returns-then-is_empty
unfolding ragged ◌or◌ not
returns-then-is_empty c = search rules

pub returns-else-is_empty : goal.returns-else-is_empty
unfolding ragged ◌or◌ not
returns-else-is_empty c = search rules
