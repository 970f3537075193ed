-- `reader::fields::close_fits` meets its contract: each test in turn.
use Rattle.std.proofs.Common.{rules}
use Rattle.base.specs.Tests.{◌and◌}
use Rattle.reader.proofs.fields.close_fits.Goals as goal

pub returns-then-blank : goal.returns-then-blank
unfolding ◌and◌
returns-then-blank c = search rules

pub returns-else-blank : goal.returns-else-blank
unfolding ◌and◌
returns-else-blank c = search rules
