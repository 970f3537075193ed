-- `reader::fields::bound_fits` meets its contract: each test in turn.
use Rattle.std.proofs.Common.{rules}
use Rattle.base.specs.Tests.{◌and◌}
use Rattle.nest.specs.Reader.{bound_fits}
use Rattle.reader.proofs.fields.bound_fits.Goals as goal

pub returns-then-blank : goal.returns-then-blank
unfolding bound_fits ◌and◌
returns-then-blank c = search rules

pub returns-else-blank : goal.returns-else-blank
unfolding bound_fits ◌and◌
returns-else-blank c = search rules
