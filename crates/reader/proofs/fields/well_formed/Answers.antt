-- `reader::fields::well_formed` meets its contract: each test in turn.
use Rattle.std.proofs.Common.{rules}
use Rattle.base.specs.Tests.{◌and◌}
use Rattle.nest.specs.Reader.{well_formed}
use Rattle.reader.proofs.fields.well_formed.Goals as goal

pub returns-then-encoded-n : goal.returns-then-encoded-n
unfolding well_formed ◌and◌
returns-then-encoded-n c = search rules

pub returns-else-encoded-n : goal.returns-else-encoded-n
unfolding well_formed ◌and◌
returns-else-encoded-n c = search rules
