-- Either of the two.
use Rattle.base.specs.Tests.{◌or◌}
use Rattle.comparison.proofs.drive.noted.Goals as goal

pub returns-then-before : goal.returns-then-before
unfolding ◌or◌
returns-then-before c = rw c.if-before.true

pub returns-else-before : goal.returns-else-before
unfolding ◌or◌
returns-else-before c = rw c.if-before.false
