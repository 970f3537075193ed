-- Either word.
use Rattle.base.specs.Tests.{pick}
use Rattle.comparison.proofs.source_word.Goals as goal

pub returns-then-counting : goal.returns-then-counting
unfolding pick
returns-then-counting c = rw c.if-counting.true

pub returns-else-counting : goal.returns-else-counting
unfolding pick
returns-else-counting c = rw c.if-counting.false
