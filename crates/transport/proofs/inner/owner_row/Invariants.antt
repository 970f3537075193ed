-- `inner::owner_row` meets its contract: the words passed.
use Rattle.base.specs.Tests.{pick}
use Rattle.nest.specs.Spans.{within}
use Rattle.base.proofs.Stored as stored
use Rattle.transport.proofs.inner.owner_row.Given as goal

abbrev pub invariant-loop-y : goal.invariant-loop-y
invariant-loop-y l = stored.Stored (λ y. pick (within l.s y) l.processor l.none) l.initial.row l.row l.y
