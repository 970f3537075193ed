-- `summary::hops_along` meets its contract.
use Rattle.summary.proofs.Ones.{hops_masked}
use Rattle.summary.proofs.hops_along.Goals as goal

pub returns : goal.returns
returns c = hops_masked c.args.nest c.args.direction _ c.many_of-many.ensures
