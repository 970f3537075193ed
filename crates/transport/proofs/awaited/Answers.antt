-- `transport::awaited` meets its contract.
use Rattle.transport.proofs.awaited.Goals as goal

pub returns : goal.returns
returns c = c.awaited.ensures c.args.progress.now c.flat_of.ensures
