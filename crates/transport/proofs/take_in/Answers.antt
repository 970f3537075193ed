-- `transport::take_in` meets its contract.
use Rattle.transport.proofs.take_in.Goals as goal

pub returns : goal.returns
returns c = rw c.number_of.ensures (c.take_in.ensures c.args.progress.now c.flat_of.ensures)
