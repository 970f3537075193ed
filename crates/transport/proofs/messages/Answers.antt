-- `transport::messages` meets its contract.
use Rattle.transport.proofs.messages.Goals as goal

pub returns : goal.returns
returns c = rw c.number_of.ensures c.list_messages.ensures
