-- `transport::owners` meets its contract.
use Rattle.transport.proofs.owners.Goals as goal

pub returns : goal.returns
returns c = rw c.number_of.ensures c.list_owners.ensures
