-- `parcels::later_of` meets its contract.
use Rattle.parcels.proofs.later_of.Goals as goal

pub returns-in-Indirect : goal.returns-in-Indirect
returns-in-Indirect c = rw c.in-Indirect.is
