-- `parcels::two_before` meets its contract.
use Rattle.parcels.proofs.two_before.Goals as goal

pub returns-in-Direct : goal.returns-in-Direct
returns-in-Direct c = rw c.in-Direct.is

pub returns-in-Indirect : goal.returns-in-Indirect
returns-in-Indirect c = rw c.in-Indirect.is
