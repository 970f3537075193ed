-- `tables::scans::nth` meets its contract: there is such a message, so one is found.
use Rattle.tables.proofs.scans.nth.Goals as goal

pub returns-in-Some : goal.returns-in-Some
returns-in-Some c = c.in-Some.ensures

pub returns-in-None : goal.returns-in-None
returns-in-None c = λ f h q. absurd (c.in-None.ensures f h q)
