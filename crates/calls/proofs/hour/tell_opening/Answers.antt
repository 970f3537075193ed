-- What is told is the opening's, by its kind.
use Rattle.calls.proofs.Opens as L
use Rattle.calls.proofs.hour.tell_opening.Goals as goal

pub returns-in-Some : goal.returns-in-Some
returns-in-Some c = L.told_in c.in-Some.minutes c.args.opening c.in-Some.is _ c.tell.ensures

pub returns-in-None : goal.returns-in-None
returns-in-None c = L.told_never c.args.opening c.in-None.is _ c.tell-in-None.ensures
