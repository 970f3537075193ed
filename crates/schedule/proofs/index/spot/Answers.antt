-- Its slot and its offset are in the list.
use Rattle.schedule.proofs.index.spot.Goals as goal

pub returns : goal.returns
returns c =
    rw c.from.ensures
    (c.requires.0.found _ c.requires.1)
