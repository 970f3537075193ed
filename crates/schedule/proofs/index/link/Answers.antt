-- Both links are stored.
use mathlib.Core.Path.{refl}
use Rattle.schedule.proofs.index.link.Goals as goal

pub returns : goal.returns
returns c = refl
