-- One bit.
use Rattle.packets.specs.Cut.{there}
use mathlib.Core.Path.{refl}
use Rattle.packets.proofs.chunks.is_there.Goals as goal

pub returns : goal.returns
unfolding there
returns c = refl
