-- `gathered` meets its contract.
use mathlib.Core.Path.{refl}
use Rattle.part.proofs.sides.gathered.Goals as goal

pub returns : goal.returns
returns c = refl
