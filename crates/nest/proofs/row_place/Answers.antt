-- `nest::row_place` meets its contract: the place of the row's number in the dimensions before the last.
use mathlib.Core.Path.{refl}
use Rattle.nest.proofs.Cuts as C
use Rattle.nest.proofs.row_place.Goals as goal

pub put_place-requires : goal.put_place-requires
put_place-requires c = (refl, C.row_lengths c.args.nest c.requires c.args.q)

pub returns : goal.returns
returns c = C.row_written c.args.nest c.requires c.args.q _ _ refl c.put_place.ensures.1
