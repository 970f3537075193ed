-- `layout::cell_of` meets its contract.
use mathlib.Core.Path.{refl}
use Rattle.layout.proofs.Cells.{lengths_places, placed_cell}
use Rattle.layout.proofs.cell_of.Goals as goal

pub returns : goal.returns
returns c = record { low = c.requires.1; number = refl; place = placed_cell _ c.requires.0 _ _ c.place.ensures }
