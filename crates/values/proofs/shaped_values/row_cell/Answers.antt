-- `values::shaped_values::row_cell` meets its contract: a row of the nest begins at its first place.
use Rattle.nest.proofs.Shapes.{framed}
use Rattle.values.proofs.shaped_values.Words.{row_located}
use Rattle.values.proofs.shaped_values.row_cell.Goals as goal

pub row_place-at-requires : goal.row_place-at-requires
row_place-at-requires c = framed _ c.requires.0

pub returns : goal.returns
returns c = row_located _ c.requires.0 _ _ _ c.requires.1.0 c.requires.1.1 c.row_place-at.ensures
