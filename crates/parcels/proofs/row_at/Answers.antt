-- `parcels::row_at` meets its contract.
use Rattle.parcels.proofs.Rows.{box_places, row_small, row_inner}
use Rattle.parcels.proofs.Alike.{row_found}
use Rattle.parcels.proofs.row_at.Goals as goal

pub place-at-requires : goal.place-at-requires
place-at-requires c = box_places _ c.requires.0 _ c.requires.1.1.0

pub ends_of-ends-requires : goal.ends_of-ends-requires
ends_of-ends-requires c = record { accepted = (c.requires.0, c.requires.1.0); dimensions_value = (c.requires.1.1.0.opens, row_small _ c.requires.0 _ c.requires.1.1.0 _ _ c.place-at.ensures) }

pub rows_alike-alike-requires : goal.rows_alike-alike-requires
rows_alike-alike-requires c = (c.requires.0, (c.requires.1.0, row_inner _ c.requires.0 _ c.requires.1.1.0 _ _ c.place-at.ensures))

pub returns : goal.returns
returns c =
    row_found _ c.requires.0 _ c.requires.1.1.0 _ c.requires.1.1.1 _ c.place-at.ensures _ c.rows_alike-alike.ensures _
    c.ends_of-ends.ensures _ c.run_of-run.ensures
