-- `layout::cell_in` meets its contract.
use Rattle.layout.proofs.Cells.{box_places, box_ranked, located}
use Rattle.layout.proofs.cell_in.Goals as goal

pub place-at-requires : goal.place-at-requires
place-at-requires c = box_places _ c.requires.0 _ c.requires.1.0 c.args.q

pub rank_of-requires : goal.rank_of-requires
rank_of-requires c = box_ranked _ c.requires.0 _ c.requires.1.0 c.args.q _ c.place-at.ensures

pub returns : goal.returns
returns c = located _ c.requires.0 _ c.requires.1.0 c.args.q _ c.place-at.ensures _ c.rank_of.ensures
