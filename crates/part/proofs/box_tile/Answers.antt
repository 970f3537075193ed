-- `box_tile` meets its contract: the box's own, or by the table.
use Rattle.part.proofs.Chains as chains
use Rattle.part.proofs.box_tile.Goals as goal

pub returns-then-table-eq0 : goal.returns-then-table-eq0
returns-then-table-eq0 c = chains.box_number c.args.table.now.layout.nest c.args.table.now.layout.sizes c.args.table.now.layout.sized.accepted c.args.tile c.requires c.if-table-eq0.true

pub box_of-requires : goal.box_of-requires
box_of-requires c = (
  c.args.table.now.layout.sized.accepted,
  (
    (c.args.table.now.tabled.shape c.if-table-eq0.false).owned.tiled,
    chains.shape_number c.args.table.now.layout.nest c.args.table.now.layout.sizes c.args.table.now.layout.sized.accepted c.args.tile c.requires c.args.table.now.tabled.routed c.if-table-eq0.false,
  ),
)
