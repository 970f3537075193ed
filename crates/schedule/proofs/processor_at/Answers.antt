-- By the box or by the table.
use Rattle.schedule.proofs.Telling as telling
use Rattle.schedule.proofs.processor_at.Goals as goal

pub processor_of-requires : goal.processor_of-requires
processor_of-requires c = telling.box_low c.args.table.now.layout.nest c.args.table.now.layout.sized.accepted
    c.args.table.now.layout.sizes.route c.args.tile c.if-table-eq0.true c.requires

pub returns-then-table-eq0 : goal.returns-then-table-eq0
returns-then-table-eq0 c = (
  telling.box_owner c.args.table.now.layout.nest c.args.table.now.layout.sized.accepted c.args.table.now.layout.sizes.route c.args.tile
      c.if-table-eq0.true _ c.processor_of.ensures.0,
  c.processor_of.ensures.1,
)

pub owner_of-requires : goal.owner_of-requires
owner_of-requires c = (
  c.args.table.now.layout.sized.accepted,
  (
    (c.args.table.now.tabled.shape c.if-table-eq0.false).owned,
    telling.shape_low
        c.args.table.now.layout.nest c.args.table.now.layout.sized.accepted c.args.table.now.layout.sizes.route c.args.tile (c.args.table.now.tabled.routed c.if-table-eq0.false) c.requires,
  ),
)

pub returns : goal.returns
returns c = (
  telling.shape_owner c.args.table.now.layout.nest c.args.table.now.layout.sized.accepted c.args.table.now.layout.sizes.route
      c.args.tile (c.args.table.now.tabled.routed c.if-table-eq0.false) _ c.owner_of.ensures.0,
  c.owner_of.ensures.1,
)
