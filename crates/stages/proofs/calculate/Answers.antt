-- Without bounds the box's cells are calculated, with bounds the shape's.
use Rattle.stages.proofs.Shapes as shapes
use Rattle.stages.proofs.calculate.Goals as goal

pub calculate-requires : goal.calculate-requires
calculate-requires c =
    let A = c.args in
    (shapes.box_low A.table.now.layout.nest A.table.now.layout.sizes.route c.args.table.now.layout.sized.accepted c.if-table-eq0.true _ c.requires.sized, c.requires.source_len)

pub returns-then-table-eq0 : goal.returns-then-table-eq0
returns-then-table-eq0 c =
    let A = c.args in
    shapes.box_stored A.table.now.layout.nest A.table.now.layout.sizes.route c.args.table.now.layout.sized.accepted c.if-table-eq0.true A.source.now A.memory.now
    _ A.tile c.calculate.ensures

pub box_of-number-requires : goal.box_of-number-requires
box_of-number-requires c =
    let A = c.args in (
      c.args.table.now.layout.sized.accepted,
      (
        (c.args.table.now.tabled.shape c.if-table-eq0.false).owned.tiled,
        shapes.shape_low A.table.now.layout.nest A.table.now.layout.sizes.route (c.args.table.now.tabled.routed c.if-table-eq0.false) _
            c.requires.sized,
      ),
    )

pub calculate-requires-2 : goal.calculate-requires-2
calculate-requires-2 c = (c.box_of-number.ensures.1, c.requires.source_len)

pub returns : goal.returns
returns c =
    let A = c.args in
    shapes.shape_stored A.table.now.layout.nest A.table.now.layout.sizes.route (c.args.table.now.tabled.routed c.if-table-eq0.false) A.source.now A.memory.now _ A.tile
    c.box_of-number.result c.box_of-number.ensures.0 c.calculate-2.ensures
