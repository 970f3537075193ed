-- Without bounds the box's cells are copied, with bounds the shape's.
use Rattle.stages.proofs.Shapes as shapes
use Rattle.stages.proofs.copy_cells.Goals as goal

pub copy_box-requires : goal.copy_box-requires
copy_box-requires c = c.requires.memories_len

pub returns-then-layout-eq0 : goal.returns-then-layout-eq0
returns-then-layout-eq0 c =
    let A = c.args in
    shapes.box_collected A.layout.now.nest A.layout.now.sizes.route c.args.layout.now.sized.accepted c.if-layout-eq0.true _ _
    c.copy_box.ensures

pub copy_cells-requires : goal.copy_cells-requires
copy_cells-requires c = c.requires.memories_len

pub returns : goal.returns
returns c =
    let A = c.args in
    shapes.shape_collected A.layout.now.nest A.layout.now.sizes.route (c.requires.routed c.if-layout-eq0.false) _ _
    c.copy_cells.ensures
