use Rattle.chart.proofs.Answers as L
use Rattle.chart.proofs.measured.Goals as goal
use Rattle.chart.proofs.measured.Goals.{then-nest-ne2-via-then-nest-ne2, then-nest-ne2-via-else-nest-ne2+then-cell_size-eq0, then-nest-ne2-via-else-nest-ne2+else-cell_size-eq0+then-cell_size-gt65535}

pub returns-then-nest-ne2-clause-number : goal.returns-then-nest-ne2-clause-number
returns-then-nest-ne2-clause-number c =
    let A = c.args in
    elim c.then-nest-ne2.branch [
      | then-nest-ne2-via-then-nest-ne2 w ↦ L.not_flat A.nest A.grid.now A.cell_size w.if-nest-ne2.true
      | then-nest-ne2-via-else-nest-ne2+then-cell_size-eq0 w ↦ L.size_zero A.nest A.grid.now A.cell_size w.if-cell_size-eq0.true
      | then-nest-ne2-via-else-nest-ne2+else-cell_size-eq0+then-cell_size-gt65535 w ↦
          L.size_large A.nest A.grid.now A.cell_size w.if-cell_size-gt65535.true
    ]

pub returns-then-grid-nest-clause-number : goal.returns-then-grid-nest-clause-number
returns-then-grid-nest-clause-number c =
    L.grid_wrong c.args.nest c.args.grid.now c.args.cell_size c.if-nest-ne2.false c.if-cell_size-eq0.false c.if-cell_size-gt65535.false
    c.if-grid-nest.true

pub put_text-length-requires : goal.put_text-length-requires
put_text-length-requires c = (
  c.requires,
  (
    c.if-nest-ne2.false,
    L.grid_right c.args.nest c.args.grid.now c.args.cell_size c.if-nest-ne2.false c.if-grid-nest.false,
  ),
)

pub returns-clause-number : goal.returns-clause-number
returns-clause-number c =
    L.no_line c.args.nest c.args.grid.now c.args.cell_size c.if-nest-ne2.false c.if-cell_size-eq0.false c.if-cell_size-gt65535.false
    c.if-grid-nest.false

pub returns-clause-length : goal.returns-clause-length
returns-clause-length c =
    L.length_put c.args.nest c.args.grid.now c.args.x c.args.y c.args.cell_size _ _ _ c.ranges.x c.ranges.y
    c.put_text-length.ensures.space_after
