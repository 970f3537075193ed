-- `mark_rows` meets its contract: the rows passed.
use native.Mathlib.Omega.{arith}
use mathlib.Core.Path.{◌≡◌, ◌∙◌, subst}
use Prim.Native.Nat.{◌*◌}
use native.Mathlib.Nat.{mul-le-mul_right}
use Rattle.layout.proofs.CellRows.{row_in}
use Rattle.part.specs.Marking.{row_cells, Shown}
use Rattle.part.proofs.Rows as rows
use Rattle.part.proofs.mark_rows.Goals as goal

pub loop-q-init : goal.loop-q-init
loop-q-init c = ((omega arith, c.requires.1.0), rows.shown_none c.args.nest _ c.args.marks.now)

pub mark_row-requires : goal.mark_row-requires
mark_row-requires c =
    let loop = c.loop-q in (
      (c.requires.0.0, loop.invariant.1.long ∙ c.requires.0.1),
      omega (arith, row_in (row_cells c.args.nest) loop.q c.args.to c.loop-q-test.true, c.requires.1.1),
    )

pub overflow_step-q : goal.overflow_step-q
overflow_step-q c = omega (arith, c.loop-q-test.true, c.requires.1.1, rows.rows_few c.args.nest c.requires.0.0 c.args.to c.requires.1.1)

pub loop-q-smaller : goal.loop-q-smaller
loop-q-smaller c = omega (arith, c.loop-q-test.true)

pub loop-q-preserved : goal.loop-q-preserved
loop-q-preserved c =
    let loop = c.loop-q in
    let test = c.loop-q-test.true in (
      (omega (arith, loop.invariant.0.0), omega (arith, test)),
      rows.rows_next c.args.nest c.args.from loop.q c.args.marks.now loop.marks _
          (mul-le-mul_right (row_cells c.args.nest) loop.invariant.0.0) loop.invariant.1 c.mark_row.ensures,
    )

pub shape_of-marks : goal.shape_of-marks
shape_of-marks c = c.loop-q.invariant.1.long

pub returns : goal.returns
returns c =
    let loop = c.loop-q in
    let e : loop.q ≡ c.args.to = omega (arith, loop.invariant.0.1, c.loop-q-test.false) in
    subst (λ i. Shown c.args.nest (c.args.from * row_cells c.args.nest) (i * row_cells c.args.nest) c.args.marks.now loop.marks) e
    loop.invariant.1
