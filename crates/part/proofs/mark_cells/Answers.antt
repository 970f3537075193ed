-- `mark_cells` meets its contract: the cells passed.
use native.Mathlib.Omega.{arith}
use lib.ListN.{get_or}
use Rattle.base.proofs.Entries.{at_in}
use Rattle.part.proofs.Brought as brings
use Rattle.part.proofs.mark_cells.Goals as goal

pub loop-c-init : goal.loop-c-init
loop-c-init c = brings.list_start c.args.marks.now c.args.cells.now

pub bounds-marks-from : goal.bounds-marks-from
bounds-marks-from c =
    let loop = c.loop-c in
    let test = c.loop-c-test.true in
    let low = c.requires (get_or c.args.cells.now loop.c-index 0) (at_in c.args.cells.now loop.c-index test) in
    omega (arith, low, c.from.ensures, loop.invariant.long)

pub loop-c-preserved : goal.loop-c-preserved
loop-c-preserved c =
    let loop = c.loop-c in
    brings.list_next c.args.marks.now c.args.cells.now loop.marks loop.c-index loop.invariant c.loop-c-test.true
    c.from.result c.from.ensures

pub shape_of-marks : goal.shape_of-marks
shape_of-marks c = c.loop-c.invariant.long

pub returns : goal.returns
returns c =
    let loop = c.loop-c in
    brings.list_done c.args.marks.now c.args.cells.now loop.marks loop.c-index loop.invariant c.loop-c-test.false
