-- `mark_row` meets its contract: by its span.
use native.Mathlib.Omega.{arith}
use Rattle.nest.proofs.Shapes.{framed}
use Rattle.part.proofs.Rows as rows
use Rattle.part.proofs.mark_row.Goals as goal

pub row_place-at-requires : goal.row_place-at-requires
row_place-at-requires c = framed _ c.requires.0.0

pub span_of-s-requires : goal.span_of-s-requires
span_of-s-requires c = (framed _ c.requires.0.0, c.row_place-at.ensures.narrow)

pub returns-then-s : goal.returns-then-s
returns-then-s c =
    let at = c.row_place-at in
    let span = c.span_of-s in
    rows.row_shown c.args.nest c.requires.0.0 c.args.q at.result at.ensures span.result span.ensures c.args.marks.now _
    c.mark.ensures

pub returns-else-s : goal.returns-else-s
returns-else-s c =
    let at = c.row_place-at in
    let span = c.span_of-s in
    rows.row_empty c.args.nest c.requires.0.0 c.args.q at.result at.ensures span.result span.ensures c.args.marks.now
    (omega (arith, c.if-s.false))
