-- `chart::grid_text::shown` meets its contract.
use native.Mathlib.Omega.{arith}
use Rattle.nest.proofs.Shapes.{framed}
use Rattle.chart.proofs.grid_text.Rows as rows
use Rattle.chart.proofs.grid_text.shown.Goals as goal

pub row_place-requires : goal.row_place-requires
row_place-requires c = framed c.args.nest c.requires.0

pub span-s-requires : goal.span-s-requires
span-s-requires c = (framed c.args.nest c.requires.0, c.row_place.ensures.narrow)

pub returns-then-s : goal.returns-then-s
returns-then-s c =
    let span = c.span-s in
    let place = c.row_place in
    rows.shown_none c.args.nest c.requires.0 c.requires.1.0 c.args.i c.args.c c.requires.1.1.0 place.result
    span.result place.ensures span.ensures c.if-s.true

pub overflow_add-result : goal.overflow_add-result
overflow_add-result c =
    let span = c.span-s in
    let place = c.row_place in
    let low = rows.ends_low c.args.nest c.requires.0 c.requires.1.0 c.args.i c.args.c c.requires.1.1.0 place.result
    span.result place.ensures span.ensures in
    omega (arith, low, c.if-s.false, c.requires.1.1.1)

pub overflow_add-result-2 : goal.overflow_add-result-2
overflow_add-result-2 c =
    let span = c.span-s in
    let place = c.row_place in
    let low = rows.ends_low c.args.nest c.requires.0 c.requires.1.0 c.args.i c.args.c c.requires.1.1.0 place.result
    span.result place.ensures span.ensures in
    omega (arith, low, c.requires.1.1.1)

pub returns : goal.returns
returns c =
    let span = c.span-s in
    let place = c.row_place in
    rows.shown_some c.args.nest c.requires.0 c.requires.1.0 c.args.i c.args.c c.requires.1.1.0 place.result
    span.result place.ensures span.ensures
