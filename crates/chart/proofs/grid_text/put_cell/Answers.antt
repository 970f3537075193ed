use mathlib.Core.Path.{sym, ◌∙◌}
use Rattle.nest.specs.Spans.{within}
use Rattle.chart.proofs.grid_text.Steps.{in_room, in_done, out_room, out_done}
use Rattle.chart.proofs.grid_text.put_cell.Goals as goal

pub put_decimal-requires : goal.put_decimal-requires
put_decimal-requires c =
    in_room c.args.grid.now (within c.args.s) c.args.at c.args.c c.requires.c_bound (sym c.has.ensures ∙
    c.if-has.true)

pub returns-then-has : goal.returns-then-has
returns-then-has c =
    in_done c.args.grid.now (within c.args.s) c.args.at c.args.c c.requires.c_bound (sym c.has.ensures ∙
    c.if-has.true) _ _ c.put_decimal.ensures

pub put_bytes-requires : goal.put_bytes-requires
put_bytes-requires c =
    out_room c.args.grid.now (within c.args.s) c.args.at c.args.c c.requires.c_bound (sym c.has.ensures ∙
    c.if-has.false)

pub returns : goal.returns
returns c =
    out_done c.args.grid.now (within c.args.s) c.args.at c.args.c c.requires.c_bound (sym c.has.ensures ∙
    c.if-has.false) _ _ c.put_bytes.ensures
