-- The call's own, with the corners as the machine reads them back.
use Rattle.calls.proofs.Demand211 as L
use Rattle.calls.proofs.chart_text.rolwyddac_chart.Goals as goal

pub returns : goal.returns
returns c =
    L.write_back c.args.encoded.now c.args.grid.now c.args.x c.args.y c.args.cell_size c.ranges.x
    c.ranges.y c.args.space.now c.write.result _ c.write.ensures
