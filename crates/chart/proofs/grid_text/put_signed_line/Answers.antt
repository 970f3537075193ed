use Rattle.text.specs.Decimal.{signed}
use Rattle.text.specs.Writing.{pen}
use Rattle.chart.proofs.grid_text.Steps.{back_room, back_wrote, line_name, line_gap, line_value, line_feed, line_done}
use Rattle.chart.proofs.grid_text.put_signed_line.Goals as goal

pub put_bytes-a-requires : goal.put_bytes-a-requires
put_bytes-a-requires c = line_name c.args.name.now (signed c.args.z) (pen c.args.at c.args.space.now) c.requires

pub put-b-requires : goal.put-b-requires
put-b-requires c =
    line_gap c.args.name.now (signed c.args.z) (pen c.args.at c.args.space.now) c.requires _
    c.put_bytes-a.ensures

pub put_signed-c-requires : goal.put_signed-c-requires
put_signed-c-requires c =
    back_room c.args.z c.ranges.z _ (line_value c.args.name.now (signed c.args.z) (pen c.args.at c.args.space.now)
    c.requires _ c.put_bytes-a.ensures _ c.put-b.ensures)

pub put-requires : goal.put-requires
put-requires c =
    line_feed c.args.name.now (signed c.args.z) (pen c.args.at c.args.space.now) c.requires _ c.put_bytes-a.ensures _
    c.put-b.ensures _ (back_wrote c.args.z c.ranges.z _ _ c.put_signed-c.ensures)

pub returns : goal.returns
returns c =
    line_done c.args.name.now (signed c.args.z) (pen c.args.at c.args.space.now) c.requires _ c.put_bytes-a.ensures _
    c.put-b.ensures _ (back_wrote c.args.z c.ranges.z _ _ c.put_signed-c.ensures) _ c.put.ensures
