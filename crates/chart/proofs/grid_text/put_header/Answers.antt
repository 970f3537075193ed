use Rattle.chart.proofs.grid_text.Steps.{head_1, head_2, head_3, head_4, head_5, head_6, head_done}
use Rattle.chart.proofs.grid_text.put_header.Goals as goal

pub put_line-a-requires : goal.put_line-a-requires
put_line-a-requires c =
    head_1 c.args.rows c.args.columns c.args.x c.args.y c.args.size c.ranges.x c.ranges.y c.args.space.now
    c.requires

pub put_line-b-requires : goal.put_line-b-requires
put_line-b-requires c =
    head_2 c.args.rows c.args.columns c.args.x c.args.y c.args.size c.ranges.x c.ranges.y c.args.space.now
    c.requires _ c.put_line-a.ensures

pub put_signed_line-c-requires : goal.put_signed_line-c-requires
put_signed_line-c-requires c =
    head_3 c.args.rows c.args.columns c.args.x c.args.y c.args.size c.ranges.x c.ranges.y
    c.args.space.now c.requires _ c.put_line-a.ensures _ c.put_line-b.ensures

pub put_signed_line-d-requires : goal.put_signed_line-d-requires
put_signed_line-d-requires c =
    head_4 c.args.rows c.args.columns c.args.x c.args.y c.args.size c.ranges.x c.ranges.y
    c.args.space.now c.requires _ c.put_line-a.ensures _ c.put_line-b.ensures _
    c.put_signed_line-c.ensures

pub put_line-e-requires : goal.put_line-e-requires
put_line-e-requires c =
    head_5 c.args.rows c.args.columns c.args.x c.args.y c.args.size c.ranges.x c.ranges.y
    c.args.space.now c.requires _ c.put_line-a.ensures _ c.put_line-b.ensures _ c.put_signed_line-c.ensures _
    c.put_signed_line-d.ensures

pub put_bytes-requires : goal.put_bytes-requires
put_bytes-requires c =
    head_6 c.args.rows c.args.columns c.args.x c.args.y c.args.size c.ranges.x c.ranges.y
    c.args.space.now c.requires _ c.put_line-a.ensures _ c.put_line-b.ensures _ c.put_signed_line-c.ensures _
    c.put_signed_line-d.ensures _ c.put_line-e.ensures

pub returns : goal.returns
returns c =
    head_done c.args.rows c.args.columns c.args.x c.args.y c.args.size c.ranges.x c.ranges.y
    c.args.space.now c.requires _ c.put_line-a.ensures _ c.put_line-b.ensures _ c.put_signed_line-c.ensures _
    c.put_signed_line-d.ensures _ c.put_line-e.ensures _ c.put_bytes.ensures
