use mir.Syntax.{w32}
use mir.ValLaws.{to_z-of_z}
use Rattle.chart.proofs.Answers as L
use Rattle.chart.proofs.write.Goals as goal

pub returns : goal.returns
returns c =
    let told = c.write_text.ensures in
    rw (to_z-of_z w32 _ c.ranges.x, to_z-of_z w32 _ c.ranges.y)
    at (L.write_told _ _ _ _ _ _ c.write_text.result _ _ c.tell.ensures.number c.tell.ensures.length told.number told.length told.ok
    told.err)
