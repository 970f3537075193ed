use mir.Syntax.{w32}
use mir.ValLaws.{to_z-of_z}
use Rattle.chart.proofs.Answers as L
use Rattle.chart.proofs.length_of.Goals as goal

pub returns : goal.returns
returns c =
    rw (to_z-of_z w32 _ c.ranges.x, to_z-of_z w32 _ c.ranges.y)
    at (L.length_answer _ _ _ _ _ c.text_length.result _ c.tell.ensures.number c.tell.ensures.length c.text_length.ensures.number
    c.text_length.ensures.length)
