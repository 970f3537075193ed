-- `writer::write` meets its contract: lists that disagree, or the call from a nest.
use Rattle.writer.proofs.FromFields as F
use Rattle.writer.proofs.write.Goals as goal
use Rattle.writer.proofs.write.Goals.{then-not-dimensions_counted-via-then-not-dimensions_counted}
use Rattle.writer.proofs.write.Goals.{then-not-dimensions_counted-via-else-not-dimensions_counted+then-not-bounds_counted}

pub returns-then-not-dimensions_counted : goal.returns-then-not-dimensions_counted
returns-then-not-dimensions_counted c =
    rw c.number.ensures
    (F.disagreed _ _
    (elim c.then-not-dimensions_counted.branch [
      | then-not-dimensions_counted-via-then-not-dimensions_counted w ↦
          F.not_counted _ _ c.counted-dimensions_counted.ensures w.if-not-dimensions_counted.true
      | then-not-dimensions_counted-via-else-not-dimensions_counted+then-not-bounds_counted w ↦
          F.agree_is _ _ c.counted-dimensions_counted.ensures w.if-not-dimensions_counted.false _ _ c.bounds-bounds_counted.ensures
          w.if-not-bounds_counted.true
    ]))

pub nest_from-nest-requires : goal.nest_from-nest-requires
nest_from-nest-requires c =
    F.agree_is _ _ c.counted-dimensions_counted.ensures c.if-not-dimensions_counted.false _ _ c.bounds-bounds_counted.ensures
    c.if-not-bounds_counted.false

pub returns : goal.returns
returns c =
    F.by_nest _ _
    (F.agree_is _ _ c.counted-dimensions_counted.ensures c.if-not-dimensions_counted.false _ _ c.bounds-bounds_counted.ensures
    c.if-not-bounds_counted.false) _ c.nest_from-nest.ensures _ _ (rw c.number_of.ensures c.write_nest.ensures)
