-- What the loop gathers is kept, as the machine has it.
use Rattle.part_calls.proofs.turn.Stage as stage
use Rattle.part_calls.proofs.turn.on_part.gather_stage.Goals as goal

pub gather-requires : goal.gather-requires
gather-requires c = c.requires

pub returns : goal.returns
returns c =
    let A = c.args in
    let gather = c.gather in
    λ l three f. stage.gather_leaves A.table.now A.b A.kept.now A.counts.now A.ordinals.now A.starts.now
    c.requires.tables.0 A.memory.now A.mail.now A.marks.now l c.requires.tables.1 three A.finished f
    A.tile c.requires.tile_bound.1 _ _ gather.ensures.0 gather.ensures.1
