-- What the tile calculates is kept, as the machine has it.
use Rattle.plan.specs.Shaped.{plan_of}
use Rattle.network.specs.Own.{source_of}
use Rattle.part_calls.proofs.turn.Stage as stage
use Rattle.part_calls.proofs.turn.on_part.calculate_stage.Goals as goal

pub calculate_own-requires : goal.calculate_own-requires
calculate_own-requires c = record { planned = (c.requires.tables.0.known.low, (c.requires.tile_bound.0, (c.requires.tile_bound.1.0, c.requires.tables.0.cells))); source_len = (c.requires.source_len, c.requires.tables.1) }

pub count_at-n-requires : goal.count_at-n-requires
count_at-n-requires c = c.requires.tile_bound.0

pub next_record-requires : goal.next_record-requires
next_record-requires c =
    let count_at = c.count_at-n in
    (c.requires.tile_bound.1.1, count_at.ensures.1)

pub returns : goal.returns
returns c =
    let A = c.args in
    let count_at = c.count_at-n in
    let calculate-own = c.calculate_own in
    let next_record = c.next_record in
    λ mail l marks g three f. stage.calculate_leaves A.table.now A.b A.kept.now A.counts.now A.ordinals.now
    A.starts.now c.requires.tables.0 A.memory.now mail marks l g three A.finished f A.tile count_at.result
    (source_of (plan_of A.table.now.layout.sizes.route A.table.now.layout.nest) A.b A.source.now) _ _ calculate-own.ensures count_at.ensures.0 (next_record.ensures l 0)
