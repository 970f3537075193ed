-- The message is packed into its place in the mail, as the machine has it.
use mathlib.Core.Path.{refl}
use native.Mathlib.Omega.{arith}
use Rattle.stages.proofs.Parts as parts
use Rattle.part_calls.proofs.turn.Stage as stage
use Rattle.part_calls.proofs.turn.on_part.send_stage.Goals as goal

pub nth_at-place-requires : goal.nth_at-place-requires
nth_at-place-requires c = record { sized = c.requires.tile_bound.0; j_in_bounds = c.requires.finished_bound.1 }

pub offset_bounds-starts-number : goal.offset_bounds-starts-number
offset_bounds-starts-number c =
    let A = c.args in
    let nth-at = c.nth_at-place in
    omega (
      arith,
      stage.sent_low A.table.now A.b A.kept.now A.counts.now A.ordinals.now A.starts.now c.requires.tables.0
          A.tile c.requires.tile_bound.1 A.sent nth-at.result c.requires.finished_bound.1 nth-at.ensures,
    )

pub bounds-starts-number : goal.bounds-starts-number
bounds-starts-number c =
    let A = c.args in
    let nth-at = c.nth_at-place in
    stage.sent_low A.table.now A.b A.kept.now A.counts.now A.ordinals.now A.starts.now c.requires.tables.0 A.tile
    c.requires.tile_bound.1 A.sent nth-at.result c.requires.finished_bound.1 nth-at.ensures

pub put_in-requires : goal.put_in-requires
put_in-requires c =
    let A = c.args in
    let nth-at = c.nth_at-place in record {
      planned = parts.placed_self A.table.now.layout.sizes.route A.table.now.layout.nest _ nth-at.result nth-at.ensures;
      cells = (
        c.requires.tables.0.cells,
        stage.sent_cells A.table.now A.b A.kept.now A.counts.now A.ordinals.now A.starts.now
            c.requires.tables.0 A.tile c.requires.tile_bound.1 A.sent nth-at.result c.requires.finished_bound.1 nth-at.ensures,
      );
      memory_len = (
        c.requires.tables.1.memory,
        stage.sent_room A.table.now A.b A.kept.now A.counts.now A.ordinals.now A.starts.now
            c.requires.tables.0 A.tile c.requires.tile_bound.1 A.sent nth-at.result c.requires.finished_bound.1 nth-at.ensures A.mail.now _
            c.requires.tables.1.mail refl,
      );
    }

pub offset_bounds-ordinals-number : goal.offset_bounds-ordinals-number
offset_bounds-ordinals-number c =
    let A = c.args in
    let nth-at = c.nth_at-place in
    omega (
      arith,
      stage.sent_low A.table.now A.b A.kept.now A.counts.now A.ordinals.now A.starts.now c.requires.tables.0 A.tile
          c.requires.tile_bound.1 A.sent nth-at.result c.requires.finished_bound.1 nth-at.ensures,
    )

pub bounds-ordinals-number : goal.bounds-ordinals-number
bounds-ordinals-number c =
    let A = c.args in
    let nth-at = c.nth_at-place in
    stage.sent_low A.table.now A.b A.kept.now A.counts.now A.ordinals.now A.starts.now c.requires.tables.0 A.tile
    c.requires.tile_bound.1
    A.sent nth-at.result c.requires.finished_bound.1 nth-at.ensures

pub bounds-marks-rank : goal.bounds-marks-rank
bounds-marks-rank c =
    let A = c.args in
    let nth-at = c.nth_at-place in
    stage.sent_rank A.table.now A.b A.kept.now A.counts.now A.ordinals.now A.starts.now c.requires.tables.0 A.tile
    c.requires.tile_bound.1
    A.sent nth-at.result c.requires.finished_bound.1 nth-at.ensures A.marks.now _ c.requires.tables.1.marks refl

pub count_at-n-requires : goal.count_at-n-requires
count_at-n-requires c = c.requires.tile_bound.0

pub overflow_add-sent : goal.overflow_add-sent
overflow_add-sent c =
    let count_at = c.count_at-n in
    omega (arith, c.requires.finished_bound.1, count_at.ensures.0, count_at.ensures.1)

pub next_record-requires : goal.next_record-requires
next_record-requires c =
    let count_at = c.count_at-n in
    (c.requires.finished_bound.0, count_at.ensures.1)

pub returns : goal.returns
returns c =
    let A = c.args in
    let count_at = c.count_at-n in
    let nth-at = c.nth_at-place in
    let put_in = c.put_in in
    let next_record = c.next_record in
    λ l three f s. stage.send_leaves A.table.now A.b A.kept.now A.counts.now A.ordinals.now A.starts.now
    c.requires.tables.0 A.memory.now A.mail.now A.marks.now l c.requires.tables.1 three A.finished f A.tile
    c.requires.tile_bound.1 A.sent count_at.result _ _ nth-at.result _ _ c.requires.finished_bound.1 nth-at.ensures s
    count_at.ensures.0 refl refl put_in.ensures (next_record.ensures l 0)
