-- Stage 0 of the turn on the part: 12, or what is gathered.
use mathlib.Core.Path.{refl}
use Rattle.std.specs.Prelude.{length, get_or}
use Rattle.machine.specs.Plan.{tiles_of}
use Rattle.machine.specs.Machine.{state_of}
use Rattle.plan.specs.Shaped.{plan_of}
use Rattle.part_calls.proofs.turn.Stage as stage
use Rattle.part_calls.proofs.turn.Turned as turned
use Rattle.part_calls.proofs.turn.first_stage.Goals as goal

pub ready-requires : goal.ready-requires
ready-requires c =
    let A = c.args in
    let p = plan_of A.table.now.layout.sizes.route A.table.now.layout.nest in record {
      planned = c.requires.part_lengths.1.low;
      ranked = stage.ranked A.table.now A.b A.kept.now A.counts.now A.ordinals.now A.starts.now
          c.requires.tables A.tile (stage.stands_own p A.progress.now A.b A.tile c.requires.part_lengths.1) A.marks.now c.requires.part_lengths.0.marks;
    }

pub returns-then-not-ready : goal.returns-then-not-ready
returns-then-not-ready c =
    let A = c.args in
    let ready = c.ready in
    let p = plan_of A.table.now.layout.sizes.route A.table.now.layout.nest in
    let s = state_of A.memory.now A.mail.now A.progress.now A.marks.now in
    λ source may z. turned.stops_waiting p A.b source s may
    (get_or A.progress.now 0 0) (length (tiles_of p A.b)) refl refl A.tile (get_or A.progress.now 1 0) c.requires.part_lengths.1.left c.requires.part_lengths.1.tile
    refl A.ordinals.now A.starts.now c.requires.tables.known.ordinals c.requires.tables.known.starts ready.result ready.ensures z
    c.if-not-ready.true

pub gather_stage-requires : goal.gather_stage-requires
gather_stage-requires c =
    let A = c.args in
    let p = plan_of A.table.now.layout.sizes.route A.table.now.layout.nest in record { tables = (c.requires.tables, record { memory = c.requires.part_lengths.0.memory; mail = c.requires.part_lengths.0.mail; marks = c.requires.part_lengths.0.marks }); tile_bound = (c.requires.part_lengths.1.low, stage.stands_own p A.progress.now A.b A.tile c.requires.part_lengths.1) }

pub returns : goal.returns
returns c =
    let A = c.args in
    let ready = c.ready in
    let p = plan_of A.table.now.layout.sizes.route A.table.now.layout.nest in
    let s = state_of A.memory.now A.mail.now A.progress.now A.marks.now in
    λ source may z. turned.gathers p A.b source s may (get_or A.progress.now 0 0) (length (tiles_of p A.b)) refl refl A.tile (get_or A.progress.now 1 0)
    c.requires.part_lengths.1.left c.requires.part_lengths.1.tile refl A.ordinals.now A.starts.now c.requires.tables.known.ordinals c.requires.tables.known.starts
    ready.result
    ready.ensures z c.if-not-ready.false _ (c.gather_stage.ensures A.progress.now c.requires.part_lengths.0.progress refl)
