-- All tiles finished, mail missing, or the whole tile.
use native.Mathlib.Omega.{arith}
use mathlib.Core.Path.{refl, sym, ap, ◌∙◌}
use Rattle.std.specs.Prelude.{ℕ, ◌*◌, get_or}
use Rattle.machine.specs.Plan.{tiles_of}
use Rattle.machine.specs.Machine.{state_of}
use Rattle.nest.specs.Nest.{cells, processors}
use Rattle.plan.specs.Shaped.{plan_of}
use Rattle.stages.proofs.Parts as parts
use Rattle.schedule.proofs.Listing as L
use Rattle.schedule.proofs.Laws as laws
use Rattle.schedule.proofs.next_tile.Goals as goal

pub returns-then-i-n : goal.returns-then-i-n
returns-then-i-n c =
    laws.tile_over (plan_of c.args.table.now.layout.sizes.route c.args.table.now.layout.nest) c.args.source.now
    (state_of c.args.memories.now c.args.buffer.now c.args.progress.now c.args.status.now) c.args.b
    (omega (arith, c.tile_count-n.ensures.0, c.if-i-n.true))

pub tile_at-t-requires : goal.tile_at-t-requires
tile_at-t-requires c = omega (arith, c.tile_count-n.ensures.0, c.if-i-n.false)

pub ready-requires : goal.ready-requires
ready-requires c = (
  record { chained = c.requires.indexed.0.by_taker; marks = c.requires.plan_areas.status; few = c.requires.indexed.0.few },
  omega
      (arith, c.tile_at-t.ensures.1, L.tiles_few _ _ _ c.args.table.now.layout.sized c.args.table.now.tabled),
)

pub returns-then-not-ready : goal.returns-then-not-ready
returns-then-not-ready c =
    let tile-at = c.tile_at-t in
    laws.tile_waits (plan_of c.args.table.now.layout.sizes.route c.args.table.now.layout.nest) c.args.source.now (state_of c.args.memories.now c.args.buffer.now
    c.args.progress.now c.args.status.now) c.args.b tile-at.result
    (tile-at.ensures.0 ∙ ap (λ (k : ℕ). get_or (tiles_of (plan_of c.args.table.now.layout.sizes.route c.args.table.now.layout.nest) c.args.b) k 0) refl)
    (sym c.ready.ensures ∙ c.if-not-ready.true)

pub whole_tile-requires : goal.whole_tile-requires
whole_tile-requires c =
    record {
      indexed = (c.requires.indexed.0, c.tile_at-t.ensures.1);
      source_len = (
        c.requires.indexed.1.0,
        parts.mid_length c.args.memories.now (c.args.b * c.args.table.now.layout.sizes.cells) c.args.table.now.layout.sizes.cells
            (parts.room (processors c.args.table.now.layout.nest) c.args.b c.args.table.now.layout.sizes.cells (cells c.args.table.now.layout.nest) _ c.requires.indexed.1.1
            c.args.table.now.layout.sized.cells c.requires.plan_areas.memories) ∙ c.args.table.now.layout.sized.cells,
      );
      buffer_len = (c.requires.plan_areas.buffer, c.requires.plan_areas.status);
    }

pub store_record-requires : goal.store_record-requires
store_record-requires c = omega (arith, c.requires.indexed.1.1, c.requires.plan_areas.progress)

pub returns : goal.returns
returns c =
    let tile-at = c.tile_at-t in
    let tile-count = c.tile_count-n in
    let if1 = c.if-i-n in
    let ready = c.ready in
    let if2 = c.if-not-ready in
    let whole-tile = c.whole_tile in
    laws.tile_does (plan_of c.args.table.now.layout.sizes.route c.args.table.now.layout.nest) c.args.source.now (state_of c.args.memories.now c.args.buffer.now
    c.args.progress.now c.args.status.now) c.args.b tile-at.result
    (tile-at.ensures.0 ∙ ap (λ (k : ℕ). get_or (tiles_of (plan_of c.args.table.now.layout.sizes.route c.args.table.now.layout.nest) c.args.b) k 0) refl)
    (omega (arith, tile-count.ensures.0, if1.false)) (sym ready.ensures ∙ if2.false) _
    (laws.tile_now c.args.table.now.layout.sizes.route c.args.table.now.layout.nest c.args.source.now (state_of c.args.memories.now c.args.buffer.now
    c.args.progress.now c.args.status.now) c.args.b tile-at.result _ c.args.table.now.layout.sizes.cells c.args.table.now.layout.sized.cells c.requires.plan_areas
    c.requires.indexed.1.1 refl _ _ _ _ (parts.room (processors c.args.table.now.layout.nest) c.args.b c.args.table.now.layout.sizes.cells (cells c.args.table.now.layout.nest) _ c.requires.indexed.1.1
    c.args.table.now.layout.sized.cells c.requires.plan_areas.memories) whole-tile.auto.memory whole-tile.ensures.0 whole-tile.ensures.1.0
    c.store_record.ensures whole-tile.ensures.1.1)
