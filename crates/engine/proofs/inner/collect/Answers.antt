-- Each return is the call by the line that counts.
use Rattle.std.specs.Prelude.{◌-◌, take, drop}
use mathlib.Core.Path.{refl, sym, ◌∙◌}
use Rattle.std.proofs.lemmas.Result.{err_from_is_err_and}
use Rattle.machine.specs.Machine.{state_of}
use Rattle.plan.specs.Shaped.{plan_of}
use Rattle.base.proofs.Codes.{code_some}
use Rattle.engine.proofs.Lines as lines
use Rattle.engine.proofs.Reading as reading
use Rattle.engine.proofs.inner.collect.Goals as goal

pub returns-in_err-table : goal.returns-in_err-table
returns-in_err-table c =
    let A = c.args in
    let e = err_from_is_err_and c.from_residual.result c.from_residual.ensures.1 in
    λ l h. rw (e.1, e.2) (lines.collect_read A.encoded.now A.route A.source.now (state_of A.memories.now A.buffer.now l A.status.now) A.grid.now _
    c.in_err-table.ensures.number (code_some _))

pub returns-then-grid-table : goal.returns-then-grid-table
returns-then-grid-table c =
    let A = c.args in
    let x = c.in_ok-table.table.layout in
    let p = plan_of x.sizes.route x.nest in
    λ l h. lines.collect_grid A.encoded.now A.route A.source.now (state_of A.memories.now A.buffer.now l A.status.now) A.grid.now p
    c.in_ok-table.ensures.layout.opened (λ q. c.if-grid-table.true (q ∙ sym x.sized.cells))

pub returns-in_err-check_areas : goal.returns-in_err-check_areas
returns-in_err-check_areas c =
    let A = c.args in
    let x = c.in_ok-table.table.layout in
    let p = plan_of x.sizes.route x.nest in
    let e = err_from_is_err_and c.from_residual-in_err-check_areas.result c.from_residual-in_err-check_areas.ensures.1 in
    λ l h. rw (e.1, e.2) (lines.collect_unfit A.encoded.now A.route A.source.now (state_of A.memories.now A.buffer.now l A.status.now) A.grid.now p
    c.in_ok-table.ensures.layout.opened (c.if-grid-table.false ∙ x.sized.cells) _
    (c.in_err-check_areas.ensures.0 l h) (code_some _))

pub tiles_left-requires : goal.tiles_left-requires
tiles_left-requires c =
    let A = c.args in
    let x = c.in_ok-table.table.layout in
    let p = plan_of x.sizes.route x.nest in
    let few = reading.few_words _ _ x.sized A.progress.count c.in_ok-check_areas.ensures.1 in
    let l = take (A.progress.count - 0) (drop 0 A.progress.words) in
    (lines.areas_are p A.source.now (state_of A.memories.now A.buffer.now l A.status.now)
    (lines.unfit_none p A.source.now (state_of A.memories.now A.buffer.now l A.status.now) 0
    (c.in_ok-check_areas.ensures.0 l (reading.part_carries A.progress c.requires few)) refl).0).progress

pub returns-then-tiles_left : goal.returns-then-tiles_left
returns-then-tiles_left c =
    let A = c.args in
    let x = c.in_ok-table.table.layout in
    let p = plan_of x.sizes.route x.nest in
    let few = reading.few_words _ _ x.sized A.progress.count c.in_ok-check_areas.ensures.1 in
    λ l h. lines.collect_left A.encoded.now A.route A.source.now (state_of A.memories.now A.buffer.now l A.status.now) A.grid.now p
    c.in_ok-table.ensures.layout.opened (c.if-grid-table.false ∙ x.sized.cells) 0
    (c.in_ok-check_areas.ensures.0 l h) refl c.tiles_left.result (c.tiles_left.ensures
    ∙ sym (reading.left_as p _ l (reading.part_is A.progress l few h))) c.if-tiles_left.true

pub copy_cells-requires : goal.copy_cells-requires
copy_cells-requires c =
    let A = c.args in
    let x = c.in_ok-table.table.layout in
    let p = plan_of x.sizes.route x.nest in
    let few = reading.few_words _ _ x.sized A.progress.count c.in_ok-check_areas.ensures.1 in
    let l = take (A.progress.count - 0) (drop 0 A.progress.words) in
    record {
      routed = c.in_ok-table.table.tabled.routed;
      memories_len = (
        (lines.areas_are p A.source.now (state_of A.memories.now A.buffer.now l A.status.now)
            (lines.unfit_none p A.source.now (state_of A.memories.now A.buffer.now l A.status.now) 0
            (c.in_ok-check_areas.ensures.0 l (reading.part_carries A.progress c.requires few)) refl).0).memories,
        c.if-grid-table.false ∙ x.sized.cells,
      );
    }

pub returns : goal.returns
returns c =
    let A = c.args in
    let x = c.in_ok-table.table.layout in
    let p = plan_of x.sizes.route x.nest in
    let few = reading.few_words _ _ x.sized A.progress.count c.in_ok-check_areas.ensures.1 in
    λ l h. lines.collect_done A.encoded.now A.route A.source.now (state_of A.memories.now A.buffer.now l A.status.now) A.grid.now p
    c.in_ok-table.ensures.layout.opened (c.if-grid-table.false ∙ x.sized.cells) 0
    (c.in_ok-check_areas.ensures.0 l h) refl c.tiles_left.result (c.tiles_left.ensures
    ∙ sym (reading.left_as p _ l (reading.part_is A.progress l few h))) c.copy_cells.new.grid c.if-tiles_left.false c.copy_cells.ensures
