-- Each return is the call by the line that counts.
use Rattle.std.specs.Prelude.{◌-◌, take, drop}
use mathlib.Core.Path.{refl, sym, ◌∙◌}
use native.Mathlib.Omega.{arith}
use Rattle.std.proofs.lemmas.Result.{err_from_is_err_and}
use Rattle.base.proofs.Codes.{code_some}
use Rattle.machine.specs.Machine.{state_of}
use Rattle.plan.specs.Shaped.{plan_of}
use Rattle.tenants.specs.Tenants.{tenant_areas}
use Rattle.engine.proofs.Reading as reading
use Rattle.sharing.proofs.Lines as lines
use Rattle.sharing.proofs.inner.collect.Goals as goal

pub returns-in_err-table : goal.returns-in_err-table
returns-in_err-table c =
    let A = c.args in
    let e = err_from_is_err_and c.from_residual.result c.from_residual.ensures.1 in
    λ l q h k. rw (e.1, e.2)
    (lines.collect_read A.encoded.now A.route A.source.now A.tenant (tenant_areas (state_of A.memories.now A.buffer.now l
    A.status.now) A.engaged.now) q A.grid.now _ c.in_err-table.ensures.number (code_some _))

pub returns-then-grid-table : goal.returns-then-grid-table
returns-then-grid-table c =
    let A = c.args in
    let table = c.in_ok-table.table in
    let p = plan_of table.layout.sizes.route table.layout.nest in
    λ l q h k. lines.collect_grid A.encoded.now A.route A.source.now A.tenant (tenant_areas (state_of A.memories.now A.buffer.now l
    A.status.now) A.engaged.now) q A.grid.now p c.in_ok-table.ensures.layout.opened
    (λ e. c.if-grid-table.true (e ∙ sym table.layout.sized.cells))

pub returns-in_err-check_areas : goal.returns-in_err-check_areas
returns-in_err-check_areas c =
    let A = c.args in
    let table = c.in_ok-table.table in
    let p = plan_of table.layout.sizes.route table.layout.nest in
    let e = err_from_is_err_and c.from_residual-in_err-check_areas.result c.from_residual-in_err-check_areas.ensures.1 in
    λ l q h k. rw (e.1, e.2)
    (lines.collect_unfit A.encoded.now A.route A.source.now A.tenant (tenant_areas (state_of A.memories.now A.buffer.now l
    A.status.now) A.engaged.now) q A.grid.now p c.in_ok-table.ensures.layout.opened (c.if-grid-table.false ∙ table.layout.sized.cells)
    _ (c.in_err-check_areas.ensures.0 l q h k) (code_some _))

pub slice_bounds-tiles_left-end : goal.slice_bounds-tiles_left-end
slice_bounds-tiles_left-end c =
    let A = c.args in
    let few = reading.few_words _ _ c.in_ok-table.table.layout.sized A.progress.count c.in_ok-check_areas.ensures.1.0 in
    omega (arith, c.requires.0, few)

pub tiles_left-requires : goal.tiles_left-requires
tiles_left-requires c =
    let A = c.args in
    let table = c.in_ok-table.table in
    let p = plan_of table.layout.sizes.route table.layout.nest in
    let own = take (A.progress.count - 0) (drop 0 A.progress.words) in
    let other = take (A.theirs.count - 0) (drop 0 A.theirs.words) in
    let counts = c.in_ok-check_areas.ensures.1 in
    let few = reading.few_words _ _ table.layout.sized A.progress.count counts.0 in
    let few2 = reading.few_words _ _ table.layout.sized A.theirs.count counts.1 in
    let none = lines.unfit_none p A.source.now A.tenant (tenant_areas (state_of A.memories.now A.buffer.now own A.status.now)
    A.engaged.now)
    other 0 (c.in_ok-check_areas.ensures.0 own other (reading.part_carries A.progress c.requires.0 few)
    (reading.part_carries A.theirs c.requires.1 few2)) refl in
    let lengths = lines.lengths_are p A.source.now (tenant_areas (state_of A.memories.now A.buffer.now own A.status.now) A.engaged.now) other
    none.0 in
    lengths.own.progress

pub returns-then-tiles_left : goal.returns-then-tiles_left
returns-then-tiles_left c =
    let A = c.args in
    let table = c.in_ok-table.table in
    let p = plan_of table.layout.sizes.route table.layout.nest in
    let few = reading.few_words _ _ table.layout.sized A.progress.count c.in_ok-check_areas.ensures.1.0 in
    λ l q h k. lines.collect_left A.encoded.now A.route A.source.now A.tenant (tenant_areas (state_of A.memories.now A.buffer.now l
    A.status.now) A.engaged.now) q A.grid.now p c.in_ok-table.ensures.layout.opened (c.if-grid-table.false ∙ table.layout.sized.cells)
    0 (c.in_ok-check_areas.ensures.0 l q h k) refl c.tiles_left.result (c.tiles_left.ensures ∙ sym
    (reading.left_as p _ l (reading.part_is A.progress l few h)))
    c.if-tiles_left.true

pub copy_cells-requires : goal.copy_cells-requires
copy_cells-requires c =
    let A = c.args in
    let table = c.in_ok-table.table in
    let p = plan_of table.layout.sizes.route table.layout.nest in
    let own = take (A.progress.count - 0) (drop 0 A.progress.words) in
    let other = take (A.theirs.count - 0) (drop 0 A.theirs.words) in
    let counts = c.in_ok-check_areas.ensures.1 in
    let few = reading.few_words _ _ table.layout.sized A.progress.count counts.0 in
    let few2 = reading.few_words _ _ table.layout.sized A.theirs.count counts.1 in
    let none = lines.unfit_none p A.source.now A.tenant (tenant_areas (state_of A.memories.now A.buffer.now own A.status.now)
    A.engaged.now)
    other 0 (c.in_ok-check_areas.ensures.0 own other (reading.part_carries A.progress c.requires.0 few)
    (reading.part_carries A.theirs c.requires.1 few2)) refl in
    let lengths = lines.lengths_are p A.source.now (tenant_areas (state_of A.memories.now A.buffer.now own A.status.now) A.engaged.now) other
    none.0 in
    record { routed = table.tabled.routed; memories_len = (lengths.own.memories, c.if-grid-table.false ∙ table.layout.sized.cells) }

pub returns : goal.returns
returns c =
    let A = c.args in
    let table = c.in_ok-table.table in
    let p = plan_of table.layout.sizes.route table.layout.nest in
    let few = reading.few_words _ _ table.layout.sized A.progress.count c.in_ok-check_areas.ensures.1.0 in
    λ l q h k. lines.collect_done A.encoded.now A.route A.source.now A.tenant (tenant_areas (state_of A.memories.now A.buffer.now l
    A.status.now) A.engaged.now) q A.grid.now p c.in_ok-table.ensures.layout.opened (c.if-grid-table.false ∙ table.layout.sized.cells)
    0 (c.in_ok-check_areas.ensures.0 l q h k) refl c.tiles_left.result (c.tiles_left.ensures ∙ sym
    (reading.left_as p _ l (reading.part_is A.progress l few h)))
    c.copy_cells.new.grid c.if-tiles_left.false c.copy_cells.ensures
