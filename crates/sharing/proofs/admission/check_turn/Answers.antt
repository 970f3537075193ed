-- Each return is the first line that holds, up to the machine's.
use Rattle.std.specs.Prelude.{◌-◌, take, drop}
use mathlib.Core.Path.{refl, sym, ◌∙◌}
use native.Mathlib.Omega.{arith}
use borrow.Author.Tests.{leb-true}
use Rattle.std.proofs.lemmas.Result.{err_from_is_err_and}
use Rattle.base.proofs.Codes.{code_some}
use Rattle.machine.specs.Machine.{state_of}
use Rattle.plan.specs.Shaped.{plan_of}
use Rattle.tenants.specs.Tenants.{tenant_areas}
use Rattle.engine.proofs.Reading as reading
use Rattle.sharing.proofs.Lines as lines
use Rattle.sharing.proofs.admission.check_turn.Goals as goal

pub returns-in_err-check_areas : goal.returns-in_err-check_areas
returns-in_err-check_areas c =
    let A = c.args in
    let p = plan_of A.table.now.layout.sizes.route A.table.now.layout.nest in
    let e = err_from_is_err_and c.from_residual.result c.from_residual.ensures.1 in
    rw (e.1, e.2) (
      λ l q h k. lines.barred_unfit p A.source.now A.tenant (tenant_areas (state_of A.memories.now A.buffer.now l A.status.now)
          A.engaged.now)
          q A.b _ (c.in_err-check_areas.ensures.0 l q h k) (code_some _),
      tt,
    )

pub returns-then-b-table : goal.returns-then-b-table
returns-then-b-table c =
    let A = c.args in
    let p = plan_of A.table.now.layout.sizes.route A.table.now.layout.nest in (
      λ l q h k. lines.barred_beyond p A.source.now A.tenant (tenant_areas (state_of A.memories.now A.buffer.now l A.status.now)
          A.engaged.now) q A.b 0
          (c.in_ok-check_areas.ensures.0 l q h k) refl (omega (arith, c.args.table.now.layout.sized.processors, c.if-b-table.true)),
      tt,
    )

pub slice_bounds-held_by_other-end : goal.slice_bounds-held_by_other-end
slice_bounds-held_by_other-end c =
    let A = c.args in
    let few = reading.few_words _ _ c.args.table.now.layout.sized A.progress.count c.in_ok-check_areas.ensures.1.0 in
    omega (arith, c.requires.words_len.0, few)

pub held_by_other-requires : goal.held_by_other-requires
held_by_other-requires c =
    let A = c.args in
    let p = plan_of A.table.now.layout.sizes.route A.table.now.layout.nest in
    let counts = c.in_ok-check_areas.ensures.1 in
    let few = reading.few_words _ _ c.args.table.now.layout.sized A.progress.count counts.0 in
    let few2 = reading.few_words _ _ c.args.table.now.layout.sized A.theirs.count counts.1 in
    let own = take (A.progress.count - 0) (drop 0 A.progress.words) in
    let other = take (A.theirs.count - 0) (drop 0 A.theirs.words) in
    let none = lines.unfit_none p A.source.now A.tenant (tenant_areas (state_of A.memories.now A.buffer.now own A.status.now)
    A.engaged.now)
    other 0 (c.in_ok-check_areas.ensures.0 own other
    (reading.part_carries A.progress c.requires.words_len.0 few)
    (reading.part_carries A.theirs c.requires.words_len.1 few2)) refl in
    let lengths = lines.lengths_are p A.source.now (tenant_areas (state_of A.memories.now A.buffer.now own A.status.now) A.engaged.now)
    other none.0 in record {
      progress_len = (lengths.own.progress, lengths.engaged);
      b_bound = (
        omega (arith, c.args.table.now.layout.sized.processors, c.if-b-table.false),
        leb-true _ _ none.1.tenant,
      );
    }

pub returns-then-held_by_other : goal.returns-then-held_by_other
returns-then-held_by_other c =
    let A = c.args in
    let p = plan_of A.table.now.layout.sizes.route A.table.now.layout.nest in
    let few = reading.few_words _ _ c.args.table.now.layout.sized A.progress.count c.in_ok-check_areas.ensures.1.0 in
    let own = take (A.progress.count - 0) (drop 0 A.progress.words) in (
      λ l q h k. lines.barred_held p A.source.now A.tenant (tenant_areas (state_of A.memories.now A.buffer.now l A.status.now)
          A.engaged.now)
          q A.b 0
          (c.in_ok-check_areas.ensures.0 l q h k) refl (omega (arith, c.args.table.now.layout.sized.processors, c.if-b-table.false))
          (lines.held_as p A.tenant A.memories.now A.buffer.now own l A.status.now A.engaged.now A.b
          (reading.part_is A.progress l few h)
          ∙ sym c.held_by_other.ensures ∙ c.if-held_by_other.true),
      tt,
    )

pub returns : goal.returns
returns c =
    let A = c.args in
    let p = plan_of A.table.now.layout.sizes.route A.table.now.layout.nest in
    let counts = c.in_ok-check_areas.ensures.1 in
    let few = reading.few_words _ _ c.args.table.now.layout.sized A.progress.count counts.0 in
    let own = take (A.progress.count - 0) (drop 0 A.progress.words) in (
      λ l q h k. lines.barred_0 p A.source.now A.tenant (tenant_areas (state_of A.memories.now A.buffer.now l A.status.now) A.engaged.now)
          q
          A.b 0
          (c.in_ok-check_areas.ensures.0 l q h k) refl (omega (arith, c.args.table.now.layout.sized.processors, c.if-b-table.false))
          (lines.held_as p A.tenant A.memories.now A.buffer.now own l A.status.now A.engaged.now A.b
          (reading.part_is A.progress l few h)
          ∙ sym c.held_by_other.ensures ∙ c.if-held_by_other.false),
      counts,
    )
