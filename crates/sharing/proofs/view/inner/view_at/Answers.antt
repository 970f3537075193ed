-- Each refusal is the first line that holds; else the part lies within both tenants' memories.
use mathlib.Core.Path.{refl, sym, ◌∙◌}
use native.Mathlib.Omega.{arith}
use borrow.Author.Tests.{lt-leb}
use Rattle.std.proofs.lemmas.Result.{err_from_is_err_and}
use Rattle.base.proofs.Codes.{code_some}
use Rattle.plan.specs.Shaped.{plan_of}
use Rattle.recipe.proofs.Laws.{direct_lines}
use Rattle.engine.proofs.Lines as lines
use Rattle.engine.specs.Calls.{recipe}
use Rattle.sharing.proofs.view.Seeing as seeing
use Rattle.sharing.proofs.view.inner.view_at.Goals as goal
use Rattle.sharing.proofs.view.inner.view_at.Goals.{then-first-all-via-then-first-all, then-first-all-via-else-first-all+then-second-all}
use Rattle.sharing.proofs.view.inner.view_at.Goals.{then-tenant-gt1-via-then-tenant-gt1, then-tenant-gt1-via-else-tenant-gt1+then-b-processors}

pub returns-in_err-layout : goal.returns-in_err-layout
returns-in_err-layout c =
    let A = c.args in
    let e = err_from_is_err_and c.from_residual.result c.from_residual.ensures.1 in
    rw (e.1, e.2) (
      λ a d h k. seeing.look_read A.encoded.now a d A.tenant A.processor _ (c.in_err-layout.ensures.number ∙ direct_lines A.encoded.now) (code_some _),
      tt,
    )

pub overflow_mul-all : goal.overflow_mul-all
overflow_mul-all c =
    let layout = c.in_ok-layout.layout in
    omega (arith, lines.area_low layout.nest layout.sizes layout.sized)

pub returns-then-first-all : goal.returns-then-first-all
returns-then-first-all c =
    let A = c.args in
    let layout = c.in_ok-layout.layout in
    let p = plan_of layout.sizes.route layout.nest in
    let op = c.in_ok-layout.ensures.layout.opened in
    let long = lines.area_is layout.nest layout.sizes layout.sized in
    elim c.then-first-all.branch [
      | then-first-all-via-then-first-all w ↦ (
        λ a d h k. seeing.look_first A.encoded.now a d A.tenant A.processor p op (λ e. w.if-first-all.true (h ∙ e ∙ sym long)),
        tt,
      )
      | then-first-all-via-else-first-all+then-second-all w ↦ (
        λ a d h k. seeing.look_second A.encoded.now a d A.tenant A.processor p op (λ e. w.if-second-all.true (k ∙ e ∙ sym long)),
        tt,
      )
    ]

pub returns-then-tenant-gt1 : goal.returns-then-tenant-gt1
returns-then-tenant-gt1 c =
    let A = c.args in
    let layout = c.in_ok-layout.layout in
    let p = plan_of layout.sizes.route layout.nest in
    let op = c.in_ok-layout.ensures.layout.opened in
    let long = lines.area_is layout.nest layout.sizes layout.sized in
    elim c.then-tenant-gt1.branch [
      | then-tenant-gt1-via-then-tenant-gt1 w ↦ (
        λ a d h k. seeing.look_tenant A.encoded.now a d A.tenant A.processor p op (sym h ∙ c.if-first-all.false ∙ long)
            (sym k ∙ c.if-second-all.false ∙ long) (lt-leb _ _ w.if-tenant-gt1.true),
        tt,
      )
      | then-tenant-gt1-via-else-tenant-gt1+then-b-processors w ↦ (
        λ a d h k. seeing.look_beyond A.encoded.now a d A.tenant A.processor p op (sym h ∙ c.if-first-all.false ∙ long)
            (sym k ∙ c.if-second-all.false ∙ long) (omega (arith, w.if-b-processors.true, layout.sized.processors)),
        tt,
      )
    ]

pub overflow_mul-result : goal.overflow_mul-result
overflow_mul-result c =
    let A = c.args in
    let layout = c.in_ok-layout.layout in
    omega (
      arith,
      lines.area_low layout.nest layout.sizes layout.sized,
      seeing.part_inside layout.sizes.processors A.processor layout.sizes.cells c.if-b-processors.false,
    )

pub returns : goal.returns
returns c =
    let A = c.args in
    let layout = c.in_ok-layout.layout in
    let sized = layout.sized in
    let p = plan_of layout.sizes.route layout.nest in
    let op = c.in_ok-layout.ensures.layout.opened in
    let long = lines.area_is layout.nest layout.sizes sized in
    let low = lines.area_low layout.nest layout.sizes sized in (
      λ a d h k. seeing.look_found A.encoded.now a d A.tenant A.processor p op (sym h ∙ c.if-first-all.false ∙ long) (sym k ∙ c.if-second-all.false ∙ long)
          (omega (arith, c.if-tenant-gt1.false)) (omega (arith, c.if-b-processors.false, sized.processors)),
      seeing.seen_at p (recipe A.encoded.now 0)
          op.is A.first A.second A.processor layout.sizes.processors layout.sizes.cells _ c.if-first-all.false c.if-second-all.false
          sized.cells c.if-b-processors.false low refl refl,
    )
