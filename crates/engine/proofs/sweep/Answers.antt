-- Each return is the call by the line that counts.
use mathlib.Core.Path.{sym, ◌∙◌}
use Rattle.base.specs.Refusals.{code}
use Rattle.base.proofs.Codes.{code_some}
use Rattle.nest.proofs.Answers.{accepted_read}
use Rattle.plan.specs.declared.Route.TheVariants.{Direct}
use Rattle.plan.specs.Shaped.{plan_of}
use Rattle.engine.proofs.Lines as lines
use Rattle.engine.proofs.sweep.Goals as goal

pub returns-in-Err : goal.returns-in-Err
returns-in-Err c =
    let A = c.args in
    rw c.number.ensures
    (lines.sweep_read A.encoded.now A.source.now A.grid.now (code c.in-Err.refusal) c.in-Err.ensures.number (code_some c.in-Err.refusal))

pub of-layout-requires : goal.of-layout-requires
of-layout-requires c = accepted_read c.in-Ok.ensures

pub returns-then-source-layout : goal.returns-then-source-layout
returns-then-source-layout c =
    let A = c.args in
    let x = c.of-layout.result in
    rw c.number-then-source-layout.ensures (lines.sweep_source A.encoded.now A.source.now A.grid.now (plan_of Direct x.nest) (lines.laid_direct c.in-Ok.ensures x.nest c.of-layout.ensures.0)
    (λ q. c.if-source-layout.true (q ∙ sym x.sized.cells)))

pub returns-then-grid-layout : goal.returns-then-grid-layout
returns-then-grid-layout c =
    let A = c.args in
    let x = c.of-layout.result in
    rw c.number-then-grid-layout.ensures (lines.sweep_grid A.encoded.now A.source.now A.grid.now (plan_of Direct x.nest) (lines.laid_direct c.in-Ok.ensures x.nest c.of-layout.ensures.0)
    (λ q. c.if-grid-layout.true (q ∙ sym x.sized.cells)))

pub returns-then-layout-eq0 : goal.returns-then-layout-eq0
returns-then-layout-eq0 c =
    let A = c.args in
    let x = c.of-layout.result in
    let box-source = c.if-source-layout.false ∙ x.sized.cells in
    let box-grid = c.if-grid-layout.false ∙ x.sized.cells in
    lines.sweep_done A.encoded.now A.source.now A.grid.now (plan_of Direct x.nest) (lines.laid_direct c.in-Ok.ensures x.nest c.of-layout.ensures.0)
    c.sweep.new.grid box-source box-grid (lines.box_swept x.nest x.sized.accepted c.if-layout-eq0.true _ _ c.sweep.ensures)

pub returns : goal.returns
returns c =
    let A = c.args in
    let x = c.of-layout.result in
    let shape-source = c.if-source-layout.false ∙ x.sized.cells in
    let shape-grid = c.if-grid-layout.false ∙ x.sized.cells in
    lines.sweep_done A.encoded.now A.source.now A.grid.now (plan_of Direct x.nest) (lines.laid_direct c.in-Ok.ensures x.nest c.of-layout.ensures.0)
    c.sweep-2.new.grid shape-source shape-grid c.sweep-2.ensures
