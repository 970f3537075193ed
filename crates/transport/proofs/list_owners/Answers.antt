-- `transport::list_owners` meets its contract: each return by the line that counts.
use mathlib.Core.Path.{refl, sym, ap, ◌∙◌}
use Rattle.std.proofs.lemmas.Result.{err_from_is_err_and}
use Rattle.base.proofs.Codes.{code_some}
use Rattle.nest.specs.Nest.{cells}
use Rattle.nest.proofs.Answers.{accepted_read}
use Rattle.plan.specs.declared.Route.TheVariants.{Direct}
use Rattle.plan.specs.Shaped.{plan_of}
use Rattle.engine.proofs.Lines as lines
use Rattle.transport.proofs.Answers as answers
use Rattle.transport.proofs.list_owners.Goals as goal

pub returns-in_err-nest : goal.returns-in_err-nest
returns-in_err-nest c =
    let e = err_from_is_err_and c.from_residual.result c.from_residual.ensures.1 in
    rw (e.1, e.2) (answers.owners_read c.args.encoded.now c.args.out.now _ c.in_err-nest.ensures.number (code_some _))

pub of-layout-requires : goal.of-layout-requires
of-layout-requires c = accepted_read c.in_ok-nest.ensures

pub returns-then-out-layout : goal.returns-then-out-layout
returns-then-out-layout c =
    let nest = c.of-layout.ensures.0 in
    answers.owners_area c.args.encoded.now c.args.out.now (plan_of Direct c.in_ok-nest.nest) (lines.opened_direct c.in_ok-nest.ensures {route = Direct} refl)
    (λ q. c.if-out-layout.true (q ∙ ap cells (sym nest) ∙ sym c.of-layout.result.sized.cells))

pub put_owners-requires : goal.put_owners-requires
put_owners-requires c = c.if-out-layout.false ∙ c.of-layout.result.sized.cells

pub returns : goal.returns
returns c =
    let nest = c.of-layout.ensures.0 in
    answers.owners_done c.args.encoded.now c.args.out.now (plan_of Direct c.in_ok-nest.nest) (lines.opened_direct c.in_ok-nest.ensures {route = Direct} refl)
    (c.if-out-layout.false ∙ c.of-layout.result.sized.cells ∙ ap cells nest) _ (rw nest at c.put_owners.ensures)
