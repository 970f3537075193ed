-- Each return is the call by the line that counts.
use mathlib.Core.Path.{sym, ◌∙◌}
use Rattle.std.proofs.lemmas.Result.{err_from_is_err_and}
use Rattle.base.proofs.Codes.{code_some}
use Rattle.plan.specs.Shaped.{plan_of}
use Rattle.recipe.proofs.Laws.{direct_lines}
use Rattle.schedule.proofs.Telling as telling
use Rattle.schedule.proofs.tell.Goals as goal

pub returns-in_err-direct : goal.returns-in_err-direct
returns-in_err-direct c =
    let A = c.args in
    let e = err_from_is_err_and c.from_residual.result c.from_residual.ensures.1 in
    rw (e.1, e.2) (telling.told_read A.encoded.now A.rounds.now _ (c.in_err-direct.ensures.number ∙ direct_lines A.encoded.now) (code_some _))

pub returns-then-rounds-tiles_of : goal.returns-then-rounds-tiles_of
returns-then-rounds-tiles_of c =
    let A = c.args in
    let x = c.in_ok-direct.direct.layout in
    telling.told_area A.encoded.now A.rounds.now (plan_of x.sizes.route x.nest) c.in_ok-direct.ensures.layout.opened
    (λ q. c.if-rounds-tiles_of.true (q ∙ sym c.tiles_of.ensures.0))

pub tell_rounds-requires : goal.tell_rounds-requires
tell_rounds-requires c = c.if-rounds-tiles_of.false ∙ c.tiles_of.ensures.0

pub returns : goal.returns
returns c =
    let A = c.args in
    let x = c.in_ok-direct.direct.layout in
    telling.told_done A.encoded.now A.rounds.now (plan_of x.sizes.route x.nest) c.in_ok-direct.ensures.layout.opened
    (c.if-rounds-tiles_of.false ∙ c.tiles_of.ensures.0) _ c.tell_rounds.ensures
