-- `recipe::lay_out` meets its contract: one law for each return.
use mathlib.Core.Path.{◌∙◌}
use Rattle.std.proofs.lemmas.Result.{err_from_is_err_and}
use Rattle.recipe.proofs.Laws as laws
use Rattle.recipe.proofs.lay_out.Goals as goal

pub returns-in_err-nest : goal.returns-in_err-nest
returns-in_err-nest c =
    let p = err_from_is_err_and c.from_residual.result c.from_residual.ensures.1 in
    rw (p.1, p.2) (laws.refused_layout _ _ c.in_err-nest.ensures)

pub of-requires : goal.of-requires
of-requires c = laws.accepted_for c.in_ok-nest.ensures

pub returns : goal.returns
returns c = laws.laid_out _ _ c.in_ok-nest.ensures c.of.result c.of.ensures.0 (c.of.ensures.1 ∙ c.route_of.ensures)
