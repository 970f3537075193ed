-- `recipe::open` meets its contract: one law for each return.
use Rattle.std.proofs.lemmas.Result.{err_from_is_err_and}
use Rattle.recipe.proofs.Laws as laws
use Rattle.recipe.proofs.open.Goals as goal

pub returns-in_err-layout : goal.returns-in_err-layout
returns-in_err-layout c =
    let p = err_from_is_err_and c.from_residual.result c.from_residual.ensures.1 in
    rw (p.1, p.2) (laws.refused_table _ _ c.in_err-layout.ensures)

pub returns : goal.returns
returns c = laws.opens_with _ _ _ c.in_ok-layout.ensures c.of.result c.of.ensures
