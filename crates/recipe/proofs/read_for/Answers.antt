-- `recipe::read_for` meets its contract: one law for each return.
use Rattle.std.proofs.lemmas.Result.{err_from_is_err_and}
use Rattle.layout.proofs.Steps.{route_direct, route_indirect}
use Rattle.recipe.proofs.Laws as L
use Rattle.recipe.proofs.read_for.Goals as goal
use Rattle.recipe.proofs.read_for.Goals.{else-nest-gt0-via-then-nest-gt0+else-route-ne0, else-nest-gt0-via-else-nest-gt0}
use native.Mathlib.Omega.{arith}

pub returns-in_err-nest : goal.returns-in_err-nest
returns-in_err-nest c =
    let p = err_from_is_err_and c.from_residual.result c.from_residual.ensures.1 in
    rw (p.1, p.2) (L.reader's _ c.in_err-nest.ensures)

pub returns-then-route-ne0 : goal.returns-then-route-ne0
returns-then-route-ne0 c = L.barred c.in_ok-nest.ensures _ (route_indirect _ c.if-route-ne0.true) c.if-nest-gt0.true

pub returns : goal.returns
returns c =
    elim c.else-nest-gt0.branch [
      | else-nest-gt0-via-then-nest-gt0+else-route-ne0 w ↦ L.straight c.in_ok-nest.ensures _ (route_direct _ w.if-route-ne0.false)
      | else-nest-gt0-via-else-nest-gt0 w ↦ L.without c.in_ok-nest.ensures _ (omega (arith, w.if-nest-gt0.false))
    ]
