-- `inner::as_long_lem` meets its contract.
use native.Mathlib.Omega.{arith}
use Rattle.plan.specs.Shaped.{plan_of}
use Rattle.transport.proofs.arrivals.Taking as taking
use Rattle.transport.proofs.inner.as_long.Goals as goal

pub returns-then-m-t : goal.returns-then-m-t
returns-then-m-t c =
    λ l e. taking.long_beyond (plan_of c.args.table.now.layout.sizes.route c.args.table.now.layout.nest) c.args.m l
    (omega (arith, c.if-m-t.true, c.totals-t.ensures.0))

pub nth-place-requires : goal.nth-place-requires
nth-place-requires c = omega (arith, c.if-m-t.false, c.totals-t.ensures.0)

pub returns : goal.returns
returns c =
    let nth = c.nth-place in
    λ l e. taking.long_by (plan_of c.args.table.now.layout.sizes.route c.args.table.now.layout.nest) c.args.m l
    (omega (arith, c.if-m-t.false, c.totals-t.ensures.0)) c.args.words nth.result.words e
    nth.ensures.words
