-- `summary::hops` meets its contract.
use mathlib.Core.Path.{◌∙◌}
use native.Mathlib.Omega.{arith}
use Rattle.base.proofs.Codes.{code_some}
use Rattle.summary.proofs.Answers as L
use Rattle.summary.proofs.hops.Goals as goal

pub returns-in-Err : goal.returns-in-Err
returns-in-Err c = c.no_hops.ensures ∙ L.hops_refused _ c.args.m _ c.in-Err.ensures.number (code_some c.in-Err.refusal)

pub returns-then-message-total : goal.returns-then-message-total
returns-then-message-total c =
    c.no_hops-then-message-total.ensures ∙ L.hops_none _ c.args.m _ c.in-Ok.ensures.layout.opened (omega (arith, c.totals-total.ensures.0, c.if-message-total.true))

pub hops_at-requires : goal.hops_at-requires
hops_at-requires c =
    record {
      sized = L.direct_route c.in-Ok.ensures.layout.route;
      m_bound = omega (arith, c.totals-total.ensures.0, c.if-message-total.false);
    }

pub returns : goal.returns
returns c =
    let is = c.in-Ok.ensures.layout in
    L.hops_is _ c.args.m _ is.opened (omega (arith, c.totals-total.ensures.0, c.if-message-total.false)) _ is.nest _ c.hops_at.ensures
