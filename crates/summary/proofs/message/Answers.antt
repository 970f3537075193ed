-- `summary::message` meets its contract.
use mathlib.Core.Path.{◌∙◌}
use native.Mathlib.Omega.{arith}
use Rattle.base.proofs.Codes.{code_some}
use Rattle.summary.proofs.Answers as L
use Rattle.summary.proofs.message.Goals as goal

pub returns-in-Err : goal.returns-in-Err
returns-in-Err c = c.no_line.ensures ∙ L.message_refused _ _ c.args.m _ c.in-Err.ensures.number (code_some c.in-Err.refusal)

pub returns-then-at-total : goal.returns-then-at-total
returns-then-at-total c =
    c.no_line-then-at-total.ensures ∙ L.message_none _ _ c.args.m _ c.in-Ok.ensures.layout.opened (omega (arith, c.totals-total.ensures.0, c.if-at-total.true))

pub line_of-requires : goal.line_of-requires
line_of-requires c = record { m_bound = omega (arith, c.totals-total.ensures.0, c.if-at-total.false) }

pub returns : goal.returns
returns c =
    c.line_of.ensures ∙ L.message_is _ _ c.args.m _ c.in-Ok.ensures.layout.opened (omega (arith, c.totals-total.ensures.0, c.if-at-total.false))
