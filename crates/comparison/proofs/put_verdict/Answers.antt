-- `comparison::put_verdict` meets its contract.
use Rattle.plan_text.proofs.Laws.{at_end_lem}
use Rattle.comparison.proofs.Lines as L
use native.Mathlib.Omega.{arith}
use Rattle.text.specs.Writing.{pen}
use Rattle.comparison.proofs.put_verdict.Goals as goal

pub verdict-requires : goal.verdict-requires
verdict-requires c = c.requires.1

pub put_bytes-requires : goal.put_bytes-requires
put_bytes-requires c = omega (arith, c.requires.0)

pub returns-then-verdict : goal.returns-then-verdict
returns-then-verdict c =
    let said = c.verdict in
    let w = pen c.args.at c.args.space.now in
    let wrote = c.put_bytes.ensures in
    record { space_after = L.agree_put _ said.result said.ensures.value _ w c.if-verdict.true wrote; upper_bound = omega (arith, at_end_lem w _ _ wrote) }

pub put_bytes-requires-2 : goal.put_bytes-requires-2
put_bytes-requires-2 c = omega (arith, c.requires.0)

pub returns : goal.returns
returns c =
    let said = c.verdict in
    let w = pen c.args.at c.args.space.now in
    let wrote = c.put_bytes-2.ensures in
    record { space_after = L.differ_put _ said.result said.ensures.value _ w c.if-verdict.false wrote; upper_bound = omega (arith, at_end_lem w _ _ wrote) }
