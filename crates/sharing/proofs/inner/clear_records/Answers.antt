use Rattle.sharing.proofs.Starts as starts
use Rattle.engine.proofs.Reading.{zeros_after_no}
use Rattle.sharing.proofs.inner.clear_records.Goals as goal

pub returns-then-number-eq0 : goal.returns-then-number-eq0
returns-then-number-eq0 c =
    starts.cleared c.args.progress.now c.args.number c.if-number-eq0.true _
    (c.fill.ensures.after (λ y e. e))

pub returns-else-number-eq0 : goal.returns-else-number-eq0
returns-else-number-eq0 c = zeros_after_no _ _ c.if-number-eq0.false
