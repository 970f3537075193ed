-- `part_calls::fresh` meets its contract: the record's words too.
use mathlib.Core.Path.{refl}
use Rattle.engine.proofs.Reading as reading
use Rattle.part_calls.proofs.fresh.Goals as goal

pub returns-then-number-ne0 : goal.returns-then-number-ne0
returns-then-number-ne0 c =
    let fresh = c.fresh-number in
    let if1 = c.if-number-ne0 in
    let A = c.args in
    reading.not_cleared _ _ _ _ A.progress.now fresh.result (fresh.ensures A.progress.now refl) if1.true

pub returns-else-number-ne0 : goal.returns-else-number-ne0
returns-else-number-ne0 c =
    let fresh = c.fresh-number in
    let if1 = c.if-number-ne0 in
    let A = c.args in
    reading.all_cleared _ _ _ _ A.progress.now fresh.result (fresh.ensures A.progress.now refl) if1.false _ (c.fill.ensures.after (λ y h. h))
