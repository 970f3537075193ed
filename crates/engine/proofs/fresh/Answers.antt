use mathlib.Core.Path.{refl}
use Rattle.std.proofs.Common.{rules}
use Rattle.base.proofs.Codes.{code_some}
use Rattle.engine.proofs.Reading as reading
use Rattle.engine.proofs.fresh.Goals as goal

pub returns-in-Err : goal.returns-in-Err
returns-in-Err c =
    let A = c.args in
    rw c.number.ensures (reading.not_cleared _ _ _ _ A.progress.now _ (c.in-Err.ensures A.progress.now refl) (code_some _))

pub returns : goal.returns
returns c =
    let A = c.args in
    reading.all_cleared _ _ _ _ A.progress.now 0 (c.in-Ok.ensures A.progress.now refl) refl _ (search rules)
