-- The step's answer, and the word stored by the stage that it left.
use mathlib.Core.Path.{refl}
use Rattle.std.proofs.lemmas.Result.{err_from_is_err_and}
use Rattle.sharing.proofs.inner.step_for.Goals as goal

pub returns-in_err-after : goal.returns-in_err-after
returns-in_err-after c =
    let e = err_from_is_err_and c.from_residual.result c.from_residual.ensures.1 in
    rw (e.1, e.2) (refl, c.in_err-after.ensures)

pub returns : goal.returns
returns c = rw c.word_for.ensures (refl, c.in_ok-after.ensures)
