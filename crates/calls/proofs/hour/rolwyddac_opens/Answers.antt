-- Each return is what is told by the line that counts.
use mathlib.Core.Path.{refl}
use Rattle.base.proofs.Codes.{code_some}
use Rattle.calendar.specs.Windows.{moment_of}
use Rattle.calls.proofs.Opens as L
use Rattle.calls.proofs.hour.rolwyddac_opens.Goals as goal

pub returns-in-Ok : goal.returns-in-Ok
returns-in-Ok c =
    let A = c.args in
    L.opens_done A.encoded.now (moment_of A.hours.now A.minute) A.processor 0 c.in-Ok.opening c.in-Ok.ensures refl _ c.tell_opening.ensures

pub returns-in-Err : goal.returns-in-Err
returns-in-Err c =
    let A = c.args in
    L.opens_none A.encoded.now (moment_of A.hours.now A.minute) A.processor _ _ c.in-Err.ensures (code_some c.in-Err.refusal) _
    (rw c.number.ensures at c.tell.ensures)
