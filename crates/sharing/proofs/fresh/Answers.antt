-- The call without the records, and these as the number says.
use mathlib.Core.Path.{refl}
use Rattle.sharing.proofs.Starts as starts
use Rattle.sharing.proofs.fresh.Goals as goal

pub returns : goal.returns
returns c =
    let A = c.args in
    starts.both_stored c.number_of-number.result _ _ _ _ _ _ A.progress0.now A.progress1.now _ _ _ _ c.clear_records.ensures
    c.clear_records-2.ensures (rw c.number_of-number.ensures (c.fresh-answer.ensures A.progress0.now A.progress1.now refl refl))
