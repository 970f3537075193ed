use mathlib.Core.Path.{refl, ap}
use Rattle.std.specs.Prelude.{Result}
use Rattle.base.specs.declared.refusal.Refusal.{Refusal}
use Rattle.base.specs.Refusals.{number_of}
use Rattle.records.specs.declared.Progress.{Progress}
use Rattle.sharing.proofs.inner.store_after.Goals as goal

pub store_record-requires : goal.store_record-requires
store_record-requires c = c.requires (ap (λ (r : Result Progress Refusal). number_of r) c.in-Ok.is)

pub returns-in-Ok : goal.returns-in-Ok
returns-in-Ok c = rw c.in-Ok.is (c.store_record.ensures, refl)

pub returns-in-Err : goal.returns-in-Err
returns-in-Err c = rw c.in-Err.is (refl, c.number.ensures)
