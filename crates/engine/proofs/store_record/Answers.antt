use mathlib.Core.Path.{refl}
use Rattle.machine.specs.Machine.{set_progress}
use Rattle.engine.proofs.store_record.Goals as goal

pub returns : goal.returns
unfolding set_progress
returns c = refl
