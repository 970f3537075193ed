-- The fingerprint, behind the number 0.
use Rattle.std.specs.Prelude.{ℕ}
use mathlib.Core.Path.{ap}
use Rattle.calls.specs.declared.mail.Fingerprint.{Fingerprint}
use Rattle.calls.proofs.mail.rolwyddac_fingerprint.Goals as goal

abbrev told : ℕ → Fingerprint
told x = record { number = 0; fingerprint = x }

pub returns : goal.returns
returns c = ap told c.fingerprint.ensures
