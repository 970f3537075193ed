-- All words passed are fit.
use Rattle.std.specs.Prelude.{◌≡◌, ◌≤◌, true, length}
use Rattle.base.specs.Tests.{every}
use Rattle.machine.specs.Machine.{progress_only}
use Rattle.tenants.specs.Tenants.{tenant_areas, fit_word}
use Rattle.sharing.proofs.admission.fit_words.Given as goal

abbrev pub invariant-loop-b : goal.invariant-loop-b
invariant-loop-b l =
    (l.b ≤ length l.engaged) × (every (fit_word l.tenant (tenant_areas (progress_only l.progress) l.engaged) l.theirs) l.b ≡
    true)
