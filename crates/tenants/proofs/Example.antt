-- The claims are about something: the 16-tile plan of the machine's example is sound, so two tenants may share its four processors.
use mathlib.Core.List.{List}
use Rattle.machine.proofs.ComputedRun.{rows}
use Rattle.machine.proofs.Example.{sound}
use Rattle.tenants.specs.Tenants.{Sources, fresh_sharing, Call, act_on, collect_on}
use Rattle.tenants.specs.Demand208.{Demand208}
use Rattle.tenants.proofs.Theorem208.{theorem208}

holds : (sources : Sources) (calls : List Call) → Demand208 (act_on rows sources) (fresh_sharing rows) calls rows sources (collect_on rows)
holds = theorem208 rows sound
