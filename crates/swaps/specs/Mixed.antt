-- Read this. Request W-214 for lists that mix plain turns and turns with hours, of one tenant and of two.
-- The claims are OneTenant's and TwoTenants's: two turns of one processor for one tenant count as the same event, with hours, without, or one of each.
use Rattle.machine.specs.Plan.{Plan}
use Rattle.machine.specs.Machine.{State, Answered}
use Rattle.tenants.specs.Tenants.{Sharing}
use Rattle.calendar.specs.AnyCalls.{Mixed, mixed_event, MixedCall, mixed_call}
use Rattle.swaps.specs.OneTenant.{Demand214}
use Rattle.swaps.specs.TwoTenants.{Demand214For}

-- by the answers that `acts` gives, from `start`, the state after a fresh start
abbrev pub Mixed214 : (State → Mixed → Answered State) → State → Type 0
Mixed214 acts start = Demand214 mixed_event acts start

abbrev pub Mixed214For : Plan → (Sharing → MixedCall → Answered Sharing) → Sharing → Type 0
Mixed214For p acts start = Demand214For mixed_call p acts start
