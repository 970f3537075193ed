-- Request W-214 holds of the calls over words, for one tenant and for two, with hours and without: each are calls that answer like the machine
-- or the sharing, but may refuse more.
use Prim.Native.Nat.{ℕ}
use mathlib.Core.Path.{◌≡◌}
use mathlib.Core.List.{List}
use lib.ListN.{length}
use Rattle.base.specs.Lists.{Bytes}
use Rattle.base.specs.Numbers.{first_of}
use Rattle.machine.specs.Plan.{Sound}
use Rattle.machine.specs.Machine.{State, Answered}
use Rattle.machine.specs.Runs.{Event, act}
use Rattle.machine.proofs.Kept.{Inv}
use Rattle.machine.proofs.Guards.{Guards}
use Rattle.tenants.specs.Tenants.{Sharing, Sources, source_for, Call, act_on}
use Rattle.tenants.proofs.Engaged.{SharingInv}
use Rattle.calendar.specs.Windows.{TimedCall, event_of, call_of}
use Rattle.swaps.specs.OneTenant.{plainly, Demand214}
use Rattle.swaps.specs.TwoTenants.{wholly, Demand214For}
use Rattle.swaps.proofs.OneTenant as single
use Rattle.swaps.proofs.TwoTenants as both
use Rattle.layout.specs.RouteWords.{route_of}
use Rattle.recipe.specs.Routes.{lines_for}
use Rattle.engine.specs.Calls.{recipe, fresh_call}
use Rattle.engine.specs.Demands.{calls}
use Rattle.engine.proofs.Lines.{areas_are}
use Rattle.engine.proofs.AsSteps.{fresh_gave}
use Rattle.engine.proofs.AsRuns as engine
use Rattle.engine.proofs.Demands.{demands}
use Rattle.sharing.specs.Calls.{fresh_sharing_call, sharing_calls}
use Rattle.sharing.proofs.AsRuns as sharing
use Rattle.sharing.proofs.Demands.{sound_plan}
use Rattle.calendar_calls.specs.Calls.{calls_at, sharing_calls_at}
use Rattle.calendar_calls.proofs.AsRuns.{AllowedHere, guards, guards_for}
use Rattle.guarantees.specs.Demands214.{Demands214}

-- ---- one tenant
module _ (bytes : List ℕ) (route : ℕ) (source : List ℕ) (s : State) (small : Bytes bytes)
    (z : (fresh_call bytes route source s).number ≡ 0) where
  pub reads : first_of (lines_for (route_of route) bytes) ≡ 0
  reads = (fresh_gave bytes route source s z).0

  pub long : length source ≡ (recipe bytes route).cells
  long = (areas_are (recipe bytes route) source s (fresh_gave bytes route source s z).1).source

  pub so : Sound (recipe bytes route)
  so = sound_plan bytes route small reads

  pub one_for : {X : Type 0} (event_of : X → Event) (acts : State → X → Answered State) (allowed : X → Type 0)
      → Guards (Inv (recipe bytes route) source) (act (recipe bytes route) source) acts event_of allowed
      → Demand214 event_of acts (fresh_call bytes route source s).after
  one_for event_of acts allowed guards =
      rw ((demands.one bytes route source s).fresh.works z)
      (single.demand214 (recipe bytes route) so source event_of acts allowed guards)

  one : Demand214 plainly (calls bytes route source) (fresh_call bytes route source s).after
  one =
      one_for plainly (calls bytes route source) (λ e. Unit {0})
      (single.likewise (recipe bytes route) source (calls bytes route source) (engine.same bytes route source reads so long))

  one_at : Demand214 event_of (calls_at bytes route source) (fresh_call bytes route source s).after
  one_at =
      one_for event_of (calls_at bytes route source) (AllowedHere (recipe bytes route)) (guards bytes route source reads so long)

-- ---- two tenants
module _ (bytes : List ℕ) (route : ℕ) (sources : Sources) (r : Sharing) (small : Bytes bytes)
    (z : (fresh_sharing_call bytes route sources r).number ≡ 0) where
  pub sharing_reads : first_of (lines_for (route_of route) bytes) ≡ 0
  sharing_reads = sharing.fresh_reads bytes route sources r z

  pub sharing_long : (o : ℕ) → length (source_for sources o) ≡ (recipe bytes route).cells
  sharing_long = sharing.fresh_sources bytes route sources r z

  pub two_for : {C : Type 0} (call_of : C → Call) (acts : Sharing → C → Answered Sharing) (allowed : C → Type 0)
      → Guards (SharingInv (recipe bytes route) sources) (act_on (recipe bytes route) sources) acts call_of allowed
      → Demand214For call_of (recipe bytes route) acts (fresh_sharing_call bytes route sources r).after
  two_for call_of acts allowed guards =
      rw (sharing.fresh_is bytes route sources r z)
      (both.demand214_for (recipe bytes route) (sound_plan bytes route small sharing_reads) sources call_of acts allowed guards)

  two : Demand214For wholly (recipe bytes route) (sharing_calls bytes route sources) (fresh_sharing_call bytes route sources r).after
  two =
      two_for wholly (sharing_calls bytes route sources) (λ c. Unit {0})
      (both.likewise (recipe bytes route) sources (sharing_calls bytes route sources) (sharing.alike bytes route sources sharing_reads sharing_long))

  two_at : Demand214For call_of (recipe bytes route) (sharing_calls_at bytes route sources) (fresh_sharing_call bytes route sources r).after
  two_at =
      two_for call_of (sharing_calls_at bytes route sources) (λ (c : TimedCall). AllowedHere (recipe bytes route) c.event)
      (guards_for bytes route sources sharing_reads sharing_long)

pub demands214 : Demands214
demands214 = record { one = one; two = two; one_at = one_at; two_at = two_at }
