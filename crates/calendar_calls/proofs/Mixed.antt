-- Plain calls and calls with hours in one list: both kinds are guarded, so their mixture is, and the claims about guarded calls hold of it.
use Rattle.std.specs.Prelude.{◌≡◌, ℕ, ◌≤◌, List, length}
use Rattle.base.specs.Numbers.{first_of}
use Rattle.machine.specs.Plan.{Plan, Sound}
use Rattle.machine.specs.Machine.{Answered, fresh}
use Rattle.machine.proofs.Guards.{Guards}
use Rattle.machine.proofs.AnyCalls.{Allowed as Both, guards_mixed}
use Rattle.tenants.specs.Tenants.{Sharing, Sources, source_for, fresh_sharing, act_on}
use Rattle.tenants.specs.AnyCalls.{Alone208}
use Rattle.tenants.proofs.Engaged.{SharingInv}
use Rattle.tenants.proofs.Views.{words208}
use Rattle.calendar.specs.Windows.{event_of, TimedCall, call_of}
use Rattle.calendar.specs.AnyCalls.{Words212, Words212For, Mixed, MixedCall, mixed_call, Mixed212, Mixed212For}
use Rattle.calendar.proofs.Allowed.{open_allowed}
use Rattle.calendar.proofs.AnyCalls.{words_guarded, mixed212_for, mixed212_on}
use Rattle.layout.specs.RouteWords.{route_of}
use Rattle.recipe.specs.Routes.{lines_for}
use Rattle.engine.specs.Calls.{recipe, collect_call}
use Rattle.engine.specs.Demands as engine
use Rattle.engine.proofs.AsRuns.{same, inv_areas}
use Rattle.engine.proofs.AsSteps.{collect_is}
use Rattle.sharing.specs.Calls.{sharing_calls, sharing_collects}
use Rattle.sharing.proofs.Words as plain
use Rattle.calendar_calls.specs.Calls.{calls_at, sharing_calls_at}
use Rattle.calendar_calls.specs.Demands.{mixed_calls, mixed_sharing_calls}
use Rattle.calendar_calls.proofs.AsRuns.{AllowedHere, guards, guards_for, collects_is}

-- ---- one tenant
module _ (bytes : List ℕ) (route : ℕ) (source : List ℕ) (ok : first_of (lines_for (route_of route) bytes) ≡ 0)
    (so : Sound (recipe bytes route)) (long : length source ≡ (recipe bytes route).cells) where
  abbrev p : Plan
  p = recipe bytes route

  pub run_words : Words212 (calls_at bytes route source) (fresh p) p source
  run_words = words_guarded p so source event_of (calls_at bytes route source) (AllowedHere p) (guards bytes route source ok so long)

  pub run_mixed : (calls : List Mixed) → Mixed212 (mixed_calls bytes route source) (fresh p) p source (collect_call bytes route source) calls
  run_mixed calls =
      mixed212_for p so source (engine.calls bytes route source) (same bytes route source ok so long) (calls_at bytes route source) (AllowedHere p)
      (guards bytes route source ok so long) (λ m. tt) (λ calendar minute b f low h. (f.long, open_allowed p calendar minute b f low h)) calls
      (collect_call bytes route source)
      (λ s good grid len. collect_is bytes route source s ok (inv_areas bytes route source ok so long s good) grid len)

-- ---- two tenants
module _ (bytes : List ℕ) (route : ℕ) (sources : Sources) (ok : first_of (lines_for (route_of route) bytes) ≡ 0)
    (so : Sound (recipe bytes route)) (long : (o : ℕ) → length (source_for sources o) ≡ (recipe bytes route).cells) where
  abbrev q : Plan
  q = recipe bytes route

  abbrev G : Sharing → Type 0
  G = SharingInv q sources

  abbrev Open : TimedCall → Type 0
  Open c = AllowedHere q c.event

  pub run_words_for : Words212For (sharing_calls_at bytes route sources) (fresh_sharing q) q sources
  run_words_for = words208 q so sources call_of (sharing_calls_at bytes route sources) Open (guards_for bytes route sources ok long)

  abbrev acts_for : Sharing → MixedCall → Answered Sharing
  acts_for = mixed_sharing_calls bytes route sources

  abbrev pub AllowsFor : MixedCall → Type 0
  AllowsFor = Both G (act_on q sources) (sharing_calls bytes route sources) (sharing_calls_at bytes route sources) (λ c. c) call_of (λ c. Unit {0}) Open

  pub both_for : Guards G (act_on q sources) acts_for mixed_call AllowsFor
  both_for =
      guards_mixed G (act_on q sources) (sharing_calls bytes route sources) (sharing_calls_at bytes route sources) (λ c. c) call_of (λ c. Unit {0}) Open
      (plain.guards bytes route sources ok long) (guards_for bytes route sources ok long)

  pub run_mixed_for : (calls : List MixedCall) → Mixed212For acts_for (fresh_sharing q) q sources (sharing_collects bytes route sources) calls
  run_mixed_for calls =
      mixed212_on q so sources (sharing_calls bytes route sources) (plain.guards bytes route sources ok long) (sharing_calls_at bytes route sources) Open
      (guards_for bytes route sources ok long) (λ o m. tt) (λ calendar minute o b f low h. (f.long, open_allowed q calendar minute b f low h)) calls
      (sharing_collects bytes route sources) (collects_is bytes route sources ok long)

pub run_alone : (bytes : List ℕ) (route : ℕ) → (ok : first_of (lines_for (route_of route) bytes) ≡ 0) → Sound (recipe bytes route) → (o : ℕ) → o ≤ 1
    → (sources sources' : Sources) → source_for sources' o ≡ source_for sources o
    → ((k : ℕ) → length (source_for sources k) ≡ (recipe bytes route).cells) → ((k : ℕ) → length (source_for sources' k) ≡ (recipe bytes route).cells)
    → Alone208 mixed_call (mixed_sharing_calls bytes route sources) mixed_call (mixed_sharing_calls bytes route sources')
    (engine.calls bytes route (source_for sources o)) (recipe bytes route) o
run_alone bytes route ok so o low sources sources' same_source long long' =
    plain.alone_for bytes route ok so o low sources sources' same_source (long o) mixed_call (mixed_sharing_calls bytes route sources)
    (AllowsFor bytes route sources ok so long) (both_for bytes route sources ok so long) mixed_call (mixed_sharing_calls bytes route sources')
    (AllowsFor bytes route sources' ok so long') (both_for bytes route sources' ok so long')
