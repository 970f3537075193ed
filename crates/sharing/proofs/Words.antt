-- A tenant's calls are guarded, so the claims about guarded calls hold of their runs: words, marks, and areas that are those of a run alone.
use Rattle.std.specs.Prelude.{◌≡◌, ℕ, ◌≤◌, List, length}
use mathlib.Core.Path.{refl}
use Rattle.base.specs.Numbers.{first_of}
use Rattle.machine.specs.Plan.{Plan, Sound}
use Rattle.machine.specs.Machine.{Answered, fresh}
use Rattle.machine.specs.AnyCalls.{whole, Alone}
use Rattle.machine.proofs.Kept.{Inv}
use Rattle.machine.proofs.Fresh.{inv_fresh}
use Rattle.machine.proofs.Guards.{Guards, alike_guards}
use Rattle.machine.proofs.AnyCalls as machine
use Rattle.tenants.specs.Tenants.{Sharing, Sources, source_for, fresh_sharing, Call, act_on}
use Rattle.tenants.specs.AnyCalls.{tenant_view, Words208, Alone208}
use Rattle.tenants.proofs.OneCall.{call_refused}
use Rattle.tenants.proofs.Engaged.{SharingInv, inv_start}
use Rattle.tenants.proofs.Views.{words208, follows_for, fresh_own, alone208}
use Rattle.layout.specs.RouteWords.{route_of}
use Rattle.recipe.specs.Routes.{lines_for}
use Rattle.engine.specs.Calls.{recipe}
use Rattle.engine.specs.Demands.{calls}
use Rattle.engine.proofs.AsRuns.{same}
use Rattle.sharing.specs.Calls.{sharing_calls}
use Rattle.sharing.proofs.AsRuns.{alike}

module _ (bytes : List ℕ) (route : ℕ) (sources : Sources) (ok : first_of (lines_for (route_of route) bytes) ≡ 0)
    (long : (o : ℕ) → length (source_for sources o) ≡ (recipe bytes route).cells) where
  abbrev p : Plan
  p = recipe bytes route

  pub guards : Guards (SharingInv p sources) (act_on p sources) (sharing_calls bytes route sources) (λ c. c) (λ c. Unit {0})
  guards = alike_guards (SharingInv p sources) (act_on p sources) (sharing_calls bytes route sources) (alike bytes route sources ok long) (call_refused p sources)

  pub run_words : Sound p → Words208 (λ c. c) (sharing_calls bytes route sources) (fresh_sharing p) p sources
  run_words so = words208 p so sources (λ c. c) (sharing_calls bytes route sources) (λ c. Unit {0}) guards

-- calls of any kind on a sharing, against a tenant's plain calls on a machine of its own
pub single : (bytes : List ℕ) (route : ℕ) (sources : Sources) → first_of (lines_for (route_of route) bytes) ≡ 0 → Sound (recipe bytes route)
    → {C : Type 0} (call_of : C → Call) (acts : Sharing → C → Answered Sharing) (allowed : C → Type 0)
    → Guards (SharingInv (recipe bytes route) sources) (act_on (recipe bytes route) sources) acts call_of allowed
    → (o : ℕ) → o ≤ 1 → length (source_for sources o) ≡ (recipe bytes route).cells
    → Alone (tenant_view call_of o) acts (fresh_sharing (recipe bytes route)) (whole (λ e. e)) (calls bytes route (source_for sources o))
    (fresh (recipe bytes route))
single bytes route sources ok so call_of acts allowed gd o low long =
    machine.alone (recipe bytes route) so (source_for sources o) (SharingInv (recipe bytes route) sources) (tenant_view call_of o) acts
    (follows_for (recipe bytes route) so sources call_of acts allowed gd o low) (fresh_sharing (recipe bytes route)) (inv_start (recipe bytes route) sources)
    (fresh_own (recipe bytes route) o) (Inv (recipe bytes route) (source_for sources o)) (whole (λ e. e)) (calls bytes route (source_for sources o))
    (machine.follows (recipe bytes route) so (source_for sources o) (calls bytes route (source_for sources o)) (λ e. e) (λ e. Unit {0})
    (machine.likewise (recipe bytes route) (source_for sources o) (calls bytes route (source_for sources o))
    (same bytes route (source_for sources o) ok so long)))
    (fresh (recipe bytes route)) (inv_fresh (recipe bytes route) (source_for sources o)) refl

-- the calls of two rigs, of any kinds
pub alone_for : (bytes : List ℕ) (route : ℕ) → first_of (lines_for (route_of route) bytes) ≡ 0 → Sound (recipe bytes route) → (o : ℕ) → o ≤ 1
    → (sources sources' : Sources) → source_for sources' o ≡ source_for sources o → length (source_for sources o) ≡ (recipe bytes route).cells
    → {C D : Type 0} (call_of : C → Call) (acts : Sharing → C → Answered Sharing) (allowed : C → Type 0)
    → Guards (SharingInv (recipe bytes route) sources) (act_on (recipe bytes route) sources) acts call_of allowed
    → (call_of' : D → Call) (acts' : Sharing → D → Answered Sharing) (allowed' : D → Type 0)
    → Guards (SharingInv (recipe bytes route) sources') (act_on (recipe bytes route) sources') acts' call_of' allowed'
    → Alone208 call_of acts call_of' acts' (calls bytes route (source_for sources o)) (recipe bytes route) o
alone_for bytes route ok so o low sources sources' same_source long call_of acts allowed gd call_of' acts' allowed' gd' =
    record {
      same_words = (alone208 (recipe bytes route) so o low sources sources' same_source call_of acts allowed gd call_of' acts' allowed' gd').same_words;
      as_single = single bytes route sources ok so call_of acts allowed gd o low long;
    }

pub run_alone : (bytes : List ℕ) (route : ℕ) → first_of (lines_for (route_of route) bytes) ≡ 0 → Sound (recipe bytes route) → (o : ℕ) → o ≤ 1
    → (sources sources' : Sources) → source_for sources' o ≡ source_for sources o
    → ((q : ℕ) → length (source_for sources q) ≡ (recipe bytes route).cells) → ((q : ℕ) → length (source_for sources' q) ≡ (recipe bytes route).cells)
    → Alone208 (λ c. c) (sharing_calls bytes route sources) (λ c. c) (sharing_calls bytes route sources') (calls bytes route (source_for sources o))
    (recipe bytes route) o
run_alone bytes route ok so o low sources sources' same_source long long' =
    alone_for bytes route ok so o low sources sources' same_source (long o) (λ c. c) (sharing_calls bytes route sources) (λ c. Unit {0})
    (guards bytes route sources ok long) (λ c. c) (sharing_calls bytes route sources') (λ c. Unit {0}) (guards bytes route sources' ok long')
