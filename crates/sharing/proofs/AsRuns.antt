-- From a fresh start that gave 0 the calls for a tenant answer, call by call, as the sharing of two tenants on the recipe's plan; so what
-- holds of its runs holds of theirs.
use Rattle.std.specs.Prelude.{◌≡◌, ℕ, ◌≤◌, Bool, true, false, eqb, List, [], ◌∷◌, length}
use mathlib.Core.Path.{refl, sym, ap, ◌∙◌}
use native.Mathlib.Omega.{arith}
use native.Mathlib.Decide.{ℕ_discrete}
use borrow.Author.Tests.{eq-eqb, ne_eqb}
use Rattle.base.specs.Tests.{not, pick}
use Rattle.base.specs.Numbers.{line, first_of}
use Rattle.base.proofs.Tests.{both, and_true, true_not, pick_true, pick_false}
use Rattle.base.proofs.Numbers.{none_first, none_front, none_behind}
use Rattle.machine.specs.Plan.{Plan, Sound}
use Rattle.machine.specs.Machine.{State}
use Rattle.machine.specs.Runs.{Event, turn_of, delivery_of}
use Rattle.tenants.specs.Tenants.{other_than, act_for, of_tenant, Sharing, Sources, source_for, own_of, other_of, lent_to, put_back, fresh_sharing, Call, act_on}
use Rattle.tenants.specs.Tenants.{collect_on}
use Rattle.tenants.specs.Demand208.{Demand208}
use Rattle.tenants.proofs.Engaged.{SharingInv, other_is}
use Rattle.tenants.proofs.AnyCalls.{Alike, demand208_for}
use Rattle.layout.specs.RouteWords.{route_of}
use Rattle.recipe.specs.Routes.{lines_for}
use Rattle.recipe.proofs.Laws.{numbered_for}
use Rattle.engine.specs.Calls.{recipe, areas}
use Rattle.engine.proofs.Lines.{Opened, areas_are}
use Rattle.sharing.specs.Calls.{areas_for, sharing_areas, fresh_sharing_call, call_for, sharing_calls, sharing_collects}
use Rattle.sharing.proofs.Lines.{all_long, as_turn, as_delivery, as_collecting}

-- every number that is not 0 names the second tenant's areas
as_tenant : (o : ℕ) → (q : ℕ) × (q ≤ 1) × ((a b : State) → of_tenant o a b ≡ of_tenant q a b)
unfolding of_tenant pick
as_tenant o = go (ℕ_discrete o 0)
  where
    go : Dec (o ≡ 0) → (q : ℕ) × (q ≤ 1) × ((a b : State) → pick (eqb o 0) a b ≡ pick (eqb q 0) a b)
    go (yes e) = (0, omega arith, λ a b. pick_true _ a b (eq-eqb o 0 e))
    go (no n) = (1, omega arith, λ a b. pick_false _ a b (ne_eqb o 0 n))

module _ (bytes : List ℕ) (route : ℕ) (sources : Sources) (ok : first_of (lines_for (route_of route) bytes) ≡ 0)
    (long : (o : ℕ) → length (source_for sources o) ≡ (recipe bytes route).cells) where
  abbrev p : Plan
  p = recipe bytes route

  opened : Opened bytes route p
  opened = record { none = ok; is = refl }

  module _ (r : Sharing) (inv : SharingInv p sources r) where
    -- either tenant's areas have their lengths
    inv_areas : (source : List ℕ) → length source ≡ p.cells → (q : ℕ) → q ≤ 1 → areas p source (own_of r q) ≡ true
    unfolding areas
    inv_areas source e q h =
        let s = (inv.inv q h).shape in
        and_true (eq-eqb _ _ e)
        (and_true (eq-eqb _ _ s.memories) (and_true (eq-eqb _ _ s.buffer) (and_true (eq-eqb _ _ s.progress) (eq-eqb _ _ s.status))))

    lengths : (o : ℕ) → areas_for p (source_for sources o) (lent_to r o) (other_of r o).progress ≡ true
    lengths o =
        all_long p (source_for sources o) (lent_to r o) (other_of r o).progress
        (rw (same r.first r.second) (inv_areas (source_for sources o) (long o) q low)) inv.wide
        (ap (λ (s : State). length s.progress) (same r.second r.first ∙ other_is p sources r inv q low)
        ∙ (inv.inv (other_than q) (omega arith)).shape.progress)
      where
        q : ℕ
        q = (as_tenant o).0

        low : q ≤ 1
        low = (as_tenant o).1

        same : (a b : State) → of_tenant o a b ≡ of_tenant q a b
        same a b = (as_tenant o).2 a b

    by_event : (o : ℕ) (e : Event)
        → call_for bytes route (source_for sources o) o (lent_to r o) (other_of r o).progress e
        ≡ act_for p (source_for sources o) o (lent_to r o) (other_of r o).progress e
    unfolding call_for act_for
    by_event o (turn_of b) = sym (as_turn bytes route (source_for sources o) o (lent_to r o) (other_of r o).progress b p opened (lengths o))
    by_event o (delivery_of m) = sym (as_delivery bytes route (source_for sources o) o (lent_to r o) (other_of r o).progress m p opened (lengths o))

    collects_is : (o : ℕ) (grid : List ℕ) → length grid ≡ p.cells → sharing_collects bytes route sources r o grid ≡ collect_on p r o grid
    unfolding sharing_collects collect_on
    collects_is o grid e =
        sym (as_collecting bytes route (source_for sources o) o (lent_to r o) (other_of r o).progress grid p opened (lengths o) e)

  pub alike : Alike p sources (sharing_calls bytes route sources)
  unfolding sharing_calls act_on
  alike r inv c = ap (put_back r c.tenant) (by_event r inv c.tenant c.event)

  pub run_demand208 : Sound p → (calls : List Call)
      → Demand208 (sharing_calls bytes route sources) (fresh_sharing p) calls p sources (sharing_collects bytes route sources)
  run_demand208 so calls = demand208_for p so sources (sharing_calls bytes route sources) alike (sharing_collects bytes route sources) collects_is calls

-- ---- a fresh start that gave 0
module _ (bytes : List ℕ) (route : ℕ) (sources : Sources) (r : Sharing) (z : (fresh_sharing_call bytes route sources r).number ≡ 0) where
  pub fresh_reads : first_of (lines_for (route_of route) bytes) ≡ 0
  unfolding fresh_sharing_call
  fresh_reads = none_front (lines_for (route_of route) bytes) (line 9 (not (sharing_areas (recipe bytes route) sources r)) ∷ []) z

  fresh_areas : sharing_areas (recipe bytes route) sources r ≡ true
  unfolding fresh_sharing_call
  fresh_areas =
      true_not
      (none_first 9 (not (sharing_areas (recipe bytes route) sources r)) [] (λ q. omega arith)
      (none_behind (lines_for (route_of route) bytes) (line 9 (not (sharing_areas (recipe bytes route) sources r)) ∷ []) (numbered_for (route_of route) bytes)
      z)).0

  pub fresh_sources : (o : ℕ) → length (source_for sources o) ≡ (recipe bytes route).cells
  unfolding sharing_areas of_tenant pick
  fresh_sources o = go (eqb o 0)
    where
      go : (t : Bool) → length (pick t sources.first sources.second) ≡ (recipe bytes route).cells
      go true = (areas_are (recipe bytes route) sources.first r.first (both fresh_areas).0).source
      go false = (areas_are (recipe bytes route) sources.second r.second (both (both fresh_areas).1).0).source

  pub fresh_is : (fresh_sharing_call bytes route sources r).after ≡ fresh_sharing (recipe bytes route)
  unfolding fresh_sharing_call
  fresh_is = pick_true _ _ _ (eq-eqb _ 0 z)
