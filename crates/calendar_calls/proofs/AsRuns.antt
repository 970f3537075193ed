-- From a fresh start that gave 0 the calls with hours answer, where the hours allow it, as those without, and are refused elsewhere; so what
-- holds of the machine's runs with hours holds of theirs.
use Rattle.std.specs.Prelude.{◌≡◌, ℕ, ◌≤◌, true, eqb, ◌≢◌, List, length}
use mathlib.Core.Path.{refl, sym, ap, ◌∙◌}
use native.Mathlib.Omega.{arith}
use native.Mathlib.Decide.{ℕ_discrete}
use borrow.Author.Tests.{eq-eqb, ne_eqb}
use Rattle.base.specs.Tests.{pick}
use Rattle.base.specs.Numbers.{first_of}
use Rattle.base.proofs.Tests.{and_true, pick_true, pick_false}
use Rattle.machine.specs.Plan.{Plan, Sound}
use Rattle.machine.specs.Machine.{State, fresh}
use Rattle.machine.specs.Runs.{act}
use Rattle.machine.proofs.Kept.{Inv}
use Rattle.machine.proofs.Guards.{Guards}
use Rattle.tenants.specs.Tenants.{other_than, of_tenant, Sharing, Sources, source_for, own_of, other_of, lent_to, TenantAreas, returned, put_back, fresh_sharing, act_on}
use Rattle.tenants.specs.Tenants.{collect_on}
use Rattle.tenants.proofs.OneCall.{returned_same}
use Rattle.tenants.proofs.Engaged.{SharingInv, other_is}
use Rattle.calendar.specs.Windows.{table_words, Timed, turn_at, mail_of, event_of, TimedCall, call_of}
use Rattle.calendar.specs.Demands212.{Demand212, Demand212For}
use Rattle.calendar.proofs.Allowed.{Allowed, open_allowed}
use Rattle.calendar.proofs.OneTenant as one
use Rattle.calendar.proofs.TwoTenants as two
use Rattle.layout.specs.RouteWords.{route_of}
use Rattle.recipe.specs.Routes.{lines_for}
use Rattle.engine.specs.Calls.{recipe, areas, deliver_call, collect_call}
use Rattle.engine.proofs.AsSteps.{turn_is, deliver_is, collect_is}
use Rattle.sharing.specs.Calls.{areas_for, deliver_call_for, call_for, sharing_calls, sharing_collects}
use Rattle.sharing.proofs.Lines.{all_long, as_collecting}
use Rattle.sharing.proofs.AsRuns.{alike}
use Rattle.calendar_calls.specs.Calls.{turn_call_at, turn_call_at_for, calls_at, call_at_for, sharing_calls_at}
use Rattle.calendar_calls.proofs.Lines.{as_plain, needs, as_plain_for, needs_for}

-- the table has its length and the hours allow it; mail at any hour
abbrev pub AllowedHere : Plan → Timed → Type 0
AllowedHere p (turn_at h b) = (length h.calendar ≡ table_words p) × Allowed p (turn_at h b)
AllowedHere p (mail_of m) = Unit {0}

areas_by : (p : Plan) (source inv-source : List ℕ) (s : State) → length source ≡ p.cells → Inv p inv-source s → areas p source s ≡ true
unfolding areas
areas_by p source inv-source s e inv =
    and_true (eq-eqb _ _ e)
    (and_true (eq-eqb _ _ inv.shape.memories)
    (and_true (eq-eqb _ _ inv.shape.buffer) (and_true (eq-eqb _ _ inv.shape.progress) (eq-eqb _ _ inv.shape.status))))

-- ---- one tenant
module _ (bytes : List ℕ) (route : ℕ) (source : List ℕ) (ok : first_of (lines_for (route_of route) bytes) ≡ 0)
    (so : Sound (recipe bytes route)) (long : length source ≡ (recipe bytes route).cells) where
  abbrev p : Plan
  p = recipe bytes route

  module _ (s : State) (inv : Inv p source s) where
    works : (x : Timed) → (calls_at bytes route source s x).number ≡ 0 → AllowedHere p x
    unfolding calls_at
    works (turn_at h b) z = needs bytes route source h s b z
    works (mail_of m) z = tt

    allows : (x : Timed) → AllowedHere p x → calls_at bytes route source s x ≡ act p source s (event_of x)
    unfolding calls_at act event_of
    allows (turn_at h b) a =
        as_plain bytes route source h s b a.0 a.1 ∙ turn_is bytes route source s ok (areas_by p source source s long inv) b
    allows (mail_of m) a = deliver_is bytes route source s ok (areas_by p source source s long inv) m

    refuses : (x : Timed) → (calls_at bytes route source s x).number ≢ 0 → (calls_at bytes route source s x).after ≡ s
    unfolding calls_at turn_call_at deliver_call
    refuses (turn_at h b) n = pick_false _ _ _ (ne_eqb _ 0 n)
    refuses (mail_of m) n = pick_false _ _ _ (ne_eqb _ 0 n)

  pub guards : Guards (Inv p source) (act p source) (calls_at bytes route source) event_of (AllowedHere p)
  guards = record { works = works; allows = allows; refuses = refuses }

  pub run_demand212 : (events : List Timed) → Demand212 (calls_at bytes route source) (fresh p) events p source (collect_call bytes route source)
  run_demand212 events =
      one.demand212_for p so source (calls_at bytes route source) (AllowedHere p) guards (λ m. tt)
      (λ calendar minute b f low e. (f.long, open_allowed p calendar minute b f low e)) events (collect_call bytes route source)
      (λ s inv grid len. collect_is bytes route source s ok (areas_by p source source s long inv) grid len)

-- ---- two tenants

-- every number that is not 0 names the second tenant's areas
as_tenant : (o : ℕ) → (q : ℕ) × (q ≤ 1) × ((a b : State) → of_tenant o a b ≡ of_tenant q a b)
unfolding of_tenant pick
as_tenant o = go (ℕ_discrete o 0)
  where
    go : Dec (o ≡ 0) → (q : ℕ) × (q ≤ 1) × ((a b : State) → pick (eqb o 0) a b ≡ pick (eqb q 0) a b)
    go (yes e) = (0, omega arith, λ a b. pick_true _ a b (eq-eqb o 0 e))
    go (no n) = (1, omega arith, λ a b. pick_false _ a b (ne_eqb o 0 n))

module _ (bytes : List ℕ) (route : ℕ) (source : List ℕ) (o : ℕ) (l : TenantAreas) (theirs : List ℕ) where
  works_for : (x : Timed) → (call_at_for bytes route source o l theirs x).number ≡ 0 → AllowedHere (recipe bytes route) x
  unfolding call_at_for
  works_for (turn_at h b) z = needs_for bytes route source o h l theirs b z
  works_for (mail_of m) z = tt

  allows_for : (x : Timed) → AllowedHere (recipe bytes route) x → call_at_for bytes route source o l theirs x ≡ call_for bytes route source o l theirs (event_of x)
  unfolding call_at_for call_for event_of
  allows_for (turn_at h b) a = as_plain_for bytes route source o h l theirs b a.0 a.1
  allows_for (mail_of m) a = refl

  refuses_for : (x : Timed) → (call_at_for bytes route source o l theirs x).number ≢ 0 → (call_at_for bytes route source o l theirs x).after ≡ l
  unfolding call_at_for turn_call_at_for deliver_call_for
  refuses_for (turn_at h b) n = pick_false _ _ _ (ne_eqb _ 0 n)
  refuses_for (mail_of m) n = pick_false _ _ _ (ne_eqb _ 0 n)

module _ (bytes : List ℕ) (route : ℕ) (sources : Sources) (ok : first_of (lines_for (route_of route) bytes) ≡ 0)
    (long : (o : ℕ) → length (source_for sources o) ≡ (recipe bytes route).cells) where
  abbrev q : Plan
  q = recipe bytes route

  module _ (r : Sharing) (inv : SharingInv q sources r) where
    works_on : (c : TimedCall) → (sharing_calls_at bytes route sources r c).number ≡ 0 → AllowedHere q c.event
    unfolding sharing_calls_at
    works_on c z =
        works_for bytes route (source_for sources c.tenant) c.tenant (lent_to r c.tenant) (other_of r c.tenant).progress c.event z

    allows_on : (c : TimedCall) → AllowedHere q c.event → sharing_calls_at bytes route sources r c ≡ act_on q sources r (call_of c)
    unfolding sharing_calls_at sharing_calls call_of
    allows_on c a =
        ap (put_back r c.tenant)
        (allows_for bytes route (source_for sources c.tenant) c.tenant (lent_to r c.tenant) (other_of r c.tenant).progress c.event a)
        ∙ alike bytes route sources ok long r inv (call_of c)

    refuses_on : (c : TimedCall) → (sharing_calls_at bytes route sources r c).number ≢ 0 → (sharing_calls_at bytes route sources r c).after ≡ r
    unfolding sharing_calls_at
    refuses_on c n =
        ap (returned r c.tenant)
        (refuses_for bytes route (source_for sources c.tenant) c.tenant (lent_to r c.tenant) (other_of r c.tenant).progress c.event n)
        ∙ returned_same r c.tenant

    lengths : (o : ℕ) → areas_for q (source_for sources o) (lent_to r o) (other_of r o).progress ≡ true
    lengths o =
        all_long q (source_for sources o) (lent_to r o) (other_of r o).progress
        (rw (same r.first r.second) (areas_by q (source_for sources o) (source_for sources i) (own_of r i) (long o) (inv.inv i low))) inv.wide
        (ap (λ (s : State). length s.progress) (same r.second r.first ∙ other_is q sources r inv i low)
        ∙ (inv.inv (other_than i) (omega arith)).shape.progress)
      where
        i : ℕ
        i = (as_tenant o).0

        low : i ≤ 1
        low = (as_tenant o).1

        same : (a b : State) → of_tenant o a b ≡ of_tenant i a b
        same a b = (as_tenant o).2 a b

    pub collects_is : (o : ℕ) (grid : List ℕ) → length grid ≡ q.cells → sharing_collects bytes route sources r o grid ≡ collect_on q r o grid
    unfolding sharing_collects collect_on
    collects_is o grid e =
        sym
        (as_collecting bytes route (source_for sources o) o (lent_to r o) (other_of r o).progress grid q (record { none = ok; is = refl }) (lengths o) e)

  pub guards_for : Guards (SharingInv q sources) (act_on q sources) (sharing_calls_at bytes route sources) call_of (λ c. AllowedHere q c.event)
  guards_for = record { works = works_on; allows = allows_on; refuses = refuses_on }

  pub run_demand212_for : Sound q → (calls : List TimedCall)
      → Demand212For (sharing_calls_at bytes route sources) (fresh_sharing q) calls q sources (sharing_collects bytes route sources)
  run_demand212_for so calls =
      two.demand212_for q so sources (sharing_calls_at bytes route sources) (λ c. AllowedHere q c.event) guards_for (λ o m. tt)
      (λ calendar minute o b f low e. (f.long, open_allowed q calendar minute b f low e)) calls (sharing_collects bytes route sources) collects_is
