-- Read this.
-- Request W-208 for the calls as exported, board records as structs, by the relations that are their contracts (`Gave`); runs of both tenants on
-- one sharing. Document 01, "Numbers a call gives", "Runs"; W-208.
use Rattle.std.specs.Prelude.{ℕ, ◌≤◌, ◌<◌, ◌≡◌, ◌≢◌, ◌↔◌, ◌⊎◌, List, length}
use Rattle.base.specs.Lists.{Bytes, sublist}
use Rattle.base.specs.Numbers.{Line}
use Rattle.machine.specs.Machine as machine
use Rattle.machine.specs.Machine.{next_action, collected}
use Rattle.machine.specs.Runs.{turn_of, delivery_of, last, answers, total, steps_in}
use Rattle.tenants.specs.Tenants.{TenantAreas, Sharing, Sources, source_for, of_tenant, carry_out_for, delivered_for, fresh_sharing, Call}
use Rattle.tenants.specs.Demand208.{events_of, answers_of, Demand208}
use Rattle.records.specs.declared.Progress.{Progress}
use Rattle.records.specs.Records.{flat_words}
use Rattle.engine.specs.Calls.{answer, recipe}
use Rattle.engine.specs.Demands.{Fixed}
use Rattle.sharing.specs.Calls.{turn_call_lines_for, deliver_call_lines_for, collect_call_lines_for, fresh_sharing_lines, view_lines, view_part, sharing_calls}
use Rattle.sharing.specs.Calls.{sharing_collects}
use Rattle.calls.specs.declared.tenant.Viewed.{Viewed}
use Rattle.calls.specs.View.{no_view, view_at}
use Rattle.calls.specs.Tells.{Tells}
use Rattle.calls.specs.Gave.{Areas, LentAreas, lent_areas_of, lent_words, SharingAreas, sharing_words}
use Rattle.calls.specs.Gave.{TenantGave, TenantCollectGave, FreshBothGave, ViewGave}
use Rattle.guarantees.specs.OverRecords.{Gave}

-- of the areas of both tenants, those of tenant o, those of the other, and what a call of o is lent to change
abbrev pub own_areas : SharingAreas → ℕ → Areas
own_areas a o = of_tenant o a.first a.second

abbrev pub other_areas : SharingAreas → ℕ → Areas
other_areas a o = of_tenant o a.second a.first

abbrev pub lent_areas : SharingAreas → ℕ → LentAreas
lent_areas a o = lent_areas_of (own_areas a o) a.engaged

module _ (bytes : List ℕ) (route : ℕ) where
  -- a call on the sharing: the tenant that it names is lent its own areas and the shared words, and the other's areas stay as they were
  pub record CallGave (sources : Sources) (a : SharingAreas) (c : Call) (n : ℕ) (b : SharingAreas) : Type 0 where
    pub gave : TenantGave bytes route (source_for sources c.tenant) c.tenant (other_areas a c.tenant).progress
        (lent_areas a c.tenant) c.event n (lent_areas b c.tenant)
    pub others : other_areas b c.tenant ≡ other_areas a c.tenant

  -- calls of both tenants in any order, each lent the areas as the last left them
  abbrev pub CallsGave : Sources → SharingAreas → List Call → List ℕ → SharingAreas → Type 0
  CallsGave sources = Gave (CallGave sources)

  abbrev pub CollectGaveFor : Sources → SharingAreas → ℕ → List ℕ → ℕ → List ℕ → Type 0
  CollectGaveFor sources a o = TenantCollectGave bytes route (source_for sources o) o (other_areas a o).progress (lent_areas a o)

-- ---- demand 1

-- a refusal leaves the very records
pub record FixedLent (lines : List Line) (done : TenantAreas) (a : LentAreas) (n : ℕ) (b : LentAreas) : Type 0 where
  pub fixed : Fixed (answer n (lent_words b)) lines done (lent_words a)
  pub as_before : n ≢ 0 → b ≡ a

pub record FixedSharing (lines : List Line) (done : Sharing) (a : SharingAreas) (n : ℕ) (b : SharingAreas) : Type 0 where
  pub fixed : Fixed (answer n (sharing_words b)) lines done (sharing_words a)
  pub as_before : n ≢ 0 → b ≡ a

pub record FixedTenant (bytes : List ℕ) (route : ℕ) : Type 0 where
  pub turn : (source : List ℕ) (o : ℕ) (theirs : List Progress) (a b : LentAreas) (p n : ℕ)
      → TenantGave bytes route source o theirs a (turn_of p) n b
      → FixedLent (turn_call_lines_for bytes route source o (lent_words a) (flat_words theirs) p)
      (carry_out_for (recipe bytes route) source o (lent_words a) p (next_action (recipe bytes route) (lent_words a).own p)) a n b
  pub deliver : (source : List ℕ) (o : ℕ) (theirs : List Progress) (a b : LentAreas) (m n : ℕ)
      → TenantGave bytes route source o theirs a (delivery_of m) n b
      → FixedLent (deliver_call_lines_for bytes route source o (lent_words a) (flat_words theirs) m) (delivered_for (lent_words a) m) a n b
  pub collect : (source : List ℕ) (o : ℕ) (theirs : List Progress) (a : LentAreas) (old grid : List ℕ) (n : ℕ)
      → TenantCollectGave bytes route source o theirs a old n grid
      → Fixed (answer n grid) (collect_call_lines_for bytes route source o (lent_words a) (flat_words theirs) old)
      (collected (recipe bytes route) (lent_words a).own) old
  pub fresh : (sources : Sources) (a b : SharingAreas) (n : ℕ) → FreshBothGave bytes route sources a n b
      → FixedSharing (fresh_sharing_lines bytes route sources (sharing_words a)) (fresh_sharing (recipe bytes route)) a n b
  pub view : (first second : List ℕ) (o b : ℕ) (told : Viewed) → ViewGave bytes first second o b told
      → Tells (λ v. v.number) (view_lines bytes first second o b) (view_at (recipe bytes 0) b) no_view told
  -- the part that was told of is the processor's in the memories of the tenant named, and empty at a refusal
  pub part_is : (first second : List ℕ) (o b : ℕ) (told : Viewed) → ViewGave bytes first second o b told
      → sublist (of_tenant o first second) told.begin told.length ≡ view_part bytes first second o b
  -- the contracts can be kept, and in one way only
  pub can_fresh : (sources : Sources) (a : SharingAreas) → (n : ℕ) × ((b : SharingAreas) × FreshBothGave bytes route sources a n b)
  pub can_call : (sources : Sources) (a : SharingAreas) (c : Call) → (n : ℕ) × ((b : SharingAreas) × CallGave bytes route sources a c n b)
  pub one_fresh : (sources : Sources) (a b c : SharingAreas) (n k : ℕ)
      → FreshBothGave bytes route sources a n b → FreshBothGave bytes route sources a k c → (n ≡ k) × (b ≡ c)
  pub one_call : (sources : Sources) (a b d : SharingAreas) (c : Call) (n k : ℕ)
      → CallGave bytes route sources a c n b → CallGave bytes route sources a c k d → (n ≡ k) × (b ≡ d)

-- ---- demand 3: calls of both tenants from the areas `start` that a fresh start of both left, with their numbers; `b` are the areas after them

module _ (bytes : List ℕ) (route : ℕ) (sources : Sources) (start : SharingAreas) (calls : List Call) (numbers : List ℕ) (b : SharingAreas) where
  -- how many steps of tenant o there were
  abbrev pub steps_of : ℕ → ℕ
  steps_of o = steps_in (answers_of o calls numbers)

  pub record SharingRun : Type 0 where
    -- number by number and word by word the run over words, which has what the request asks
    pub numbers_are : numbers ≡ answers (sharing_calls bytes route sources) (sharing_words start) calls
    pub words_are : sharing_words b ≡ last (sharing_calls bytes route sources) (sharing_words start) calls
    pub demand : Demand208 (sharing_calls bytes route sources) (sharing_words start) calls (recipe bytes route) sources
        (sharing_collects bytes route sources)
    -- what it says of a further call: some call of one of the two gives 0 exactly while either has fewer steps
    pub goes_on : (steps_of 0 < total (recipe bytes route)) ⊎ (steps_of 1 < total (recipe bytes route))
        → (c : Call) × ((n : ℕ) (d : SharingAreas) → CallGave bytes route sources b c n d → n ≡ 0)
    pub then_fewer : (c : Call) (d : SharingAreas) → CallGave bytes route sources b c 0 d
        → (steps_of 0 < total (recipe bytes route)) ⊎ (steps_of 1 < total (recipe bytes route))
    -- collecting for a tenant into a grid of the right length gives 0 exactly when its steps are that many, and then its own sweep
    pub collects : (o : ℕ) → o ≤ 1 → (old grid : List ℕ) (n : ℕ) → length old ≡ (recipe bytes route).cells
        → CollectGaveFor bytes route sources b o old n grid → (n ≡ 0) ↔ (steps_of o ≡ total (recipe bytes route))
    pub grid : (o : ℕ) → o ≤ 1 → (old grid : List ℕ) → CollectGaveFor bytes route sources b o old 0 grid
        → grid ≡ machine.sweep (recipe bytes route) (source_for sources o)

pub record OverSharing (bytes : List ℕ) (route : ℕ) : Type 0 where
  pub one : FixedTenant bytes route
  pub three : Bytes bytes → (sources : Sources) (a start b : SharingAreas) (calls : List Call) (numbers : List ℕ)
      → FreshBothGave bytes route sources a 0 start → CallsGave bytes route sources start calls numbers b
      → SharingRun bytes route sources start calls numbers b
  -- two runs that agree on tenant o's source, its events and the numbers they got leave the same words and the very records in its own areas
  pub apart : Bytes bytes → (sources sources' : Sources) (a start b a' start' b' : SharingAreas) (calls calls' : List Call) (ns ns' : List ℕ)
      → FreshBothGave bytes route sources a 0 start → CallsGave bytes route sources start calls ns b
      → FreshBothGave bytes route sources' a' 0 start' → CallsGave bytes route sources' start' calls' ns' b'
      → (o : ℕ) → o ≤ 1 → source_for sources o ≡ source_for sources' o
      → events_of o calls ≡ events_of o calls' → answers_of o calls ns ≡ answers_of o calls' ns'
      → own_areas b o ≡ own_areas b' o
