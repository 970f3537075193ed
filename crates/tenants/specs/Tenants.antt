-- Two tenants share processors (the paper: two offices on one rig): each has its own areas; one shared word a processor, its holder, says to which
-- tenant it is engaged.
-- Renders request W-208 over the machine of document 01: what a call is lent, its lines, what it does, and the calls of a run.
use Rattle.std.specs.Prelude.{ℕ, ◌+◌, ◌-◌, Bool, List, [], ◌∷◌, length, get_or, set, replicate, ltb, leb, eqb}
use Rattle.base.specs.Tests.{◌and◌, ◌or◌, not, pick, every, some}
use Rattle.base.specs.Numbers.{Line, line, first_of}
use Rattle.machine.specs.Plan.{Plan, count, sender_of, sends_of}
use Rattle.machine.specs.Machine as machine
use Rattle.machine.specs.Machine.{State, state_of, progress_only, stage_of, sent_of, tiles_left, fit_record, fit, waiting, collected}
use Rattle.machine.specs.Machine.{Action, gather, calculate, send, carry_out, next_action, Answered, answered}
use Rattle.machine.specs.Runs.{Event, turn_of, delivery_of}

-- ---- what a call of one tenant is lent

-- its own areas and the shared words, which it may change; besides these the other tenant's records, only to read
pub record TenantAreas : Type 0 where
  pub own : State
  pub engaged : List ℕ  -- one word a processor: 0 or 1, the tenant that it is engaged to, or 2 for none

abbrev pub tenant_areas : State → List ℕ → TenantAreas
tenant_areas own engaged = record { own = own; engaged = engaged }

-- the tenant that processor b is engaged to
abbrev pub holder_of : List ℕ → ℕ → ℕ
holder_of engaged b = get_or engaged b 0

-- the other tenant's number
abbrev pub other_than : ℕ → ℕ
other_than o = 1 - o

-- ---- fit

-- the stage of the tenant that holds the processor is 1 or 2, every other tenant's is 0
unfoldable pub stage_agrees : ℕ → ℕ → ℕ → Bool
stage_agrees holder o stage = pick (eqb holder o) (eqb stage 1 or eqb stage 2) (eqb stage 0)

-- the word that agrees with the stage of a tenant whose turn it was
unfoldable pub word_for : ℕ → ℕ → ℕ
word_for o stage = pick (eqb stage 0) 2 o

unfoldable pub fit_word : ℕ → TenantAreas → List ℕ → ℕ → Bool
fit_word o l theirs b =
    leb (holder_of l.engaged b) 2
    and (stage_agrees (holder_of l.engaged b) o (stage_of l.own b)
    and stage_agrees (holder_of l.engaged b) (other_than o) (stage_of (progress_only theirs) b))

-- its own records and marks, the other's records, the shared words
unfoldable pub fit_for : Plan → ℕ → TenantAreas → List ℕ → Bool
fit_for p o l theirs =
    fit p l.own and (every (fit_record p (progress_only theirs)) p.processors and every (fit_word o l theirs) p.processors)

-- ---- a turn

-- this tenant has tiles left on the processor, and the other holds it
unfoldable pub held_by_other : Plan → ℕ → TenantAreas → ℕ → Bool
held_by_other p o l b = tiles_left p l.own b and eqb (holder_of l.engaged b) (other_than o)

abbrev pub turn_lines_for : Plan → ℕ → TenantAreas → List ℕ → ℕ → List Line
turn_lines_for p o l theirs b =
    line 11 (not (leb o 1)) ∷ line 10 (not (fit_for p o l theirs)) ∷ line 11 (not (ltb b p.processors))
    ∷ line 19 (held_by_other p o l b) ∷ line 12 (waiting p l.own b) ∷ line 13 (not (tiles_left p l.own b)) ∷ []

-- the shared words after n messages of tile t are sent: as they were while it has more, else processor b is free
unfoldable pub freed_after : Plan → List ℕ → ℕ → ℕ → ℕ → List ℕ
freed_after p engaged b t n = pick (ltb n (length (sends_of p t))) engaged (set engaged b 2)

-- a gather engages the processor, the tile's last step frees it
unfoldable pub engaged_after : Plan → ℕ → TenantAreas → ℕ → Action → List ℕ
engaged_after p o l b (gather t) = set l.engaged b o
engaged_after p o l b (calculate t) = freed_after p l.engaged b t 0
engaged_after p o l b (send m) = freed_after p l.engaged b (sender_of p m) (sent_of l.own b + 1)

-- the machine's rule on its own areas, and the shared words
unfoldable pub carry_out_for : Plan → List ℕ → ℕ → TenantAreas → ℕ → Action → TenantAreas
carry_out_for p source o l b a = tenant_areas (carry_out p source l.own b a) (engaged_after p o l b a)

unfoldable pub turn_for : Plan → List ℕ → ℕ → TenantAreas → List ℕ → ℕ → Answered TenantAreas
turn_for p source o l theirs b =
    answered (first_of (turn_lines_for p o l theirs b)) (carry_out_for p source o l b (next_action p l.own b)) l

-- ---- a delivery, and collecting

abbrev pub deliver_lines_for : Plan → ℕ → TenantAreas → List ℕ → ℕ → List Line
deliver_lines_for p o l theirs m =
    line 11 (not (leb o 1)) ∷ line 10 (not (fit_for p o l theirs)) ∷ line 11 (not (ltb m (count p)))
    ∷ line 14 (not (eqb (get_or l.own.status m 0) 1)) ∷ []

-- its own areas with message m delivered; the shared words stay
abbrev pub delivered_for : TenantAreas → ℕ → TenantAreas
delivered_for l m = tenant_areas (state_of l.own.memories l.own.buffer l.own.progress (set l.own.status m 2)) l.engaged

unfoldable pub deliver_for : Plan → ℕ → TenantAreas → List ℕ → ℕ → Answered TenantAreas
deliver_for p o l theirs m = answered (first_of (deliver_lines_for p o l theirs m)) (delivered_for l m) l

abbrev pub collect_lines_for : Plan → ℕ → TenantAreas → List ℕ → List Line
collect_lines_for p o l theirs =
    line 11 (not (leb o 1)) ∷ line 10 (not (fit_for p o l theirs)) ∷ line 15 (some (tiles_left p l.own) p.processors) ∷ []

unfoldable pub collect_for : Plan → ℕ → TenantAreas → List ℕ → List ℕ → Answered (List ℕ)
collect_for p o l theirs grid = answered (first_of (collect_lines_for p o l theirs)) (collected p l.own) grid

-- ---- the sharing

-- of two things, the one that is tenant o's
unfoldable pub of_tenant : {A : Type 0} → ℕ → A → A → A
of_tenant o a b = pick (eqb o 0) a b

pub record Sharing : Type 0 where
  pub first : State  -- tenant 0's areas
  pub second : State  -- tenant 1's areas
  pub engaged : List ℕ

abbrev pub sharing_of : State → State → List ℕ → Sharing
sharing_of first second engaged = record { first = first; second = second; engaged = engaged }

-- the two tenants' sources
pub record Sources : Type 0 where
  pub first : List ℕ
  pub second : List ℕ

abbrev pub sources_of : List ℕ → List ℕ → Sources
sources_of first second = record { first = first; second = second }

abbrev pub source_for : Sources → ℕ → List ℕ
source_for sources o = of_tenant o sources.first sources.second

abbrev pub own_of : Sharing → ℕ → State
own_of r o = of_tenant o r.first r.second

abbrev pub other_of : Sharing → ℕ → State
other_of r o = of_tenant o r.second r.first

abbrev pub lent_to : Sharing → ℕ → TenantAreas
lent_to r o = tenant_areas (own_of r o) r.engaged

-- the sharing with what a call of tenant o left of what it was lent
unfoldable pub returned : Sharing → ℕ → TenantAreas → Sharing
returned r o l = sharing_of (of_tenant o l.own r.first) (of_tenant o r.second l.own) l.engaged

-- a fresh start of both tenants together
unfoldable pub fresh_sharing : Plan → Sharing
fresh_sharing p = sharing_of (machine.fresh p) (machine.fresh p) (replicate p.processors 2)

-- ---- the calls of a run

-- a turn or delivery of a tenant; numbers of any size
pub record Call : Type 0 where
  pub tenant : ℕ
  pub event : Event

abbrev pub turn_by : ℕ → ℕ → Call
turn_by o b = record { tenant = o; event = turn_of b }

abbrev pub delivery_by : ℕ → ℕ → Call
delivery_by o m = record { tenant = o; event = delivery_of m }

unfoldable pub act_for : Plan → List ℕ → ℕ → TenantAreas → List ℕ → Event → Answered TenantAreas
act_for p source o l theirs (turn_of b) = turn_for p source o l theirs b
act_for p source o l theirs (delivery_of m) = deliver_for p o l theirs m

abbrev pub put_back : Sharing → ℕ → Answered TenantAreas → Answered Sharing
put_back r o a = record { number = a.number; after = returned r o a.after }

unfoldable pub act_on : Plan → Sources → Sharing → Call → Answered Sharing
act_on p sources r c =
    put_back r c.tenant
    (act_for p (source_for sources c.tenant) c.tenant (lent_to r c.tenant) (other_of r c.tenant).progress c.event)

unfoldable pub collect_on : Plan → Sharing → ℕ → List ℕ → Answered (List ℕ)
collect_on p r o grid = collect_for p o (lent_to r o) (other_of r o).progress grid
