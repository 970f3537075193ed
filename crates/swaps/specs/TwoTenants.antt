-- Read this.
-- Request W-214 for a sharing of two tenants: which two calls the claim speaks of, and what is true of two gathers on one processor.
-- proofs/ proves the claims for every sound plan and all sources, and for any calls that answer like the sharing but may refuse more.
use Rattle.std.specs.Prelude.{ℕ, ◌≡◌, ◌≢◌, List}
use Rattle.machine.specs.Plan.{Plan}
use Rattle.machine.specs.Machine.{Answered, gather, next_action}
use Rattle.machine.specs.Runs.{turn_of, state_after}
use Rattle.tenants.specs.Tenants.{Sharing, own_of, Call}
use Rattle.swaps.specs.Swaps.{CanTake, Swaps, Rewinds}

-- tenant o's next action on processor b is a gather
abbrev pub Gathers : Plan → Sharing → ℕ → ℕ → Type 0
Gathers p r o b = (t : ℕ) × (next_action p (own_of r o) b ≡ gather t)

-- both calls are turns of one processor, by two tenants, and both are gathers
pub record TwoGathers (p : Plan) (r : Sharing) (c d : Call) : Type 0 where
  pub processor : ℕ
  pub first_turn : c.event ≡ turn_of processor
  pub second_turn : d.event ≡ turn_of processor
  pub two_tenants : c.tenant ≢ d.tenant
  pub first_gathers : Gathers p r c.tenant processor
  pub second_gathers : Gathers p r d.tenant processor

-- C: the calls of a sharing, or such calls with hours; call_of: what the sharing without hours reads of one
module _ {C : Type 0} (call_of : C → Call) (p : Plan) where
  -- two calls are different if the tenant is, one is a turn and the other a delivery, or their numbers differ: two turns of one processor
  -- for one tenant are the same at any minutes. The claim leaves out two gathers on one processor
  pub record DifferentFor (r : Sharing) (c d : C) : Type 0 where
    pub different : call_of c ≢ call_of d
    pub not_gathers : TwoGathers p r (call_of c) (call_of d) → ⊥

  pub record SwapsFor (acts : Sharing → C → Answered Sharing) (r : Sharing) : Type 0 where
    pub swaps : Swaps DifferentFor acts r
    -- two turns of one processor by two tenants that can both be taken are both gathers
    pub both_gather : (c d : C) (b : ℕ) → (call_of c).tenant ≢ (call_of d).tenant → (call_of c).event ≡ turn_of b → (call_of d).event ≡ turn_of b
        → CanTake acts r c → CanTake acts r d → TwoGathers p r (call_of c) (call_of d)
    -- and only one of them can go first: after it the other is refused, engaged
    pub only_one : (c d : C) → CanTake acts r c → CanTake acts r d → TwoGathers p r (call_of c) (call_of d)
        → ((acts (acts r c).after d).number ≡ 19) × ((acts (acts r d).after c).number ≡ 19)

  -- `start` is the sharing after a fresh start of both tenants
  pub record Demand214For (acts : Sharing → C → Answered Sharing) (start : Sharing) : Type 0 where
    -- from any sharing that a run can reach
    pub swaps : (calls : List C) → SwapsFor acts (state_after acts start calls)
    pub rewinds : Rewinds DifferentFor acts start

-- a call without hours is all that the sharing reads
abbrev pub wholly : Call → Call
wholly c = c
