-- Read this.
-- Runs of two tenants: the list holds both tenants' calls; each tenant's steps, cells and messages are taken and counted apart.
-- Renders demand 3 as request W-208 has it, and that nothing but the numbers tells one tenant of the other.
use Rattle.std.specs.Prelude.{ℕ, ◌≤◌, ◌<◌, ◌≡◌, ◌⊎◌, List, [], ◌∷◌, ◌++◌, get_or, eqb}
use Rattle.base.specs.Tests.{pick}
use Rattle.machine.specs.Plan.{Plan}
use Rattle.machine.specs.Machine.{Answered, gather}
use Rattle.machine.specs.Runs.{Event, state_after, answers_to, last, answers, total, program, turns_of, steps_in, Once, Collects, CarriedOut}
use Rattle.tenants.specs.Tenants.{Sharing, Sources, source_for, own_of, other_of, lent_to, engaged_after, Call, turn_by}

-- one tenant's events, and the numbers that they got
unfoldable pub events_of : ℕ → List Call → List Event
events_of o [] = []
events_of o (c ∷ cs) = pick (eqb c.tenant o) (c.event ∷ events_of o cs) (events_of o cs)

unfoldable pub answers_of : ℕ → List Call → List ℕ → List ℕ
answers_of o [] xs = []
answers_of o (c ∷ cs) [] = []
answers_of o (c ∷ cs) (x ∷ xs) = pick (eqb c.tenant o) (x ∷ answers_of o cs xs) (answers_of o cs xs)

-- a turn of processor b for tenant o, after k such turns that gave 0: the action named, carried out by the machine's rule on the
-- tenant's own areas; the shared words by their rule; and nothing of the other tenant
pub record CarriedOutFor (p : Plan) (source : List ℕ) (r r' : Sharing) (o b k : ℕ) : Type 0 where
  pub own : CarriedOut p source (own_of r o) (own_of r' o) b k
  pub shared : r'.engaged ≡ engaged_after p o (lent_to r o) b (get_or (program p b) k (gather 0))
  pub others : other_of r' o ≡ other_of r o

-- the claim about a list of calls from `start`, by the answers that `acts` gives
module _ (acts : Sharing → Call → Answered Sharing) (start : Sharing) (calls : List Call) where
  -- the numbers that tenant o's events got
  abbrev pub answers_for : ℕ → List ℕ
  answers_for o = answers_of o calls (answers acts start calls)

  -- a step of tenant o is an event of it that gave 0
  abbrev pub steps_for : ℕ → ℕ
  steps_for o = steps_in (answers_for o)

  -- one tenant's part, as document 01 has it for one
  pub record TenantDemand (p : Plan) (o : ℕ) (source : List ℕ) (collects : Sharing → ℕ → List ℕ → Answered (List ℕ)) : Type 0 where
    pub once : Once p (events_of o calls) (answers_for o)
    -- collecting for this tenant, and the sweep of its own source
    pub collecting : Collects p source (steps_for o ≡ total p) (collects (last acts start calls) o)
    -- each turn of this tenant that gave 0 carried out, by the rules, the action that the program names
    pub carried_out : (before after : List Call) (b : ℕ) → calls ≡ before ++ (turn_by o b ∷ after)
        → (acts (state_after acts start before) (turn_by o b)).number ≡ 0
        → CarriedOutFor p source (state_after acts start before) (acts (state_after acts start before) (turn_by o b)).after o b
        (turns_of b (events_of o before) (answers_of o before (answers_to acts start before)))

  pub record Demand208 (p : Plan) (sources : Sources) (collects : Sharing → ℕ → List ℕ → Answered (List ℕ)) : Type 0 where
    pub each : (o : ℕ) → o ≤ 1 → TenantDemand p o (source_for sources o) collects
    -- some turn or delivery of one of the two would give 0 exactly while either has fewer steps
    pub goes_on : (steps_for 0 < total p) ⊎ (steps_for 1 < total p) → (c : Call) × ((acts (last acts start calls) c).number ≡ 0)
    pub then_fewer : (c : Call) → (acts (last acts start calls) c).number ≡ 0 → (steps_for 0 < total p) ⊎ (steps_for 1 < total p)

-- two runs that agree on tenant o's events and the numbers they got leave the same words in its own areas, whatever the other
-- tenant's source and calls were, and however the two were mixed. The shared words are no part of it.
pub record Isolated (o : ℕ) (acts acts' : Sharing → Call → Answered Sharing) (start start' : Sharing) : Type 0 where
  pub same_words : (calls calls' : List Call) → events_of o calls ≡ events_of o calls'
      → answers_for acts start calls o ≡ answers_for acts' start' calls' o
      → own_of (last acts start calls) o ≡ own_of (last acts' start' calls') o
