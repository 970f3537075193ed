-- Read this. Runs of any calls that answer like the machine but may refuse more: turns of one of two tenants, turns with hours, or calls of two
-- kinds in one list. What demands 2 and 3 and the marks say of such a run is stated here once; tenants, calendar and swaps say which calls are meant.
-- Renders document 01, "The machine" and "Runs", for requests W-208 and W-212 and for lists that mix plain and timed turns.
use Rattle.std.specs.Prelude.{ℕ, ◌<◌, ◌≡◌, ◌⊎◌, Bool, true, List, [], ◌∷◌, ◌++◌, length, get_or}
use Rattle.std.proofs.Common.{inl, inr}
use Rattle.base.specs.Tests.{pick}
use Rattle.machine.specs.Plan.{Plan, taker_of, held_by}
use Rattle.machine.specs.Machine.{State, Answered, Action, gather, send}
use Rattle.machine.specs.Runs.{Event, turn_of, state_after, answers_to, total, program, turns_of, steps_in, Once, Collects, CarriedOut}
use Rattle.machine.specs.Words.{word_at, mail_at, cell_of, Does}
use Rattle.machine.specs.StatusTells.{StatusTells}

-- ---- what the machine sees of a call. S: all that the calls are lent. X: the calls
pub record View (S X : Type 0) : Type 0 where
  pub own : S → State  -- the four areas that the run is about: of two tenants, one's own
  pub ours : X → Bool  -- the call is for these
  pub event : X → Event  -- the call without what the machine does not read, as its hours

-- the events that are ours among the calls, and the numbers that they got
unfoldable pub events_in : {S X : Type 0} → View S X → List X → List Event
events_in v [] = []
events_in v (x ∷ xs) = pick (v.ours x) (v.event x ∷ events_in v xs) (events_in v xs)

unfoldable pub numbers_in : {S X : Type 0} → View S X → List X → List ℕ → List ℕ
numbers_in v [] ns = []
numbers_in v (x ∷ xs) [] = []
numbers_in v (x ∷ xs) (n ∷ ns) = pick (v.ours x) (n ∷ numbers_in v xs ns) (numbers_in v xs ns)

-- all calls are ours
abbrev pub whole : {X : Type 0} → (X → Event) → View State X
whole event = record { own = λ s. s; ours = λ x. true; event = event }

-- ---- calls of two kinds in one list
unfoldable pub mixed : {S X Y : Type 0} → (S → X → Answered S) → (S → Y → Answered S) → S → X ⊎ Y → Answered S
mixed acts acts' s (inl x) = acts s x
mixed acts acts' s (inr y) = acts' s y

unfoldable pub either : {X Y A : Type 0} → (X → A) → (Y → A) → X ⊎ Y → A
either f g (inl x) = f x
either f g (inr y) = g y

-- ---- the claims, about calls from `start`, by the answers that `acts` gives

module _ {S X : Type 0} (v : View S X) (acts : S → X → Answered S) (start : S) where
  abbrev pub numbers_of : List X → List ℕ
  numbers_of calls = numbers_in v calls (answers_to acts start calls)

  -- a step is a call of ours that gave 0
  abbrev pub steps_of : List X → ℕ
  steps_of calls = steps_in (numbers_of calls)

  abbrev pub own_after : List X → State
  own_after calls = v.own (state_after acts start calls)

  -- and the areas after one call more
  abbrev pub own_then : List X → X → State
  own_then calls x = v.own (acts (state_after acts start calls) x).after

  abbrev pub turns_in : List X → ℕ → ℕ
  turns_in calls b = turns_of b (events_in v calls) (numbers_of calls)

  -- after the calls `before`, x is a turn of processor b for these areas and gives 0
  pub record TurnIn (before : List X) (x : X) (b : ℕ) : Type 0 where
    pub ours : v.ours x ≡ true
    pub turn : v.event x ≡ turn_of b
    pub gave : (acts (state_after acts start before) x).number ≡ 0

  -- and the action is the one that b's program names next
  pub record DidIn (p : Plan) (before : List X) (x : X) (b : ℕ) (a : Action) : Type 0 where
    pub turn : TurnIn before x b
    pub named : get_or (program p b) (turns_in before b) (gather 0) ≡ a

  -- demand 3, but for progress, which is a matter of what else the calls refuse
  pub record Demand3In (p : Plan) (source : List ℕ) (collects : S → List ℕ → Answered (List ℕ)) (calls : List X) : Type 0 where
    pub once : Once p (events_in v calls) (numbers_of calls)
    pub then_fewer : (x : X) → v.ours x ≡ true → (acts (state_after acts start calls) x).number ≡ 0 → steps_of calls < total p
    pub collecting : Collects p source (steps_of calls ≡ total p) (collects (state_after acts start calls))
    pub carried_out : (before after : List X) (x : X) (b : ℕ) → calls ≡ before ++ (x ∷ after) → TurnIn before x b
        → CarriedOut p source (own_after before) (own_then before x) b (turns_in before b)

  -- processor b sends message m by the call x after the calls `before`; whatever calls come then. Field by field as in Words
  pub record PostedIn (p : Plan) (before : List X) (x : X) (b m : ℕ) : Type 0 where
    pub stays : (then : List X) (q : ℕ) → q < length (held_by p m)
        → mail_at p (own_after (before ++ (x ∷ then))) m q ≡ word_at p (own_after before) b (cell_of p m q)
    pub arrives : (then : List X) (y : X) (c q : ℕ) → q < length (held_by p m)
        → DidIn p (before ++ (x ∷ then)) y c (gather (taker_of p m))
        → word_at p (own_then (before ++ (x ∷ then)) y) c (cell_of p m q) ≡ word_at p (own_after before) b (cell_of p m q)

  -- demand 2's words, and the marks
  pub record WordsIn (p : Plan) (source : List ℕ) : Type 0 where
    -- each turn that gives 0 writes and leaves what its action does
    pub does : (before : List X) (x : X) (b : ℕ) (a : Action) → DidIn p before x b a → Does p source (own_after before) (own_then before x) b a
    pub posted : (before : List X) (x : X) (b m : ℕ) → DidIn p before x b (send m) → PostedIn p before x b m
    pub marks : (calls : List X) → StatusTells p (own_after calls) (events_in v calls) (numbers_of calls)

-- two runs, of whatever calls, that agree on their events and the numbers they got leave the same words in these areas: a tenant's own, whatever the other
-- tenant did; and those of one tenant alone
pub record Alone {S X S' X' : Type 0} (v : View S X) (acts : S → X → Answered S) (start : S) (v' : View S' X') (acts' : S' → X' → Answered S') (start' : S')
    : Type 0 where
  pub same_words : (calls : List X) (calls' : List X') → events_in v calls ≡ events_in v' calls'
      → numbers_of v acts start calls ≡ numbers_of v' acts' start' calls'
      → own_after v acts start calls ≡ own_after v' acts' start' calls'
