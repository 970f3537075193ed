-- Read this.
-- Runs: events, their answers, the steps among them, what each step did; and demand 3, one claim about the whole list.
-- Renders document 01, "Runs", and the customer's demand 3.
use Rattle.std.specs.Prelude.{ℕ, ◌+◌, ◌*◌, ◌≤◌, ◌<◌, ◌≡◌, Bool, true, false, List, [], ◌∷◌, ◌++◌, map, length, get_or, take, eqb}
use Rattle.base.specs.Tests.{◌and◌, one, sum}
use Rattle.base.specs.Lists.{member, count_if}
use Rattle.machine.specs.Plan.{Plan, count, taker_of, tiles_of, sends_of}
use Rattle.machine.specs.Machine.{State, Answered, Action, gather, calculate, send, turn, deliver, carry_out, sweep}

-- a turn of a processor, or the delivery of a message; numbers of any size
pub data Event : Type 0 where
  turn_of delivery_of : ℕ → Event

unfoldable pub act : Plan → List ℕ → State → Event → Answered State
act p source s (turn_of b) = turn p source s b
act p source s (delivery_of m) = deliver p s m

-- ---- a run of anything: S is the machine's state, E its events, or other states and events that answer alike

-- each event is given the state as the last left it; `acts` is the machine, or the calls themselves
unfoldable pub state_after : {S E : Type 0} → (S → E → Answered S) → S → List E → S
state_after acts s [] = s
state_after acts s (e ∷ es) = state_after acts (acts s e).after es

unfoldable pub answers_to : {S E : Type 0} → (S → E → Answered S) → S → List E → List ℕ
answers_to acts s [] = []
answers_to acts s (e ∷ es) = (acts s e).number ∷ answers_to acts (acts s e).after es

module _ {S E : Type 0} (acts : S → E → Answered S) (start : S) (events : List E) where
  abbrev pub last : S
  last = state_after acts start events

  abbrev pub answers : List ℕ
  answers = answers_to acts start events

  -- a step is an event that gave 0
  abbrev pub steps : ℕ
  steps = count_if (λ x. eqb x 0) answers

-- ---- the machine's runs

abbrev pub total : Plan → ℕ
total p = 2 * p.tiles + 2 * count p

-- a processor's tiles in index order: for each a gather, a calculate, then one send for each of its messages
unfoldable pub program_over : Plan → List ℕ → List Action
program_over p [] = []
program_over p (t ∷ ts) = gather t ∷ calculate t ∷ (map send (sends_of p t) ++ program_over p ts)

abbrev pub program : Plan → ℕ → List Action
program p b = program_over p (tiles_of p b)

-- how many turns of processor b gave 0
unfoldable pub turns_of : ℕ → List Event → List ℕ → ℕ
turns_of b [] xs = 0
turns_of b (e ∷ es) [] = 0
turns_of b (turn_of c ∷ es) (x ∷ xs) = one (eqb c b and eqb x 0) + turns_of b es xs
turns_of b (delivery_of m ∷ es) (x ∷ xs) = turns_of b es xs

-- the first of them did the first of its program, the second the next; how many deeds of all processors are such
abbrev pub times_of : Plan → List Event → List ℕ → (Action → Bool) → ℕ
times_of p es xs f = sum (λ b. count_if f (take (turns_of b es xs) (program p b))) p.processors

-- a cell is calculated by the calculate of its tile
unfoldable pub calculates : Plan → ℕ → Action → Bool
calculates p c (gather t) = false
calculates p c (calculate t) = member c (p.cells_of t)
calculates p c (send m) = false

-- a message is sent by its own send, taken by the gather of the tile that takes it
unfoldable pub sends : ℕ → Action → Bool
sends m (gather t) = false
sends m (calculate t) = false
sends m (send k) = eqb k m

unfoldable pub takes : Plan → ℕ → Action → Bool
takes p m (gather t) = eqb (taker_of p m) t
takes p m (calculate t) = false
takes p m (send k) = false

-- and delivered by each delivery of it that gave 0
unfoldable pub deliveries_of : ℕ → List Event → List ℕ → ℕ
deliveries_of m [] xs = 0
deliveries_of m (e ∷ es) [] = 0
deliveries_of m (turn_of b ∷ es) (x ∷ xs) = deliveries_of m es xs
deliveries_of m (delivery_of k ∷ es) (x ∷ xs) = one (eqb k m and eqb x 0) + deliveries_of m es xs

-- ---- what demand 3 asks of every kind of run: one list of events and the numbers that they got, and collecting

-- a step is an event that gave 0
abbrev pub steps_in : List ℕ → ℕ
steps_in numbers = count_if (λ x. eqb x 0) numbers

-- nothing is done too often, and at the end everything exactly once: of events and the numbers that they got alone
pub record Once (p : Plan) (events : List Event) (numbers : List ℕ) : Type 0 where
  pub bound : steps_in numbers ≤ total p
  -- no cell is calculated twice, one that is not in the nest never; no message sent, delivered or taken twice
  pub calculated : (c : ℕ) → c < p.cells → times_of p events numbers (calculates p c) ≤ 1
  pub not_calculated : (c : ℕ) → c < p.cells → p.inside c ≡ false → times_of p events numbers (calculates p c) ≡ 0
  pub sent : (m : ℕ) → m < count p → times_of p events numbers (sends m) ≤ 1
  pub delivered : (m : ℕ) → m < count p → deliveries_of m events numbers ≤ 1
  pub taken : (m : ℕ) → m < count p → times_of p events numbers (takes p m) ≤ 1
  -- when the steps are that many, each message exactly once, and each cell in the nest
  pub all_calculated : steps_in numbers ≡ total p → (c : ℕ) → c < p.cells → p.inside c ≡ true → times_of p events numbers (calculates p c) ≡ 1
  pub all_sent : steps_in numbers ≡ total p → (m : ℕ) → m < count p → times_of p events numbers (sends m) ≡ 1
  pub all_delivered : steps_in numbers ≡ total p → (m : ℕ) → m < count p → deliveries_of m events numbers ≡ 1
  pub all_taken : steps_in numbers ≡ total p → (m : ℕ) → m < count p → times_of p events numbers (takes p m) ≡ 1
  -- no processor has a step beyond its program
  pub no_more : (b : ℕ) → turns_of b events numbers ≤ length (program p b)

-- collecting into a grid of the right length gives 0 exactly when the run has ended, and then the sweep. Ended: its steps are all that there are
pub record Collects (p : Plan) (source : List ℕ) (Ended : Type 0) (collect : List ℕ → Answered (List ℕ)) : Type 0 where
  pub can_collect : Ended → (grid : List ℕ) → length grid ≡ p.cells → (collect grid).number ≡ 0
  pub then_all : (grid : List ℕ) → length grid ≡ p.cells → (collect grid).number ≡ 0 → Ended
  pub grid : Ended → (old : List ℕ) → length old ≡ p.cells → (collect old).after ≡ sweep p source

-- ---- the machine's

-- a turn of processor b from s to s', after k turns of b that gave 0: the action named, carried out by the machine's rule
pub record CarriedOut (p : Plan) (source : List ℕ) (s s' : State) (b k : ℕ) : Type 0 where
  pub named : k < length (program p b)
  pub by_rule : s' ≡ carry_out p source s b (get_or (program p b) k (gather 0))

-- the claim about a list of events from `start`, by the answers that `acts` gives
module _ (acts : State → Event → Answered State) (start : State) (events : List Event) where
  pub record Demand3 (p : Plan) (source : List ℕ) (collects : State → List ℕ → Answered (List ℕ)) : Type 0 where
    pub once : Once p events (answers acts start events)
    -- some event would give 0 exactly when the steps are fewer
    pub goes_on : steps acts start events < total p → (e : Event) × ((acts (last acts start events) e).number ≡ 0)
    pub then_fewer : (e : Event) → (acts (last acts start events) e).number ≡ 0 → steps acts start events < total p
    pub collecting : Collects p source (steps acts start events ≡ total p) (collects (last acts start events))
    -- each turn that gave 0 carried out, by the machine's rules, the action that the program names
    pub carried_out : (before after : List Event) (b : ℕ) → events ≡ before ++ (turn_of b ∷ after)
        → (acts (state_after acts start before) (turn_of b)).number ≡ 0
        → CarriedOut p source (state_after acts start before) (acts (state_after acts start before) (turn_of b)).after b
        (turns_of b before (answers_to acts start before))
