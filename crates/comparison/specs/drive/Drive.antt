-- Read this.
-- The events of a drive: a turn of each processor in the order; where none gave 0, a delivery of each message; again until none did.
-- Renders document 01, "Recipes to be met": how the second program takes turns and delivers; and what is claimed of such a drive.
use Rattle.std.specs.Prelude.{ℕ, zero, suc, ◌-◌, ◌≡◌, Bool, List, [], ◌∷◌, ◌++◌, ltb, eqb}
use Rattle.base.specs.Tests.{◌and◌, pick}
use Rattle.machine.specs.Plan.{count}
use Rattle.machine.specs.Machine.{State, Answered}
use Rattle.machine.specs.Runs.{Event, turn_of, delivery_of, state_after, total, steps}
use Rattle.engine.specs.Calls.{recipe, fresh_call}
use Rattle.engine.specs.Demands.{calls}
use Rattle.comparison.specs.declared.drive.Order.{Order}

-- the processor that takes the turn of a place in the order
unfoldable pub in_order : ℕ → Bool → ℕ → ℕ
in_order processors falling place = pick (falling and ltb place processors) (processors - 1 - place) place

-- the turns of the first n places
unfoldable pub turns_to : ℕ → Bool → ℕ → List Event
turns_to processors falling zero = []
turns_to processors falling (suc n) = turns_to processors falling n ++ (turn_of (in_order processors falling n) ∷ [])

-- the deliveries of the first n messages
unfoldable pub deliveries_to : ℕ → List Event
deliveries_to zero = []
deliveries_to (suc n) = deliveries_to n ++ (delivery_of n ∷ [])

abbrev pub turns : Order → List Event
turns o = turns_to o.processors o.falling o.processors

-- one of the events gave 0
unfoldable pub took : (State → Event → Answered State) → State → List Event → Bool
took acts s es = ltb 0 (steps acts s es)

-- a round: the turns; where none was taken, the deliveries too
unfoldable pub round_of : (State → Event → Answered State) → Order → State → List Event
round_of acts o s = pick (took acts s (turns o)) (turns o) (turns o ++ deliveries_to o.messages)

-- at most n rounds, until one in which nothing was done
unfoldable pub rounds_of : (State → Event → Answered State) → Order → ℕ → State → List Event
rounds_of acts o zero s = []
rounds_of acts o (suc n) s =
    round_of acts o s ++ pick (took acts s (round_of acts o s)) (rounds_of acts o n (state_after acts s (round_of acts o s))) []

-- the events took the areas from s to t, and the answer tells whether one of them gave 0
pub record Tried (acts : State → Event → Answered State) (s : State) (es : List Event) (answer : Bool) (t : State) : Type 0 where
  pub state : t ≡ state_after acts s es
  pub some : answer ≡ took acts s es

-- one call's state, and whether it gave 0
pub record Delivered (call : Answered State) (answer : Bool) (t : State) : Type 0 where
  pub state : t ≡ call.after
  pub done : answer ≡ eqb call.number 0

-- the state that a fresh start left which gave 0; the order and the number of rounds are the plan's
pub record Started (bytes source : List ℕ) (o : Order) (n : ℕ) (s : State) : Type 0 where
  pub before : State
  pub given : (fresh_call bytes 0 source before).number ≡ 0
  pub state : s ≡ (fresh_call bytes 0 source before).after
  pub processors : o.processors ≡ (recipe bytes 0).processors
  pub messages : o.messages ≡ count (recipe bytes 0)
  pub rounds : n ≡ total (recipe bytes 0)

-- a drive does the rounds' events; from a fresh start it takes every step of the run
pub record Driven (bytes source : List ℕ) (o : Order) (n : ℕ) (s t : State) : Type 0 where
  pub state : t ≡ state_after (calls bytes 0 source) s (rounds_of (calls bytes 0 source) o n s)
  pub whole : Started bytes source o n s → steps (calls bytes 0 source) s (rounds_of (calls bytes 0 source) o n s) ≡ total (recipe bytes 0)
