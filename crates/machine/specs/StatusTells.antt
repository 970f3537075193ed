-- Read this. What a message's mark tells of the steps before it: the marks that the machine writes, and the counts that Runs makes of the calls
-- and their answers alone, say the same after any list of events.
-- Renders document 01, "The machine" (0 unsent, 1 in flight, 2 delivered, 3 taken), and "Runs": a message is sent by its own send, delivered by
-- each delivery of it that gave 0, and taken by the gather of the tile that takes it.
use Rattle.std.specs.Prelude.{ℕ, ◌≤◌, ◌<◌, ◌≡◌, List, length, get_or}
use Rattle.machine.specs.Plan.{Plan, count, taker_of}
use Rattle.machine.specs.Machine.{State, Action, gather, send}
use Rattle.machine.specs.Runs.{Event, program, turns_of, times_of, sends, takes, deliveries_of}

-- es and xs: the events of a run and the numbers that they got

-- the action is among the steps: some processor's program has it at a place, and more turns of this processor than that gave 0
pub record Among (p : Plan) (es : List Event) (xs : List ℕ) (a : Action) : Type 0 where
  pub processor : ℕ
  pub low : processor < p.processors
  pub index : ℕ
  pub within : index < length (program p processor)
  pub named : get_or (program p processor) index (gather 0) ≡ a
  pub done : index < turns_of processor es xs

-- a message's mark, and how often it was sent, delivered and taken
pub data Standing : ℕ → ℕ → ℕ → ℕ → Type 0 where
  unsent : Standing 0 0 0 0
  in_flight : Standing 1 1 0 0
  delivered : Standing 2 1 1 0
  taken : Standing 3 1 1 1

pub record Tells (p : Plan) (es : List Event) (xs : List ℕ) (m mark : ℕ) : Type 0 where
  pub counts : Standing mark (times_of p es xs (sends m)) (deliveries_of m es xs) (times_of p es xs (takes p m))
  -- it is sent exactly where its send is among the steps, taken exactly where the gather of the tile that takes it is
  pub sent : 1 ≤ mark → Among p es xs (send m)
  pub then_sent : Among p es xs (send m) → 1 ≤ mark
  pub taken : mark ≡ 3 → Among p es xs (gather (taker_of p m))
  pub then_taken : Among p es xs (gather (taker_of p m)) → mark ≡ 3

-- the marks of the state s after these events
pub record StatusTells (p : Plan) (s : State) (es : List Event) (xs : List ℕ) : Type 0 where
  pub each : (m : ℕ) → m < count p → Tells p es xs m (get_or s.status m 0)
