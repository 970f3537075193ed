-- Read this.
-- Processors that share no memory: each has all four areas to itself, and a transport carries a message's words to its taker's areas.
-- Renders document 01, "The machine", "Runs" and the customer's demand 3, for them: answers and grid are those of the machine on shared areas.
use Rattle.std.specs.Prelude.{ℕ, zero, suc, ◌*◌, ◌<◌, ◌≡◌, List, [], ◌∷◌, ◌++◌, length, get_or, set, ltb, eqb}
use Rattle.base.specs.Tests.{not, pick, some, tabulate}
use Rattle.base.specs.Lists.{put}
use Rattle.base.specs.Numbers.{Line, line, first_of}
use Rattle.machine.specs.Plan.{Plan, count, sender_of, taker_of, offset}
use Rattle.machine.specs.Machine.{State, state_of, finished_of, stage_of, sent_of, set_progress, memory_of, place_of, tiles_left, gather, carry_out, Answered}
use Rattle.machine.specs.Machine.{answered, turn, collect, fresh, sweep}
use Rattle.machine.specs.Runs.{Event, turn_of, delivery_of, act, total, program, turns_of, last, answers, state_after, answers_to, steps, Once, Collects}

-- ---- the system

-- each processor's own four areas, all of the plan's lengths; no two have a word in common
abbrev pub AreasApart : Type 0
AreasApart = ℕ → State

-- each made its own fresh start
unfoldable pub start_apart : Plan → AreasApart
start_apart p b = fresh p

-- processor b's areas are now s, the others' are as they were
unfoldable pub replaced : AreasApart → ℕ → State → AreasApart
replaced areas b s c = pick (eqb c b) s (areas c)

-- the processors between which message m goes
abbrev pub sender_at : Plan → ℕ → ℕ
sender_at p m = p.processor_of (sender_of p m)

abbrev pub taker_at : Plan → ℕ → ℕ
taker_at p m = p.processor_of (taker_of p m)

-- a turn of processor b: the machine's turn on b's own areas
unfoldable pub turn_apart : Plan → List ℕ → AreasApart → ℕ → Answered AreasApart
turn_apart p source areas b =
    pick (ltb b p.processors)
    (record { number = (turn p source (areas b) b).number; after = replaced areas b (turn p source (areas b) b).after })
    (record { number = 11; after = areas })

-- message m is marked delivered in these areas
abbrev pub marked : State → ℕ → State
marked s m = state_of s.memories s.buffer s.progress (set s.status m 2)

-- these words are put into the place of message m, and it is marked delivered
abbrev pub received : Plan → State → ℕ → List ℕ → State
received p s m ws = state_of s.memories (put s.buffer (offset p.messages m) ws) s.progress (set s.status m 2)

-- the sender's side of carrying message m, and the taker's side, given the words
unfoldable pub sent_off : Plan → AreasApart → ℕ → AreasApart
sent_off p areas m = replaced areas (sender_at p m) (marked (areas (sender_at p m)) m)

unfoldable pub arrived : Plan → AreasApart → ℕ → List ℕ → AreasApart
arrived p areas m ws = replaced areas (taker_at p m) (received p (areas (taker_at p m)) m ws)

-- message m is carried: what lies in its place at the sender's is put into the same place at the taker's
unfoldable pub carried : Plan → AreasApart → ℕ → AreasApart
carried p areas m = arrived p (sent_off p areas m) m (place_of p (areas (sender_at p m)).buffer m)

-- it is carried where it is in flight at its sender's
abbrev pub carry_lines : Plan → AreasApart → ℕ → List Line
carry_lines p areas m = line 11 (not (ltb m (count p))) ∷ line 14 (not (eqb (get_or (areas (sender_at p m)).status m 0) 1)) ∷ []

unfoldable pub deliver_apart : Plan → AreasApart → ℕ → Answered AreasApart
deliver_apart p areas m = answered (first_of (carry_lines p areas m)) (carried p areas m) areas

-- ---- runs of it, by the events of the machine's runs

unfoldable pub act_apart : Plan → List ℕ → AreasApart → Event → Answered AreasApart
act_apart p source areas (turn_of b) = turn_apart p source areas b
act_apart p source areas (delivery_of m) = deliver_apart p areas m

-- collecting: each cell from the processor of its tile, out of that processor's own part of its own memories,
-- once no processor says of itself that it has tiles left
unfoldable pub assembled : Plan → AreasApart → List ℕ
assembled p areas =
    tabulate (λ c. pick (p.inside c) (get_or (memory_of p (areas (p.processor_of (p.tile_of c))) (p.processor_of (p.tile_of c))) c 0) p.boundary)
    p.cells

unfoldable pub collect_apart : Plan → AreasApart → List ℕ → Answered (List ℕ)
collect_apart p areas grid = answered (first_of (line 15 (some (λ b. tiles_left p (areas b) b) p.processors) ∷ [])) (assembled p areas) grid

-- areas joined from the parts: into a fresh start go each processor's own part of its memories and its record
unfoldable pub join_to : Plan → AreasApart → ℕ → State
join_to p areas zero = fresh p
join_to p areas (suc b) =
    state_of (put (join_to p areas b).memories (b * p.cells) (memory_of p (areas b) b)) (join_to p areas b).buffer
    (set_progress (join_to p areas b).progress b (finished_of (areas b) b) (stage_of (areas b) b) (sent_of (areas b) b)) (join_to p areas b).status

abbrev pub joined : Plan → AreasApart → State
joined p areas = join_to p areas p.processors

-- ---- the claim, for `acts` on the processors' own areas beside `shared` on shared ones: the machine's, or any calls that answer alike

-- a turn of processor b that gave 0, after k such turns of b: the action named, carried out by the machine's rule on b's own areas, the others' untouched
pub record CarriedOutApart (p : Plan) (source : List ℕ) (acts : AreasApart → Event → Answered AreasApart) (areas : AreasApart) (b k : ℕ) : Type 0 where
  pub named : k < length (program p b)
  pub by_rule : (acts areas (turn_of b)).after ≡ replaced areas b (carry_out p source (areas b) b (get_or (program p b) k (gather 0)))

module _ (acts : AreasApart → Event → Answered AreasApart) (start : AreasApart) (events : List Event) where
  abbrev pub areas_after : AreasApart
  areas_after = last acts start events

  abbrev pub answers_apart : List ℕ
  answers_apart = answers acts start events

  abbrev pub steps_apart : ℕ
  steps_apart = steps acts start events

  pub record Demand3Apart (p : Plan) (source : List ℕ) (shared : State → Event → Answered State) (collects : State → List ℕ → Answered (List ℕ))
      : Type 0 where
    -- the answers are, one by one, those on shared areas
    pub same_answers : answers_apart ≡ answers shared (fresh p) events
    -- each processor has its part of the shared memories and its record
    pub same_memory : (b : ℕ) → b < p.processors → memory_of p (areas_after b) b ≡ memory_of p (last shared (fresh p) events) b
    pub same_finished : (b : ℕ) → b < p.processors → finished_of (areas_after b) b ≡ finished_of (last shared (fresh p) events) b
    pub same_stage : (b : ℕ) → b < p.processors → stage_of (areas_after b) b ≡ stage_of (last shared (fresh p) events) b
    pub same_sent : (b : ℕ) → b < p.processors → sent_of (areas_after b) b ≡ sent_of (last shared (fresh p) events) b
    -- demand 3, as in the machine's Runs
    pub once : Once p events answers_apart
    pub goes_on : steps_apart < total p → (e : Event) × ((acts areas_after e).number ≡ 0)
    pub then_fewer : (e : Event) → (acts areas_after e).number ≡ 0 → steps_apart < total p
    pub collecting : Collects p source (steps_apart ≡ total p) (collect_apart p areas_after)
    pub carried_out : (before after : List Event) (b : ℕ) → events ≡ before ++ (turn_of b ∷ after)
        → (acts (state_after acts start before) (turn_of b)).number ≡ 0
        → CarriedOutApart p source acts (state_after acts start before) b (turns_of b before (answers_to acts start before))
    -- the grid made of the processors' own parts is the sequential sweep
    pub grid : steps_apart ≡ total p → assembled p areas_after ≡ sweep p source
    -- collecting on areas joined from the parts answers as on shared ones
    pub joins : (old : List ℕ) → collects (joined p areas_after) old ≡ collects (last shared (fresh p) events) old
    pub joined_grid : steps_apart ≡ total p → (old : List ℕ) → length old ≡ p.cells
        → collects (joined p areas_after) old ≡ record { number = 0; after = sweep p source }

-- ---- of the machine

abbrev pub last_apart : Plan → List ℕ → List Event → AreasApart
last_apart p source events = areas_after (act_apart p source) (start_apart p) events

-- the same events on shared areas
abbrev pub last_shared : Plan → List ℕ → List Event → State
last_shared p source events = last (act p source) (fresh p) events

abbrev pub MachineApart : Plan → List ℕ → List Event → Type 0
MachineApart p source events = Demand3Apart (act_apart p source) (start_apart p) events p source (act p source) (collect p)
