-- Read this. Demand 3 for boards that share nothing, of every list of calls over a transport that carries what was posted: bound, progress, everything at
-- most once, what is refused, and what is collected, board by board. Renders document 01, "Runs", and the customer's demand 3, for such boards.
use Rattle.std.specs.Prelude.{ℕ, ◌+◌, ◌≤◌, ◌<◌, ◌≡◌, ◌≢◌, true, false, List, [], ◌∷◌, ◌++◌, map, length, get_or, eqb}
use Rattle.base.specs.Tests.{◌and◌, one}
use Rattle.base.specs.Lists.{In}
use Rattle.machine.specs.Plan.{Plan, count, held_by}
use Rattle.machine.specs.Machine.{State, Answered, gather, memory_of, tiles_left, carry_out, sweep}
use Rattle.machine.specs.Runs.{Event, turn_of, delivery_of, state_after, answers_to, total, program, turns_of, deliveries_of, last, answers, steps, steps_in}
use Rattle.machine.specs.Runs.{Once, Collects}
use Rattle.network.specs.Apart.{replaced, sender_at, taker_at, joined}
use Rattle.network.specs.Packets.{Packet, packet_at, Network}
use Rattle.network.specs.Brought.{BoardEvent, turn_at, post_at, brought_to, Carries}

-- ---- what is counted, of events and their numbers alone

-- the machine's events among them: a turn is a turn, a message taken in is a delivery; one handed over is on its way, and is none yet
unfoldable pub events_at : List BoardEvent → List Event
events_at [] = []
events_at (turn_at b ∷ es) = turn_of b ∷ events_at es
events_at (post_at b m ∷ es) = events_at es
events_at (brought_to b m ws ∷ es) = delivery_of m ∷ events_at es

-- and the numbers that these got
unfoldable pub numbers_at : List BoardEvent → List ℕ → List ℕ
numbers_at [] xs = []
numbers_at (e ∷ es) [] = []
numbers_at (turn_at b ∷ es) (x ∷ xs) = x ∷ numbers_at es xs
numbers_at (post_at b m ∷ es) (x ∷ xs) = numbers_at es xs
numbers_at (brought_to b m ws ∷ es) (x ∷ xs) = x ∷ numbers_at es xs

-- how often message m was handed over, by whatever board
unfoldable pub posts_of : ℕ → List BoardEvent → List ℕ → ℕ
posts_of m [] xs = 0
posts_of m (e ∷ es) [] = 0
posts_of m (turn_at b ∷ es) (x ∷ xs) = posts_of m es xs
posts_of m (post_at b k ∷ es) (x ∷ xs) = one (eqb k m and eqb x 0) + posts_of m es xs
posts_of m (brought_to b k ws ∷ es) (x ∷ xs) = posts_of m es xs

-- the machine's steps, and one more for each message, which is handed over and taken in
abbrev pub whole : Plan → ℕ
whole p = total p + count p

-- ---- the claim about a list of events from `start`, by the answers that `acts` gives
module _ (acts : Network → BoardEvent → Answered Network) (start : Network) (events : List BoardEvent) where
  abbrev pub boards_after : Network
  boards_after = last acts start events

  abbrev pub packets_after : List Packet
  packets_after = (last acts start events).packets

  abbrev pub numbers_got : List ℕ
  numbers_got = answers acts start events

  abbrev pub steps_got : ℕ
  steps_got = steps acts start events

  -- the numbers that the machine's events among them got; how often message m was taken in, and handed over
  abbrev pub machine_numbers : List ℕ
  machine_numbers = numbers_at events (answers acts start events)

  abbrev pub taken_in : ℕ → ℕ
  taken_in m = deliveries_of m (events_at events) (numbers_at events (answers acts start events))

  abbrev pub handed_over : ℕ → ℕ
  handed_over m = posts_of m events (answers acts start events)

  pub record OnBoards (p : Plan) (source : List ℕ) : Type 0 where
    pub bound : steps_got ≤ whole p
    -- some event would give 0 exactly when the steps are fewer; if only the taking in of what was posted
    pub goes_on : steps_got < whole p → (e : BoardEvent) × ((acts boards_after e).number ≡ 0) × Carries acts boards_after (e ∷ [])
    pub then_fewer : (e : BoardEvent) → Carries acts boards_after (e ∷ []) → (acts boards_after e).number ≡ 0 → steps_got < whole p
    -- no cell is calculated twice, one that is not in the nest never; no message sent, taken in or gathered twice; no board has a step beyond its program
    pub once : Once p (events_at events) machine_numbers
    -- and none is handed over twice
    pub handed_over_once : (m : ℕ) → m < count p → handed_over m ≤ 1
    -- when the steps are that many, so are the machine's among them: each message exactly once, and each cell in the nest; and each is handed over
    pub then_total : steps_got ≡ whole p → steps_in machine_numbers ≡ total p
    pub all_handed_over : steps_got ≡ whole p → (m : ℕ) → m < count p → handed_over m ≡ 1
    -- what was posted is a message's number and the sweep's words of its cells, and no message was posted twice
    pub posted_low : (k : ℕ) → k < length packets_after → (packet_at packets_after k).message < count p
    pub posted_words : (k : ℕ) → k < length packets_after
        → (packet_at packets_after k).words ≡ map (λ c. get_or (sweep p source) c 0) (held_by p (packet_at packets_after k).message)
    pub posted_once : (i k : ℕ) → i < length packets_after → k < length packets_after
        → (packet_at packets_after i).message ≡ (packet_at packets_after k).message → i ≡ k
    -- whatever is refused, nothing is written, on any board
    pub refused : (e : BoardEvent) → (acts boards_after e).number ≢ 0 → (acts boards_after e).after ≡ boards_after
    -- brought to the wrong board, it is 11; no such message, 11; harmed in its length, 9; come before, 14
    pub wrong_board : (b m : ℕ) (ws : List ℕ) → m < count p → length ws ≡ length (held_by p m) → taker_at p m ≢ b
        → (acts boards_after (brought_to b m ws)).number ≡ 11
    pub no_message : (b m : ℕ) (ws : List ℕ) → count p ≤ m → (acts boards_after (brought_to b m ws)).number ≡ 11
    pub wrong_length : (b m : ℕ) (ws : List ℕ) → b < p.processors → m < count p → length ws ≢ length (held_by p m)
        → (acts boards_after (brought_to b m ws)).number ≡ 9
    pub again : (m : ℕ) (ws : List ℕ) → m < count p → length ws ≡ length (held_by p m) → 1 ≤ taken_in m
        → (acts boards_after (brought_to (taker_at p m) m ws)).number ≡ 14
    -- a board that hands over another's message gets 14
    pub not_its_own : (b m : ℕ) → b < p.processors → m < count p → sender_at p m ≢ b → (acts boards_after (post_at b m)).number ≡ 14

  -- ---- boards that have all four areas each: a turn that gave 0 carried out the action that its program names, and collecting on areas joined from the
  -- boards' parts, as they came in, gives the sweep exactly when all steps are taken
  pub record OnWholeAreas (p : Plan) (source : List ℕ) (collects : State → List ℕ → Answered (List ℕ)) : Type 0 where
    pub by_rule : (before after : List BoardEvent) (b : ℕ) → events ≡ before ++ (turn_at b ∷ after)
        → (acts (state_after acts start before) (turn_at b)).number ≡ 0
        → (acts (state_after acts start before) (turn_at b)).after.areas
        ≡ replaced (state_after acts start before).areas b
        (carry_out p source ((state_after acts start before).areas b) b
        (get_or (program p b) (turns_of b (events_at before) (numbers_at before (answers_to acts start before))) (gather 0)))
    pub collecting : Collects p source (steps_got ≡ whole p) (collects (joined p boards_after.areas))
    -- a board with no tiles left has the sweep's words of its cells, whatever the others have
    pub part_right : (b c : ℕ) → b < p.processors → tiles_left p (boards_after.areas b) b ≡ false → c < p.cells → p.inside c ≡ true
        → p.processor_of (p.tile_of c) ≡ b → get_or (memory_of p (boards_after.areas b) b) c 0 ≡ get_or (sweep p source) c 0

-- ---- parts collected one by one, as they come in

-- board b's part was put into a grid: the sweep's words at its cells, the boundary outside the shape, every other word as before
pub record Collected (p : Plan) (source : List ℕ) (b : ℕ) (old new : List ℕ) : Type 0 where
  pub long : length new ≡ p.cells
  pub own : (c : ℕ) → c < p.cells → p.inside c ≡ true → p.processor_of (p.tile_of c) ≡ b → get_or new c 0 ≡ get_or (sweep p source) c 0
  pub outside : (c : ℕ) → c < p.cells → p.inside c ≡ false → get_or new c 0 ≡ p.boundary
  pub others : (c : ℕ) → c < p.cells → p.inside c ≡ true → p.processor_of (p.tile_of c) ≢ b → get_or new c 0 ≡ get_or old c 0

-- those of these boards, one after the other, each at whatever time
pub data CollectedAll (p : Plan) (source : List ℕ) : List ℕ → List ℕ → List ℕ → Type 0 where
  none : {grid : List ℕ} → CollectedAll p source [] grid grid
  next : {b : ℕ} {bs old grid new : List ℕ} → Collected p source b old grid → CollectedAll p source bs grid new → CollectedAll p source (b ∷ bs) old new

-- in any order, some of them again: once each board's was put there the grid is the sequential sweep
abbrev pub InAnyOrder : Plan → List ℕ → Type 0
InAnyOrder p source =
    (bs old new : List ℕ) → 1 ≤ p.processors → ((b : ℕ) → b < p.processors → In b bs) → CollectedAll p source bs old new → new ≡ sweep p source
