-- Read this.
-- Processors that crash and start again with nothing, and messages that are posted again: what is collected is still the sequential sweep,
-- and once no processor crashes any more the run can still end. No processor learns of another's crash, and nothing is kept through one.
-- Renders document 01, "The machine" and "Runs", for processors that may lose all they have, and a transport of which nothing is promised but that what
-- arrives was posted in this run, in whatever life of its sender.
use Rattle.std.specs.Prelude.{ℕ, ◌+◌, ◌≤◌, ◌<◌, ◌≡◌, ◌⊎◌, ◌≢◌, true, false, List, [], ◌∷◌, ◌++◌, map, length, get_or, ltb, leb, eqb}
use Rattle.base.specs.Tests.{◌and◌, not, pick, one, keep}
use Rattle.base.specs.Lists.{In}
use Rattle.base.specs.Numbers.{Line, line, first_of}
use Rattle.machine.specs.Plan.{Plan, count, taker_of, held_by, tiles_of}
use Rattle.machine.specs.Machine.{State, finished_of, stage_of, memory_of, place_of, tiles_left, Answered, answered, collect, fresh, sweep}
use Rattle.machine.specs.Runs.{total, program, last, answers}
use Rattle.network.specs.Apart.{AreasApart, replaced, sender_at, taker_at, joined, collect_apart}
use Rattle.network.specs.Packets.{Network, network_of, packet_at, status_at, NetworkEvent, turn_by, post_of, arrival_of, posted, act_network, start_network}
use Rattle.network.specs.Packets.{last_network, mailed}

-- ---- the system: that of Packets, and two events more

-- a turn, a post or an arrival as there; the posting again of a message; the crash and new start of a processor
pub data LifeEvent : Type 0 where
  plain : NetworkEvent → LifeEvent
  repost_of restart_of : ℕ → LifeEvent

-- a message is posted again where its sender has posted it since its last start: what lies in its place there, once more; nothing is marked
abbrev pub repost_lines : Plan → Network → ℕ → List Line
repost_lines p n m = line 11 (not (ltb m (count p))) ∷ line 14 (not (leb 2 (status_at n.areas (sender_at p m) m))) ∷ []

unfoldable pub repost : Plan → Network → ℕ → Answered Network
repost p n m = answered (first_of (repost_lines p n m)) (network_of n.areas (n.packets ++ posted p n.areas m)) n

-- a processor starts again: all four areas are its own fresh start's, at any time; packets posted before, by it or to it, may still arrive
abbrev pub restart_lines : Plan → ℕ → List Line
restart_lines p b = line 11 (not (ltb b p.processors)) ∷ []

unfoldable pub restart : Plan → Network → ℕ → Answered Network
restart p n b = answered (first_of (restart_lines p b)) (network_of (replaced n.areas b (fresh p)) n.packets) n

unfoldable pub act_lives : Plan → List ℕ → Network → LifeEvent → Answered Network
act_lives p source n (plain e) = act_network p source n e
act_lives p source n (repost_of m) = repost p n m
act_lives p source n (restart_of b) = restart p n b

-- ---- what is counted, of events and their answers

-- turns, posts and arrivals that gave 0
unfoldable pub deeds_of : List LifeEvent → List ℕ → ℕ
deeds_of [] xs = 0
deeds_of (e ∷ es) [] = 0
deeds_of (plain e ∷ es) (x ∷ xs) = one (eqb x 0) + deeds_of es xs
deeds_of (repost_of m ∷ es) (x ∷ xs) = deeds_of es xs
deeds_of (restart_of b ∷ es) (x ∷ xs) = deeds_of es xs

-- what processor b has to do from a fresh start: its turns, its posts, and the arrivals of the others' messages to it
unfoldable pub work_of : Plan → ℕ → ℕ
work_of p b =
    length (program p b) + (length (keep (λ m. eqb (sender_at p m) b) (count p)) + length
    (keep (λ m. eqb (taker_at p m) b and not (eqb (sender_at p m) (taker_at p m))) (count p)))

-- that, for each new start
unfoldable pub redone_of : Plan → List LifeEvent → List ℕ → ℕ
redone_of p [] xs = 0
redone_of p (e ∷ es) [] = 0
redone_of p (plain e ∷ es) (x ∷ xs) = redone_of p es xs
redone_of p (repost_of m ∷ es) (x ∷ xs) = redone_of p es xs
redone_of p (restart_of b ∷ es) (x ∷ xs) = pick (eqb x 0) (work_of p b) 0 + redone_of p es xs

-- ---- what a record tells, since the processor's last start

-- processor b has gathered for the i-th of its tiles; it has calculated it
abbrev pub Gathered : State → ℕ → ℕ → Type 0
Gathered s b i = (i < finished_of s b) ⊎ ((i ≡ finished_of s b) × (1 ≤ stage_of s b))

abbrev pub Calculated : State → ℕ → ℕ → Type 0
Calculated s b i = (i < finished_of s b) ⊎ ((i ≡ finished_of s b) × (2 ≤ stage_of s b))

-- no processor has tiles left
abbrev pub Finished : Plan → AreasApart → Type 0
Finished p areas = (b : ℕ) → b < p.processors → tiles_left p (areas b) b ≡ false

-- ---- the claim, over every list of events, for `acts` on a network: the machine's, or any calls that answer alike

-- something can be done even if every packet posted so far is lost: a turn, a post, or a post again whose new packet is then taken in
pub data GoesWithout (acts : Network → LifeEvent → Answered Network) (n : Network) : Type 0 where
  turns : (b : ℕ) → (acts n (plain (turn_by b))).number ≡ 0 → GoesWithout acts n
  posts : (m : ℕ) → (acts n (plain (post_of m))).number ≡ 0 → GoesWithout acts n
  resends : (m : ℕ) → (acts n (repost_of m)).number ≡ 0 → (acts (acts n (repost_of m)).after (plain (arrival_of (length n.packets)))).number ≡ 0
      → GoesWithout acts n

module _ (acts : Network → LifeEvent → Answered Network) (start : Network) (events : List LifeEvent) where
  abbrev pub lived : Network
  lived = last acts start events

  pub record ByLives (p : Plan) (source : List ℕ) (collects : State → List ℕ → Answered (List ℕ)) : Type 0 where
    -- a processor can start again at any time: it has nothing then, and nothing else is changed
    pub restarts : (b : ℕ) → b < p.processors
        → acts lived (restart_of b) ≡ record { number = 0; after = network_of (replaced lived.areas b (fresh p)) lived.packets }
    -- a message that its sender has posted since its last start can be posted again at any time, as often as one likes
    pub reposts : (m : ℕ) → m < count p → 2 ≤ status_at lived.areas (sender_at p m) m
        → acts lived (repost_of m) ≡ record { number = 0; after = network_of lived.areas (lived.packets ++ posted p lived.areas m) }
    -- an event that is refused changes nothing
    pub refused : (e : LifeEvent) → (acts lived e).number ≢ 0 → (acts lived e).after ≡ lived
    -- and a packet that comes where its message's status isn't 0, in whatever life it was posted, is refused
    pub turned_away : (k : ℕ) → k < length lived.packets
        → status_at lived.areas (taker_at p (packet_at lived.packets k).message) (packet_at lived.packets k).message ≢ 0
        → (acts lived (plain (arrival_of k))).number ≡ 14
    -- every packet ever posted, in whatever life, goes from one processor to another and has the sweep's words of its message's cells
    pub goes : (k : ℕ) → k < length lived.packets
        → ((packet_at lived.packets k).message < count p)
        × (sender_at p (packet_at lived.packets k).message ≢ taker_at p (packet_at lived.packets k).message)
    pub carries : (k : ℕ) → k < length lived.packets
        → (packet_at lived.packets k).words ≡ map (λ c. get_or (sweep p source) c 0) (held_by p (packet_at lived.packets k).message)
    -- so a sender says the same in each of its lives
    pub same_words : (i k : ℕ) → i < length lived.packets → k < length lived.packets
        → (packet_at lived.packets i).message ≡ (packet_at lived.packets k).message
        → (packet_at lived.packets i).words ≡ (packet_at lived.packets k).words
    -- what a processor has calculated or taken in since its last start, by its record, stands in its memory with the sweep's words
    pub calculated : (b i c : ℕ) → b < p.processors → i < length (tiles_of p b) → Calculated (lived.areas b) b i
        → In c (p.cells_of (get_or (tiles_of p b) i 0)) → get_or (memory_of p (lived.areas b) b) c 0 ≡ get_or (sweep p source) c 0
    pub taken : (b i m c : ℕ) → b < p.processors → i < length (tiles_of p b) → Gathered (lived.areas b) b i
        → m < count p → taker_of p m ≡ get_or (tiles_of p b) i 0 → In c (held_by p m)
        → get_or (memory_of p (lived.areas b) b) c 0 ≡ get_or (sweep p source) c 0
    -- and so does what it has sent or received stand in its buffer
    pub holds : (b m : ℕ) → b < p.processors → m < count p → 1 ≤ status_at lived.areas b m
        → place_of p (lived.areas b).buffer m ≡ map (λ c. get_or (sweep p source) c 0) (held_by p m)
    -- collecting gives 0 exactly when no processor has tiles left, and then the grid is the sequential sweep
    pub can_collect : Finished p lived.areas → (grid : List ℕ) → (collect_apart p lived.areas grid).number ≡ 0
    pub then_finished : (grid : List ℕ) → (collect_apart p lived.areas grid).number ≡ 0 → Finished p lived.areas
    pub grid : (old : List ℕ) → (collect_apart p lived.areas old).number ≡ 0 → (collect_apart p lived.areas old).after ≡ sweep p source
    -- and so is what collecting gives on areas joined from the processors' parts and records
    pub joins : (grid : List ℕ) → length grid ≡ p.cells → collects (joined p lived.areas) grid ≡ collect_apart p lived.areas grid
    -- parts may be taken at different times: a processor with no tiles left has the sweep's words of all its cells, whatever the others have
    pub part_right : (b c : ℕ) → b < p.processors → tiles_left p (lived.areas b) b ≡ false → c < p.cells → p.inside c ≡ true
        → p.processor_of (p.tile_of c) ≡ b → get_or (memory_of p (lived.areas b) b) c 0 ≡ get_or (sweep p source) c 0
    -- while a processor has tiles left some turn, post or arrival gives 0; no new start is needed, and no packet posted before
    pub goes_on : (b : ℕ) → b < p.processors → tiles_left p (lived.areas b) b ≡ true → (e : NetworkEvent) × ((acts lived (plain e)).number ≡ 0)
    pub goes_without : (b : ℕ) → b < p.processors → tiles_left p (lived.areas b) b ≡ true → GoesWithout acts lived
    -- whatever comes then: from the last new start on, no more turns, posts and arrivals give 0 than in a run without any; and each new start before
    -- it costs at most the work of its own processor again, and no other's
    pub bounded : (then : List LifeEvent) → deeds_of then (answers acts lived then) ≤ total p + mailed p + redone_of p then (answers acts lived then)
    -- and so many turns, posts and arrivals, well chosen, are enough to finish from here
    pub can_finish : (then : List NetworkEvent) × ((length then ≤ total p + mailed p) × Finished p (last acts lived (map plain then)).areas)

-- ---- of the machine

abbrev pub last_lives : Plan → List ℕ → List LifeEvent → Network
last_lives p source events = lived (act_lives p source) (start_network p) events

abbrev pub MachineByLives : Plan → List ℕ → List LifeEvent → Type 0
MachineByLives p source events = ByLives (act_lives p source) (start_network p) events p source (collect p)

-- a run without new starts and posts again is one of Packets, so that all that is claimed there holds of it
pub record AsPackets (p : Plan) (source : List ℕ) (events : List NetworkEvent) : Type 0 where
  pub same_answers : answers (act_lives p source) (start_network p) (map plain events) ≡ answers (act_network p source) (start_network p) events
  pub same_network : last_lives p source (map plain events) ≡ last_network p source events
