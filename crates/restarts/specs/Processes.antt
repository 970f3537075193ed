-- Read this.
-- Processes that are one processor at the same time: each has areas of its own, all make turns and all post, and a packet may reach any of them. One
-- that was given up and still runs is such a process, and so is one that is started beside it. None learns of another.
-- Renders document 01, "The machine" and "Runs", for them: whichever process a processor's part is taken from, what is collected is the sweep.
use Rattle.std.specs.Prelude.{ℕ, ◌+◌, ◌*◌, ◌≤◌, ◌<◌, ◌≡◌, ◌≢◌, true, false, List, [], ◌∷◌, ◌++◌, map, length, get_or, ltb, leb, eqb}
use Rattle.base.specs.Tests.{◌and◌, not, pick, one}
use Rattle.base.specs.Lists.{In}
use Rattle.base.specs.Numbers.{Line, line, first_of}
use Rattle.machine.specs.Plan.{Plan, count, taker_of, held_by, tiles_of}
use Rattle.machine.specs.Machine.{State, memory_of, place_of, tiles_left, Answered, answered, turn, fresh, sweep}
use Rattle.machine.specs.Runs.{last, answers}
use Rattle.network.specs.Apart.{AreasApart, replaced, sender_at, taker_at, marked, received, collect_apart}
use Rattle.network.specs.Packets.{Packet, Network, network_of, packet_at, status_at, start_network}
use Rattle.restarts.specs.Restarts.{work_of, Gathered, Calculated, Finished}

-- the processor that each process is; processes are numbered as one likes, and in a network here each process has areas
abbrev pub Roles : Type 0
Roles = ℕ → ℕ

-- a process starts with nothing; makes a turn; posts a message, posts it again; is given the k-th packet
pub data ProcessEvent : Type 0 where
  start_of turn_from : ℕ → ProcessEvent
  post_from repost_from arrival_at : ℕ → ℕ → ProcessEvent

-- what is posted of message m by one whose areas are s
unfoldable pub posted_from : Plan → State → ℕ → List Packet
posted_from p s m = pick (eqb (sender_at p m) (taker_at p m)) [] (record { message = m; words = place_of p s.buffer m } ∷ [])

-- a message is posted where it is in flight, again where it was sent or received, and taken in by a process of its taker where it has status 0 there
abbrev pub post_from_lines : Plan → Network → ℕ → ℕ → List Line
post_from_lines p n q m = line 11 (not (ltb m (count p))) ∷ line 14 (not (eqb (status_at n.areas q m) 1)) ∷ []

abbrev pub repost_from_lines : Plan → Network → ℕ → ℕ → List Line
repost_from_lines p n q m = line 11 (not (ltb m (count p))) ∷ line 14 (not (leb 2 (status_at n.areas q m))) ∷ []

abbrev pub arrival_at_lines : Plan → Roles → Network → ℕ → ℕ → List Line
arrival_at_lines p role n q k =
    line 11 (not (ltb k (length n.packets) and eqb (taker_at p (packet_at n.packets k).message) (role q))) ∷
    line 14 (not (eqb (status_at n.areas q (packet_at n.packets k).message) 0)) ∷ []

unfoldable pub repost_by : Plan → Network → ℕ → ℕ → Answered Network
repost_by p n q m = answered (first_of (repost_from_lines p n q m)) (network_of n.areas (n.packets ++ posted_from p (n.areas q) m)) n

unfoldable pub act_process : Plan → List ℕ → Roles → Network → ProcessEvent → Answered Network
act_process p source role n (start_of q) = record { number = 0; after = network_of (replaced n.areas q (fresh p)) n.packets }
act_process p source role n (turn_from q) =
    record {
      number = (turn p source (n.areas q) (role q)).number;
      after = network_of (replaced n.areas q (turn p source (n.areas q) (role q)).after) n.packets;
    }
act_process p source role n (post_from q m) =
    answered (first_of (post_from_lines p n q m))
    (network_of (replaced n.areas q (marked (n.areas q) m)) (n.packets ++ posted_from p (n.areas q) m)) n
act_process p source role n (repost_from q m) = repost_by p n q m
act_process p source role n (arrival_at q k) =
    answered (first_of (arrival_at_lines p role n q k))
    (network_of (replaced n.areas q (received p (n.areas q) (packet_at n.packets k).message (packet_at n.packets k).words)) n.packets) n

-- ---- what is counted

-- a turn or a post by process q, or an arrival at it, that gave 0
unfoldable pub deed_by : ℕ → ProcessEvent → ℕ → ℕ
deed_by q (start_of c) x = 0
deed_by q (turn_from c) x = one (eqb c q and eqb x 0)
deed_by q (post_from c m) x = one (eqb c q and eqb x 0)
deed_by q (repost_from c m) x = 0
deed_by q (arrival_at c k) x = one (eqb c q and eqb x 0)

unfoldable pub deeds_by : ℕ → List ProcessEvent → List ℕ → ℕ
deeds_by q [] xs = 0
deeds_by q (e ∷ es) [] = 0
deeds_by q (e ∷ es) (x ∷ xs) = deed_by q e x + deeds_by q es xs

-- the starts of process q
unfoldable pub start_by : ℕ → ProcessEvent → ℕ
start_by q (start_of c) = one (eqb c q)
start_by q (turn_from c) = 0
start_by q (post_from c m) = 0
start_by q (repost_from c m) = 0
start_by q (arrival_at c k) = 0

unfoldable pub starts_by : ℕ → List ProcessEvent → ℕ
starts_by q [] = 0
starts_by q (e ∷ es) = start_by q e + starts_by q es

-- ---- the claim

-- one process of each processor, any
abbrev pub Chooses : Plan → Roles → (ℕ → ℕ) → Type 0
Chooses p role who = (b : ℕ) → b < p.processors → role (who b) ≡ b

-- the areas of these processes, as those of the processors
abbrev pub areas_of : Network → (ℕ → ℕ) → AreasApart
areas_of n who b = n.areas (who b)

-- one of these can make a turn or post, or posts again what another of them then takes in
pub data GoesFor (acts : Network → ProcessEvent → Answered Network) (n : Network) (p : Plan) (who : ℕ → ℕ) : Type 0 where
  turns : (b : ℕ) → b < p.processors → (acts n (turn_from (who b))).number ≡ 0 → GoesFor acts n p who
  posts : (m : ℕ) → m < count p → (acts n (post_from (who (sender_at p m)) m)).number ≡ 0 → GoesFor acts n p who
  resends : (m : ℕ) → m < count p → (acts n (repost_from (who (sender_at p m)) m)).number ≡ 0
      → (acts (acts n (repost_from (who (sender_at p m)) m)).after (arrival_at (who (taker_at p m)) (length n.packets))).number ≡ 0
      → GoesFor acts n p who

module _ (acts : Network → ProcessEvent → Answered Network) (start : Network) (events : List ProcessEvent) where
  abbrev pub now : Network
  now = last acts start events

  pub record ByProcesses (p : Plan) (source : List ℕ) (role : Roles) : Type 0 where
    -- a process can start at any time: it has nothing then, and nothing else is changed
    pub starts : (q : ℕ) → acts now (start_of q) ≡ record { number = 0; after = network_of (replaced now.areas q (fresh p)) now.packets }
    -- an event that is refused changes nothing
    pub refused : (e : ProcessEvent) → (acts now e).number ≢ 0 → (acts now e).after ≡ now
    -- and a packet that comes to a process of its taker where its message's status isn't 0, by whichever process it was posted, is refused
    pub turned_away : (q k : ℕ) → k < length now.packets → taker_at p (packet_at now.packets k).message ≡ role q
        → status_at now.areas q (packet_at now.packets k).message ≢ 0 → (acts now (arrival_at q k)).number ≡ 14
    -- every packet ever posted, by whichever process, goes from one processor to another and has the sweep's words of its message's cells
    pub goes : (k : ℕ) → k < length now.packets
        → ((packet_at now.packets k).message < count p)
        × (sender_at p (packet_at now.packets k).message ≢ taker_at p (packet_at now.packets k).message)
    pub carries : (k : ℕ) → k < length now.packets
        → (packet_at now.packets k).words ≡ map (λ c. get_or (sweep p source) c 0) (held_by p (packet_at now.packets k).message)
    -- so all processes of one processor say the same
    pub same_words : (i k : ℕ) → i < length now.packets → k < length now.packets
        → (packet_at now.packets i).message ≡ (packet_at now.packets k).message
        → (packet_at now.packets i).words ≡ (packet_at now.packets k).words
    -- what a process has calculated, taken in, sent or received since its start, by its own record, stands there with the sweep's words
    pub calculated : (q i c : ℕ) → i < length (tiles_of p (role q)) → Calculated (now.areas q) (role q) i
        → In c (p.cells_of (get_or (tiles_of p (role q)) i 0)) → get_or (memory_of p (now.areas q) (role q)) c 0 ≡ get_or (sweep p source) c 0
    pub taken : (q i m c : ℕ) → i < length (tiles_of p (role q)) → Gathered (now.areas q) (role q) i
        → m < count p → taker_of p m ≡ get_or (tiles_of p (role q)) i 0 → In c (held_by p m)
        → get_or (memory_of p (now.areas q) (role q)) c 0 ≡ get_or (sweep p source) c 0
    pub holds : (q m : ℕ) → m < count p → 1 ≤ status_at now.areas q m
        → place_of p (now.areas q).buffer m ≡ map (λ c. get_or (sweep p source) c 0) (held_by p m)
    -- a process with no tiles left has the sweep's words of all its processor's cells, whatever the others have
    pub part_right : (q c : ℕ) → tiles_left p (now.areas q) (role q) ≡ false → c < p.cells → p.inside c ≡ true
        → p.processor_of (p.tile_of c) ≡ role q → get_or (memory_of p (now.areas q) (role q)) c 0 ≡ get_or (sweep p source) c 0
    -- collecting from one process of each processor, any, gives 0 exactly when none of these has tiles left, and then the sequential sweep
    pub can_collect : (who : ℕ → ℕ) → Chooses p role who → Finished p (areas_of now who) → (grid : List ℕ)
        → (collect_apart p (areas_of now who) grid).number ≡ 0
    pub then_finished : (who : ℕ → ℕ) → Chooses p role who → (grid : List ℕ) → (collect_apart p (areas_of now who) grid).number ≡ 0
        → Finished p (areas_of now who)
    pub grid : (who : ℕ → ℕ) → Chooses p role who → (old : List ℕ) → (collect_apart p (areas_of now who) old).number ≡ 0
        → (collect_apart p (areas_of now who) old).after ≡ sweep p source
    -- while one of them has tiles left, these alone can go on, whatever the others do and even if every packet posted so far is lost
    pub goes_on : (who : ℕ → ℕ) → Chooses p role who → (b : ℕ) → b < p.processors → tiles_left p (now.areas (who b)) b ≡ true → GoesFor acts now p who
    -- whatever comes then: a process does no more than its processor's own work, and once more for each of its starts
    pub bounded : (q : ℕ) (then : List ProcessEvent)
        → deeds_by q then (answers acts now then) ≤ work_of p (role q) + starts_by q then * work_of p (role q)

-- ---- of the machine
abbrev pub MachineByProcesses : Plan → List ℕ → Roles → List ProcessEvent → Type 0
MachineByProcesses p source role events = ByProcesses (act_process p source role) (start_network p) events p source role
