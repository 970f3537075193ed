-- Read this. Boards that share nothing, for the calls as exported, records as structs: what the contracts say of one board's own areas, runs of such calls
-- on all boards over a transport, and demand 3 of them: on whole areas by turn, deliver and take_in, on own parts by the part's calls.
-- Renders document 01, "Runs" and "Numbers a call gives", for processors that share no memory.
use Rattle.std.specs.Prelude.{ℕ, ◌<◌, ◌≡◌, ◌≢◌, List, [], ◌∷◌, ◌++◌, length, eqb}
use Rattle.base.specs.Tests.{pick}
use Rattle.base.specs.Lists.{Bytes, sublist, pack}
use Rattle.base.specs.Numbers.{first_of}
use Rattle.machine.specs.Plan.{Plan, count, held_by}
use Rattle.machine.specs.Machine.{place_of, Answered}
use Rattle.machine.specs.Runs.{turn_of, delivery_of, last, answers, steps_in}
use Rattle.layout.specs.RouteWords.{route_of}
use Rattle.recipe.specs.Routes.{lines_for}
use Rattle.engine.specs.Calls.{answer, recipe, collect_call}
use Rattle.network.specs.Apart.{taker_at}
use Rattle.network.specs.Packets.{Packet, Network, network_of}
use Rattle.network.specs.Locality.{SameSource}
use Rattle.network.specs.Own.{own_cells}
use Rattle.network.specs.Brought.{BoardEvent, turn_at, post_at, brought_to, Carries}
use Rattle.network.specs.OnBoards.{whole, OnBoards, OnWholeAreas, Collected}
use Rattle.part.specs.Part.{mail_at}
use Rattle.network_runs.specs.Calls.{Sources}
use Rattle.network_runs.specs.Boards.{whole_boards, part_boards}
use Rattle.calls.specs.Gave.{Areas, in_words, FreshGave, EventGave, TakeInGave, PartFreshGave, PartTurnGave, PartPostGave, PartArriveGave, PartCollectGave}
use Rattle.guarantees.specs.OverRecords.{Gave}

-- the boards' areas, records as structs, and every packet posted; and their words
pub record Boards : Type 0 where
  pub areas : ℕ → Areas
  pub packets : List Packet

abbrev pub board_words : Boards → Network
board_words x = network_of (λ b. in_words (x.areas b)) x.packets

-- the board that an event is at
abbrev pub board_of : BoardEvent → ℕ
board_of (turn_at b) = b
board_of (post_at b m) = b
board_of (brought_to b m ws) = b

-- a call on board b, lent its own areas, gave n; every other board's areas are as they were, and these packets are new
pub record CallAt (boards b : ℕ) (Gives : Areas → ℕ → Areas → Type 0) (new : List Packet) (x : Boards) (n : ℕ) (y : Boards) : Type 0 where
  pub low : b < boards
  pub gave : Gives (x.areas b) n (y.areas b)
  pub others : (c : ℕ) → c ≢ b → y.areas c ≡ x.areas c
  pub packets : y.packets ≡ x.packets ++ new

-- a post that gave 0 is one packet more: the message's number, and its words as they lie there
abbrev pub new_packet : ℕ → ℕ → List ℕ → List Packet
new_packet n m ws = pick (eqb n 0) (record { message = m; words = ws } ∷ []) []

-- ---- the claims, about events with their numbers from `start` to `end`: by `acts` on words, of calls that give `Step`
pub record FixedBoards (Step : Boards → BoardEvent → ℕ → Boards → Type 0) (acts : Network → BoardEvent → Answered Network) (p : Plan)
    (source : List ℕ) (start : Boards) (events : List BoardEvent) (numbers : List ℕ) (end : Boards) : Type 0 where
  -- number by number and word by word the run over words, which has what demand 3 asks
  pub numbers_are : numbers ≡ answers acts (board_words start) events
  pub words_are : board_words end ≡ last acts (board_words start) events
  pub demand : OnBoards acts (board_words start) events p source
  -- what it says of a further call: some event gives 0 exactly when the steps are fewer, and a refusal leaves the very records of every board
  pub goes_on : steps_in numbers < whole p
      → (e : BoardEvent) × Carries acts (board_words end) (e ∷ []) × ((n : ℕ) (y : Boards) → Step end e n y → n ≡ 0)
  pub then_fewer : (e : BoardEvent) (y : Boards) → Carries acts (board_words end) (e ∷ []) → Step end e 0 y → steps_in numbers < whole p
  pub refused : (e : BoardEvent) (n : ℕ) (y : Boards) → Step end e n y → n ≢ 0 → (b : ℕ) → y.areas b ≡ end.areas b
  -- brought to the wrong board it is 11
  pub wrong_board : (b m : ℕ) (ws : List ℕ) (n : ℕ) (y : Boards) → m < count p → length ws ≡ length (held_by p m)
      → taker_at p m ≢ b → Step end (brought_to b m ws) n y → n ≡ 11

-- ---- one recipe and one route for all boards
module _ (bytes : List ℕ) (route : ℕ) where
  abbrev pub plan : Plan
  plan = recipe bytes route

  -- ---- an event, by the relation of its call: on the boards, each lent whole areas
  abbrev pub BoardGave : Sources → Boards → BoardEvent → ℕ → Boards → Type 0
  BoardGave sources x (turn_at b) n y =
      CallAt plan.processors b (λ a k c. EventGave bytes route (sources b) a (turn_of b) k c) [] x n y
  BoardGave sources x (post_at b m) n y =
      CallAt plan.processors b (λ a k c. EventGave bytes route (sources b) a (delivery_of m) k c)
      (new_packet n m (place_of plan (x.areas b).buffer m)) x n y
  BoardGave sources x (brought_to b m ws) n y = CallAt plan.processors b (λ a. TakeInGave bytes route (sources b) a b m ws) [] x n y

  -- each lent its own part
  abbrev pub PartGave : Sources → Boards → BoardEvent → ℕ → Boards → Type 0
  PartGave sources x (turn_at b) n y = CallAt plan.processors b (PartTurnGave bytes route (sources b) b) [] x n y
  PartGave sources x (post_at b m) n y =
      CallAt plan.processors b (PartPostGave bytes route b m)
      (new_packet n m (sublist (x.areas b).buffer (mail_at plan b m) (length (held_by plan m)))) x n y
  PartGave sources x (brought_to b m ws) n y = CallAt plan.processors b (PartArriveGave bytes route b m ws) [] x n y

  -- ---- a beginning: one recipe and one route for all, each board's fresh start gave 0, and nothing is posted
  pub record BegunBoards (source : List ℕ) (sources : Sources) (lent : ℕ → Areas) (start : Boards) : Type 0 where
    pub small : Bytes bytes
    pub accepted : first_of (lines_for (route_of route) bytes) ≡ 0
    pub whole : length source ≡ plan.cells
    pub own : (b : ℕ) → b < plan.processors → SameSource plan b (sources b) source
    pub gave : (b : ℕ) → b < plan.processors → FreshGave bytes route (sources b) (lent b) 0 (start.areas b)
    pub none : start.packets ≡ []

  pub record BegunParts (source : List ℕ) (sources : Sources) (lent : ℕ → Areas) (start : Boards) : Type 0 where
    pub small : Bytes bytes
    pub accepted : first_of (lines_for (route_of route) bytes) ≡ 0
    pub whole : length source ≡ plan.cells
    pub own : (b : ℕ) → b < plan.processors → sources b ≡ pack source (own_cells plan b)
    pub gave : (b : ℕ) → b < plan.processors → PartFreshGave bytes route b (lent b) 0 (start.areas b)
    pub none : start.packets ≡ []

  -- collecting part by part, whatever the others have done
  pub record CollectsParts (source : List ℕ) (numbers : List ℕ) (end : Boards) : Type 0 where
    pub collects : (b : ℕ) → b < plan.processors → (old grid : List ℕ)
        → PartCollectGave bytes route b (end.areas b).memories (end.areas b).progress old 0 grid → Collected plan source b old grid
    pub then_all : ((b : ℕ) → b < plan.processors
        → (old : List ℕ) × ((grid : List ℕ) × PartCollectGave bytes route b (end.areas b).memories (end.areas b).progress old 0 grid))
        → steps_in numbers ≡ whole plan
    pub each_collects : steps_in numbers ≡ whole plan → (b : ℕ) → b < plan.processors
        → (old grid : List ℕ) (n : ℕ) → length old ≡ plan.cells
        → PartCollectGave bytes route b (end.areas b).memories (end.areas b).progress old n grid → n ≡ 0

  pub record OverBoards (source : List ℕ) (sources : Sources) (lent : ℕ → Areas) (start : Boards) : Type 0 where
    -- every event at a board that there is can be given, whatever the areas are
    pub can_give : (x : Boards) (e : BoardEvent) → board_of e < plan.processors → (n : ℕ) × ((y : Boards) × BoardGave sources x e n y)
    pub can_give_parts : (x : Boards) (e : BoardEvent) → board_of e < plan.processors → (n : ℕ) × ((y : Boards) × PartGave sources x e n y)
    pub on_boards : BegunBoards source sources lent start → (events : List BoardEvent) (numbers : List ℕ) (end : Boards)
        → Gave (BoardGave sources) start events numbers end → Carries (whole_boards bytes route sources) (board_words start) events
        → FixedBoards (BoardGave sources) (whole_boards bytes route sources) plan source start events numbers end
    pub on_whole_areas : BegunBoards source sources lent start → (events : List BoardEvent)
        → Carries (whole_boards bytes route sources) (board_words start) events
        → OnWholeAreas (whole_boards bytes route sources) (board_words start) events plan source (collect_call bytes route source)
    pub on_parts : BegunParts source sources lent start → (events : List BoardEvent) (numbers : List ℕ) (end : Boards)
        → Gave (PartGave sources) start events numbers end → Carries (part_boards bytes route sources) (board_words start) events
        → FixedBoards (PartGave sources) (part_boards bytes route sources) plan source start events numbers end
    pub parts_collected : BegunParts source sources lent start → (events : List BoardEvent) (numbers : List ℕ) (end : Boards)
        → Gave (PartGave sources) start events numbers end → Carries (part_boards bytes route sources) (board_words start) events
        → CollectsParts source numbers end
