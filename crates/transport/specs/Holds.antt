-- Read this.
-- What the definitions of the calls say together: a message has its row, it is waited for exactly where a turn waits, and taking it in is the
-- arrival of a packet in the theorem about processors that share no memory. Renders document 01, "The machine", lines 11, 12 and 14.
use Rattle.std.specs.Prelude.{◌≡◌, ℕ, ◌*◌, ◌<◌, true, ◌≢◌, List, length, slice_index}
use Rattle.base.specs.Tests.{some}
use Rattle.base.specs.Lists.{In, sublist}
use Rattle.base.specs.Numbers.{first_of}
use Rattle.machine.specs.Plan.{Plan, count, held_by, dues_of}
use Rattle.machine.specs.Machine.{State, tiles_left, current_tile, fit, waiting, Answered}
use Rattle.layout.specs.RouteWords.{route_of}
use Rattle.recipe.specs.Routes.{lines_for}
use Rattle.engine.specs.Calls.{recipe, areas}
use Rattle.network.specs.Apart.{taker_at}
use Rattle.network.specs.Packets.{Network, packet_at, arrive}
use Rattle.transport.specs.Calls.{row_of, rows_to, awaits, take_in_call}

-- what is waited for
pub record WaitsAsTurns (p : Plan) : Type 0 where
  -- something, exactly where a turn of a processor with tiles left would be refused with 12
  pub waits : (s : State) (b : ℕ) → tiles_left p s b ≡ true → some (awaits p s b) (count p) ≡ waiting p s b
  -- each such message is due at the processor's tile and not delivered
  pub due : (s : State) (b m : ℕ) → m < count p → awaits p s b m ≡ true → In m (dues_of p (current_tile p s b)) × (slice_index s.status m ≢ 2)

-- the k-th packet of a network: its message and words, and the processor that takes it
abbrev pub coming_message : Network → ℕ → ℕ
coming_message n k = (packet_at n.packets k).message

abbrev pub coming_words : Network → ℕ → List ℕ
coming_words n k = (packet_at n.packets k).words

abbrev pub comes_to : Plan → Network → ℕ → ℕ
comes_to p n k = taker_at p (coming_message n k)

-- it is there, as long as its message, and the taker's areas have their lengths and are fit
pub record Comes (p : Plan) (source : List ℕ) (n : Network) (k : ℕ) : Type 0 where
  pub there : k < length n.packets
  pub message : coming_message n k < count p
  pub long : length (coming_words n k) ≡ length (held_by p (coming_message n k))
  pub lengths : areas p source (n.areas (comes_to p n k)) ≡ true
  pub fit : fit p (n.areas (comes_to p n k)) ≡ true

-- the call on the taker's areas, by the taker's number
abbrev pub taken_in : List ℕ → ℕ → List ℕ → Network → ℕ → Answered State
taken_in bytes route source n k =
    take_in_call bytes route source (n.areas (comes_to (recipe bytes route) n k)) (comes_to (recipe bytes route) n k) (coming_message n k) (coming_words n k)

-- the arrival of that packet gives its number and leaves, at the taker's, its areas
pub record ArrivesAsTaken (bytes : List ℕ) (route : ℕ) : Type 0 where
  pub number : (source : List ℕ) (n : Network) (k : ℕ) → Comes (recipe bytes route) source n k
      → (arrive (recipe bytes route) n k).number ≡ (taken_in bytes route source n k).number
  pub after : (source : List ℕ) (n : Network) (k : ℕ) → Comes (recipe bytes route) source n k
      → (arrive (recipe bytes route) n k).after.areas (comes_to (recipe bytes route) n k) ≡ (taken_in bytes route source n k).after

-- the six words from 6 × m on are message m's
abbrev pub RowAt : Plan → Type 0
RowAt p = (m : ℕ) → m < count p → sublist (rows_to p (count p)) (6 * m) 6 ≡ row_of p m

-- of every recipe that is accepted for the route
pub record MailHolds (bytes : List ℕ) (route : ℕ) : Type 0 where
  pub rows : RowAt (recipe bytes route)
  pub waiting : WaitsAsTurns (recipe bytes route)
  pub arriving : first_of (lines_for (route_of route) bytes) ≡ 0 → ArrivesAsTaken bytes route
