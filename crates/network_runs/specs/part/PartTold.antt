-- Read this. What the calls that tell of a part are for: areas of the told lengths begin, and the row of a message says where the transport reads its words.
-- Renders document 01, "The machine" and "Messages", for a board that is lent its own part alone.
use Rattle.std.specs.Prelude.{ℕ, ◌*◌, ◌<◌, ◌≡◌, true, List, length}
use Rattle.base.specs.Lists.{sublist}
use Rattle.base.specs.Numbers.{first_of}
use Rattle.machine.specs.Plan.{count}
use Rattle.machine.specs.Machine.{State}
use Rattle.layout.specs.RouteWords.{route_of}
use Rattle.recipe.specs.Routes.{lines_for}
use Rattle.engine.specs.Calls.{recipe}
use Rattle.network.specs.Own.{handles, handled, own_cells}
use Rattle.part.specs.Part.{rank_of}
use Rattle.part_calls.specs.declared.AreaLengths.{AreaLengths}
use Rattle.part_calls.specs.front.Calls.{lengths_of, part_row, part_rows, part_fresh_call}

-- the four lengths that a source and areas have, as they are told
abbrev pub lengths_had : List ℕ → State → AreaLengths
lengths_had source s =
    record { number = 0; cells = length source; kept = length s.memories; words = length s.buffer; messages = length s.status }

pub record PartTold (bytes : List ℕ) (route b : ℕ) : Type 0 where
  -- areas of these lengths, and one record: the fresh start gives 0, and in no others
  pub begins : (source : List ℕ) (s : State) → lengths_had source s ≡ lengths_of (recipe bytes route) b → length s.progress ≡ 3
      → (part_fresh_call bytes route s b).number ≡ 0
  pub then_told : (source : List ℕ) (s : State) → length source ≡ length (own_cells (recipe bytes route) b) → (part_fresh_call bytes route s b).number ≡ 0
      → lengths_had source s ≡ lengths_of (recipe bytes route) b
  -- message m's row stands at its rank among the board's messages; its last two words are how many words there are and where, as `part_calls` reads them
  pub row : (m : ℕ) → m < count (recipe bytes route) → handles (recipe bytes route) b m ≡ true
      → sublist (part_rows (recipe bytes route) b (handled (recipe bytes route) b)) (7 * rank_of (recipe bytes route) b m) 7 ≡ part_row (recipe bytes route) b m

abbrev pub PartTells : Type 0
PartTells =
    (bytes : List ℕ) (route b : ℕ) → first_of (lines_for (route_of route) bytes) ≡ 0 → b < (recipe bytes route).processors → PartTold bytes route b
