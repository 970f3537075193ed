-- Read this.
-- What is demanded of the calls by rounds, for a recipe's bytes: made of the definitions in Calls, which the calls' contracts equate them with.
-- Renders document 02, W-213: which round a tile has, that the driver ends in the greatest, and that no plan of whole tiles ends sooner.
use Rattle.std.specs.Prelude.{◌≡◌, ℕ, ◌<◌, List, slice_index}
use Rattle.base.specs.Lists.{Bytes}
use Rattle.machine.specs.Machine as machine
use Rattle.machine.specs.Machine.{State}
use Rattle.rounds.specs.Rounds.{told, drive, rounds, rounds_to, tile_round, RoundsHold, state_then}
use Rattle.engine.specs.Calls.{recipe, fresh_call_lines, fresh_call, collect_call}
use Rattle.engine.specs.Demands.{Fixed, calls}
use Rattle.schedule.specs.Calls.{rounds_call, rounds_of_lines, rounds_of_call}

pub record Demand213 : Type 0 where
  -- either call gives the number of its first true line; it does its work, or leaves every lent word as before, and the rounds told are 0
  pub run : (bytes source : List ℕ) (s : State)
      → Fixed (rounds_call bytes source s) (fresh_call_lines bytes 0 source s)
      (drive (calls bytes 0 source) (recipe bytes 0) (recipe bytes 0).tiles 0 (machine.fresh (recipe bytes 0))) (told 0 s)
  pub rounds_of : (bytes area : List ℕ)
      → Fixed (rounds_of_call bytes area) (rounds_of_lines bytes area) (rounds_to (recipe bytes 0) (recipe bytes 0).tiles) area
  -- it refuses as a fresh start does
  pub as_fresh : (bytes source : List ℕ) (s : State) → (rounds_call bytes source s).number ≡ (fresh_call bytes 0 source s).number
  -- the driver tells the greatest round of a tile, and the areas are those after so many rounds of calls
  pub tells : (bytes source : List ℕ) (s : State) → Bytes bytes → (rounds_call bytes source s).number ≡ 0
      → (rounds_call bytes source s).after
      ≡ told (rounds (recipe bytes 0)) (state_then (calls bytes 0 source) (collect_call bytes 0 source) (recipe bytes 0) source (rounds (recipe bytes 0)))
  -- all that is said of rounds holds of the calls
  pub by_rounds : (bytes source : List ℕ) (s : State) → Bytes bytes → (rounds_call bytes source s).number ≡ 0
      → RoundsHold (calls bytes 0 source) (collect_call bytes 0 source) (recipe bytes 0) source
  -- the word of a tile is its round
  pub round_of : (bytes area : List ℕ) → (rounds_of_call bytes area).number ≡ 0
      → (t : ℕ) → t < (recipe bytes 0).tiles → slice_index (rounds_of_call bytes area).after t ≡ tile_round (recipe bytes 0) t
