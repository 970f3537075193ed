-- Read this. The second program's two sources and its two orders of turns, computed as lists; and all events of row D in either order.
-- Renders document 01, "Recipes to be met": every word 1, or each word its cell's number plus 1; turns in rising, then in falling order, mail when none can be
-- taken. Ruled out: a second source that counts from 0, turns of one order in both, deliveries while a turn can be taken.
use Rattle.std.specs.Prelude.{◌≡◌, Bool, true, false, List, [], ◌∷◌}
use Rattle.machine.specs.Machine.{fresh}
use Rattle.machine.specs.Runs.{Event, turn_of, delivery_of, act}
use Rattle.nest.specs.Recipes.{row_d}
use Rattle.engine.specs.Calls.{recipe}
use Rattle.comparison.specs.declared.drive.Order.{Order}
use Rattle.comparison.specs.drive.Drive.{turns, deliveries_to, rounds_of}
use Rattle.comparison.specs.Agreement.{source_of}

-- three processors, or row D's two with its one message
abbrev pub three : Bool → Order
three falling = record { processors = 3; messages = 0; falling = falling }

abbrev pub two : Bool → Order
two falling = record { processors = 2; messages = 1; falling = falling }

-- row D's events from a fresh start: at most six rounds, which is its number of steps
abbrev pub events_of : Bool → Bool → List Event
events_of counting falling = rounds_of (act (recipe row_d 0) (source_of counting 4)) (two falling) 6 (fresh (recipe row_d 0))

pub record DriveExamples : Type 0 where
  pub ones : source_of false 4 ≡ 1 ∷ 1 ∷ 1 ∷ 1 ∷ []
  pub numbers : source_of true 4 ≡ 1 ∷ 2 ∷ 3 ∷ 4 ∷ []
  pub rising : turns (three false) ≡ turn_of 0 ∷ turn_of 1 ∷ turn_of 2 ∷ []
  pub falling : turns (three true) ≡ turn_of 2 ∷ turn_of 1 ∷ turn_of 0 ∷ []
  pub mail : deliveries_to 3 ≡ delivery_of 0 ∷ delivery_of 1 ∷ delivery_of 2 ∷ []
  -- processor 0's three steps, a round with no step, behind which the message is delivered, then processor 1's two
  pub D-rising : events_of true false
      ≡ turn_of 0 ∷ turn_of 1 ∷ turn_of 0 ∷ turn_of 1 ∷ turn_of 0 ∷ turn_of 1 ∷ turn_of 0 ∷ turn_of 1 ∷ delivery_of 0
      ∷ turn_of 0 ∷ turn_of 1 ∷ turn_of 0 ∷ turn_of 1 ∷ []
  pub D-falling : events_of true true
      ≡ turn_of 1 ∷ turn_of 0 ∷ turn_of 1 ∷ turn_of 0 ∷ turn_of 1 ∷ turn_of 0 ∷ turn_of 1 ∷ turn_of 0 ∷ delivery_of 0
      ∷ turn_of 1 ∷ turn_of 0 ∷ turn_of 1 ∷ turn_of 0 ∷ []
