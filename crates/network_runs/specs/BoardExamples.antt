-- Read this. Row D of document 01's table on two boards that share nothing, computed: what each call gives, on whole areas and on own parts, with messages
-- brought to the wrong board and again; and a transport that carries it, so that the premises of Boards are met.
use Rattle.std.specs.Prelude.{ℕ, ◌≡◌, List, [], ◌∷◌, ◌++◌}
use Rattle.base.specs.Lists.{pack}
use Rattle.machine.specs.Machine.{fresh}
use Rattle.machine.specs.Runs.{answers}
use Rattle.nest.specs.Recipes.{row_d}
use Rattle.engine.specs.Calls.{recipe}
use Rattle.network.specs.Apart.{AreasApart}
use Rattle.network.specs.Own.{own_cells}
use Rattle.network.specs.Brought.{BoardEvent, turn_at, post_at, brought_to, Carries}
use Rattle.network.specs.OnBoards.{whole, steps_got}
use Rattle.part_calls.specs.front.Calls.{to_part}
use Rattle.network_runs.specs.Calls.{Sources, start_network_calls}
use Rattle.network_runs.specs.Demands.{Begun}
use Rattle.network_runs.specs.part.Runs.{PartSources, part_start}
use Rattle.network_runs.specs.part.Demands.{BegunApart}
use Rattle.network_runs.specs.Boards.{whole_boards, part_boards}

-- a source; each board lent it whole, or the words of its own two cells
abbrev pub source_d : List ℕ
source_d = 4 ∷ 5 ∷ 5 ∷ 6 ∷ []

abbrev pub whole_sources : Sources
whole_sources b = source_d

abbrev pub part_sources : PartSources
part_sources b = pack source_d (own_cells (recipe row_d 0) b)

abbrev pub whole_lent : AreasApart
whole_lent b = fresh (recipe row_d 0)

abbrev pub part_lent : AreasApart
part_lent b = to_part (recipe row_d 0) b (fresh (recipe row_d 0))

-- board 1 waits; board 0 gathers and calculates, hands its message over too early, sends it; board 1 hands over what is not its own; board 0 its own
abbrev pub posting : List BoardEvent
posting = turn_at 1 ∷ turn_at 0 ∷ turn_at 0 ∷ post_at 0 0 ∷ turn_at 0 ∷ post_at 1 0 ∷ post_at 0 0 ∷ []

-- its word is 9; it is brought to board 0, which sent it, to board 2, which there is not, to board 1, and again; board 1 does its tile
abbrev pub taking : List BoardEvent
taking = brought_to 0 0 (9 ∷ []) ∷ brought_to 2 0 (9 ∷ []) ∷ brought_to 1 0 (9 ∷ []) ∷ brought_to 1 0 (9 ∷ []) ∷ turn_at 1 ∷ turn_at 1 ∷ turn_at 1 ∷ []

abbrev pub events_d : List BoardEvent
events_d = posting ++ taking

abbrev pub numbers_d : List ℕ
numbers_d = 12 ∷ 0 ∷ 0 ∷ 14 ∷ 0 ∷ 14 ∷ 0 ∷ 11 ∷ 11 ∷ 0 ∷ 14 ∷ 0 ∷ 0 ∷ 13 ∷ []

pub record BoardExamples : Type 0 where
  pub begun : Begun row_d 0 source_d whole_sources whole_lent
  pub carries : Carries (whole_boards row_d 0 whole_sources) (start_network_calls row_d 0 whole_sources whole_lent) events_d
  pub numbers : answers (whole_boards row_d 0 whole_sources) (start_network_calls row_d 0 whole_sources whole_lent) events_d ≡ numbers_d
  pub begun_parts : BegunApart row_d 0 source_d part_sources part_lent
  pub carries_parts : Carries (part_boards row_d 0 part_sources) (part_start row_d 0 part_lent) events_d
  pub numbers_parts : answers (part_boards row_d 0 part_sources) (part_start row_d 0 part_lent) events_d ≡ numbers_d
  -- all steps: three turns and two, one message handed over and taken in
  pub all_steps : whole (recipe row_d 0) ≡ 7
  pub at_the_end : steps_got (whole_boards row_d 0 whole_sources) (start_network_calls row_d 0 whole_sources whole_lent) events_d ≡ whole (recipe row_d 0)
