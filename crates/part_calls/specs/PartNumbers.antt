-- Read this. The numbers that the calls for one processor give for row D, computed: of each two neighbouring lines the one that wins.
-- Renders document 01, "Numbers a call gives", for a board that is lent its own part alone; 11 for the processor comes before 9, since the processor
-- decides how long its areas are. Ruled out: any two neighbouring lines swapped.
use Rattle.std.specs.Prelude.{◌≡◌, ℕ, List, [], ◌∷◌}
use Rattle.machine.specs.Machine.{State, state_of}
use Rattle.nest.specs.Recipes.{row_d}
use Rattle.conformance.specs.ShapedExamples.{row_triangle}
use Rattle.part_calls.specs.front.Calls.{part_messages_call, part_fresh_call, part_turn_call, part_post_call, part_arrive_call, part_collect_call}

-- row D's processor 1: two own cells, three that it keeps, one message of one word. Its part, by its tiles finished, its stage and the mark
abbrev pub part_of : ℕ → ℕ → ℕ → State
part_of finished stage mark = state_of (0 ∷ 0 ∷ 0 ∷ []) (0 ∷ []) (finished ∷ stage ∷ 0 ∷ []) (mark ∷ [])

-- processor 0's, which keeps its own two alone
abbrev pub sender_part : ℕ → State
sender_part mark = state_of (0 ∷ 0 ∷ []) (0 ∷ []) (0 ∷ 0 ∷ 0 ∷ []) (mark ∷ [])

-- a mark that there is none of; the same with a word of memory too few
abbrev pub unfit : State
unfit = part_of 0 0 4

abbrev pub short : State
short = state_of (0 ∷ 0 ∷ []) (0 ∷ []) (0 ∷ 0 ∷ 0 ∷ []) (4 ∷ [])

abbrev pub source : List ℕ
source = 5 ∷ 6 ∷ []

abbrev pub grid : List ℕ
grid = 0 ∷ 0 ∷ 0 ∷ 0 ∷ []

abbrev pub turned : State → ℕ → ℕ
turned s b = (part_turn_call row_d 0 source s b).number

abbrev pub posted : State → ℕ → ℕ → ℕ
posted s b m = (part_post_call row_d 0 s b m).number

abbrev pub arrived : State → ℕ → ℕ → List ℕ → ℕ
arrived s b m words = (part_arrive_call row_d 0 s b m words).number

abbrev pub collected : State → ℕ → List ℕ → ℕ
collected s b old = (part_collect_call row_d 0 s b old).number

pub record PartNumbers : Type 0 where
  -- the reader's number before 11; 21 before 11: a recipe with a bound, on the indirect route
  pub reader_first : (part_turn_call [] 0 [] short 2).number ≡ 1
  pub route_first : (part_turn_call row_triangle 1 [] short 2).number ≡ 21
  -- 11 before 9: row D has processors 0 and 1
  pub messages_processor : (part_messages_call row_d 0 2 []).number ≡ 11
  pub messages_long : (part_messages_call row_d 0 1 []).number ≡ 9
  pub fresh_processor : (part_fresh_call row_d 0 short 2).number ≡ 11
  pub fresh_long : (part_fresh_call row_d 0 short 1).number ≡ 9
  pub fresh_unfit : (part_fresh_call row_d 0 unfit 1).number ≡ 0
  -- a turn: 11 before 9, 9 before 10, 10 before 12 and before 13; 12 and 13 never meet
  pub turn_processor : turned short 2 ≡ 11
  pub turn_long : turned short 1 ≡ 9
  pub turn_source : (part_turn_call row_d 0 (5 ∷ []) unfit 1).number ≡ 9
  pub turn_unfit : turned unfit 1 ≡ 10
  pub turn_over_unfit : turned (part_of 1 0 4) 1 ≡ 10
  pub turn_waits : turned (part_of 0 0 1) 1 ≡ 12
  pub turn_over : turned (part_of 1 0 1) 1 ≡ 13
  pub turn_takes : turned (part_of 0 0 2) 1 ≡ 0
  -- posting: 10 before 11, there being no message 1, and 11 before 14, since it is not in flight
  pub post_processor : posted short 2 0 ≡ 11
  pub post_long : posted short 1 0 ≡ 9
  pub post_unfit : posted (sender_part 4) 0 1 ≡ 10
  pub post_message : posted (sender_part 1) 0 1 ≡ 11
  pub post_unsent : posted (sender_part 0) 0 0 ≡ 14
  pub post_again : posted (sender_part 2) 0 0 ≡ 14
  pub post_takes : posted (sender_part 1) 0 0 ≡ 0
  -- an arrival: 9 for the words too; 10 before 11, since processor 0 takes no message, and 11 before 14
  pub arrive_processor : arrived short 2 0 (7 ∷ []) ≡ 11
  pub arrive_long : arrived short 1 0 (7 ∷ []) ≡ 9
  pub arrive_words : arrived unfit 1 0 [] ≡ 9
  pub arrive_unfit : arrived (sender_part 4) 0 0 (7 ∷ []) ≡ 10
  pub arrive_other : arrived (sender_part 1) 0 0 (7 ∷ []) ≡ 11
  pub arrive_again : arrived (part_of 0 0 2) 1 0 (7 ∷ []) ≡ 14
  pub arrive_takes : arrived (part_of 0 0 0) 1 0 (7 ∷ []) ≡ 0
  -- collecting: 9 for the grid too; 10 before 15; marks are not lent
  pub collect_processor : collected short 2 [] ≡ 11
  pub collect_long : collected short 1 grid ≡ 9
  pub collect_grid : collected (part_of 0 3 0) 1 [] ≡ 9
  pub collect_unfit : collected (part_of 0 3 0) 1 grid ≡ 10
  pub collect_early : collected (part_of 0 0 0) 1 grid ≡ 15
  pub collect_marks : collected (part_of 1 0 4) 1 grid ≡ 0
