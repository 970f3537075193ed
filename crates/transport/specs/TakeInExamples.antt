-- Read this. What taking a message in gives for row D, computed: the message taken in, and of each two neighbouring lines the number that wins.
-- Renders document 01, "Numbers a call gives", lines 9, 10, 11 and 14, for boards that share no memory. Ruled out: any two of these lines swapped.
use Rattle.std.specs.Prelude.{◌≡◌, ℕ, List, [], ◌∷◌, replicate}
use Rattle.machine.specs.Machine.{State, state_of, Answered}
use Rattle.nest.specs.Recipes.{row_d}
use Rattle.conformance.specs.ShapedExamples.{row_triangle}
use Rattle.transport.specs.Calls.{take_in_call}

-- row D has four cells, two processors and one message of one word, from tile 0 to tile 1
abbrev pub source : List ℕ
source = 1 ∷ 1 ∷ 1 ∷ 1 ∷ []

-- the taker's own areas, by the buffer's word, the first stage and the mark
abbrev pub areas_of : ℕ → ℕ → ℕ → State
areas_of word stage mark = state_of (replicate 8 0) (word ∷ []) (0 ∷ stage ∷ 0 ∷ 0 ∷ 0 ∷ 0 ∷ []) (mark ∷ [])

-- a memory's word too few, and a stage that there is none of
abbrev pub short : State
short = state_of (replicate 7 0) (0 ∷ []) (0 ∷ 3 ∷ 0 ∷ 0 ∷ 0 ∷ 0 ∷ []) (2 ∷ [])

abbrev pub gave : ℕ → State → Answered State
gave n after = record { number = n; after = after }

-- lent s, for processor b: message m came with these words
abbrev pub taking : State → ℕ → ℕ → List ℕ → Answered State
taking s b m words = take_in_call row_d 0 source s b m words

pub record TakeInExamples : Type 0 where
  -- message 0 is for processor 1: its word 7 goes into its place, and its mark is 2
  pub taken : taking (areas_of 0 0 0) 1 0 (7 ∷ []) ≡ gave 0 (areas_of 7 0 2)
  -- 14: it came before, is in flight from here, or was gathered; nothing is written
  pub again : taking (areas_of 7 0 2) 1 0 (8 ∷ []) ≡ gave 14 (areas_of 7 0 2)
  pub in_flight : taking (areas_of 7 0 1) 1 0 (8 ∷ []) ≡ gave 14 (areas_of 7 0 1)
  pub gathered : taking (areas_of 7 0 3) 1 0 (8 ∷ []) ≡ gave 14 (areas_of 7 0 3)
  -- 11 before 14: another processor's message; and one that there is none of
  pub other_first : taking (areas_of 7 0 2) 0 0 (8 ∷ []) ≡ gave 11 (areas_of 7 0 2)
  pub no_message : taking (areas_of 0 0 0) 1 1 [] ≡ gave 11 (areas_of 0 0 0)
  -- 10 before 11: a stage that there is none of
  pub unfit_first : taking (areas_of 0 3 2) 0 0 (8 ∷ []) ≡ gave 10 (areas_of 0 3 2)
  -- 9 before 10: an area of another length, or as many words as the message doesn't have
  pub area_first : taking short 0 0 (8 ∷ []) ≡ gave 9 short
  pub words_first : taking (areas_of 0 3 2) 0 0 (8 ∷ 9 ∷ []) ≡ gave 9 (areas_of 0 3 2)
  -- the reader's number before 9; 21 before 9: a recipe with a bound, on the indirect route
  pub reader_first : take_in_call [] 0 source short 0 0 (8 ∷ []) ≡ gave 1 short
  pub route_first : take_in_call row_triangle 1 source short 0 0 (8 ∷ []) ≡ gave 21 short
