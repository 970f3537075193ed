-- Read this. What the call for the messages awaited gives for row D, computed: what is told, and of each two neighbouring lines the number that wins.
-- Renders document 01, "Numbers a call gives", lines 9, 10, 11 and 13. Ruled out: any two of these lines swapped.
use Rattle.std.specs.Prelude.{◌≡◌, ℕ, List, [], ◌∷◌}
use Rattle.machine.specs.Machine.{State, state_of, Answered}
use Rattle.nest.specs.Recipes.{row_d}
use Rattle.conformance.specs.ShapedExamples.{row_triangle}
use Rattle.transport.specs.Calls.{Waits, waits_of, awaited_call}

-- row D has two processors of one tile each, and one message; only records and marks are lent: the second processor's tiles finished and stage, the mark
abbrev pub records : ℕ → ℕ → ℕ → State
records finished stage mark = state_of [] [] (0 ∷ 0 ∷ 0 ∷ finished ∷ stage ∷ 0 ∷ []) (mark ∷ [])

-- a mark too many, and a stage that there is none of
abbrev pub long : State
long = state_of [] [] (0 ∷ 0 ∷ 0 ∷ 1 ∷ 3 ∷ 0 ∷ []) (0 ∷ 0 ∷ [])

-- one byte a message, as it was lent; a refusal leaves it, and tells 0
abbrev pub lent : List ℕ
lent = 5 ∷ []

abbrev pub left : Waits
left = waits_of lent 0

abbrev pub gave : ℕ → Waits → Answered Waits
gave n after = record { number = n; after = after }

abbrev pub asked : State → ℕ → Answered Waits
asked s b = awaited_call row_d 0 s b lent

pub record AwaitedExamples : Type 0 where
  -- processor 1 stands at tile 1 and waits for message 0 until it is delivered; not while it calculates
  pub waits : asked (records 0 0 1) 1 ≡ gave 0 (waits_of (1 ∷ []) 1)
  pub delivered : asked (records 0 0 2) 1 ≡ gave 0 (waits_of (0 ∷ []) 1)
  pub calculates : asked (records 0 1 1) 1 ≡ gave 0 (waits_of (0 ∷ []) 1)
  -- 13: no tile is left; 11 before 13: there is no such processor, so it has no tile; nothing is written
  pub over : asked (records 1 0 1) 1 ≡ gave 13 left
  pub processor_first : asked (records 1 0 1) 2 ≡ gave 11 left
  -- 10 before 11: a stage that there is none of; 9 before 10: an area of another length
  pub unfit_first : asked (records 1 3 1) 2 ≡ gave 10 left
  pub area_first : asked long 2 ≡ gave 9 left
  -- the reader's number before 9; 21 before 9: a recipe with a bound, on the indirect route
  pub reader_first : awaited_call [] 0 long 2 lent ≡ gave 1 left
  pub route_first : awaited_call row_triangle 1 long 2 lent ≡ gave 21 left
