-- Read this.
-- Row D of document 01's table by the calls for one processor, computed: how long the areas are, a message's row, and the second processor's two turns.
-- Renders "Recipes to be met" and "The machine" for a board that is lent its own part alone.
use Rattle.std.specs.Prelude.{◌≡◌, ℕ, [], ◌∷◌}
use Rattle.base.specs.Numbers.{first_of}
use Rattle.machine.specs.Machine.{State, state_of, turn_lines}
use Rattle.nest.specs.Recipes.{row_d}
use Rattle.engine.specs.Calls.{recipe}
use Rattle.network.specs.Own.{handled}
use Rattle.part_calls.specs.declared.AreaLengths.{AreaLengths}
use Rattle.part_calls.specs.front.Calls.{from_part, to_part, lengths_of, part_rows, stepped}

-- what is told of the areas' lengths: own cells, kept cells, words, messages
abbrev pub tells : ℕ → ℕ → ℕ → ℕ → AreaLengths
tells c k w m = record { number = 0; cells = c; kept = k; words = w; messages = m }

-- the second processor's part: its memory, mail, record and marks
abbrev pub before : State  -- at a fresh start
before = state_of (0 ∷ 0 ∷ 0 ∷ []) (0 ∷ []) (0 ∷ 0 ∷ 0 ∷ []) (0 ∷ [])

abbrev pub came : State  -- once the message came with the word 9
came = state_of (0 ∷ 0 ∷ 0 ∷ []) (9 ∷ []) (0 ∷ 0 ∷ 0 ∷ []) (2 ∷ [])

abbrev pub gathered : State
gathered = state_of (9 ∷ 0 ∷ 0 ∷ []) (9 ∷ []) (0 ∷ 1 ∷ 0 ∷ []) (3 ∷ [])

abbrev pub calculated : State
calculated = state_of (9 ∷ 14 ∷ 20 ∷ []) (9 ∷ []) (1 ∷ 0 ∷ 0 ∷ []) (3 ∷ [])

pub record PartExamples : Type 0 where
  -- four cells on two processors, two each; the second keeps a third, which the one message brings
  pub lengths_first : lengths_of (recipe row_d 0) 0 ≡ tells 2 2 1 1
  pub lengths_second : lengths_of (recipe row_d 0) 1 ≡ tells 2 3 1 1
  -- message 0 from tile 0 to tile 1, from processor 0 to 1, one word, the first of the mail
  pub messages_second : part_rows (recipe row_d 0) 1 (handled (recipe row_d 0) 1) ≡ 0 ∷ 0 ∷ 1 ∷ 0 ∷ 1 ∷ 1 ∷ 0 ∷ []
  -- the second waits; once the message came it gathers, then it calculates its two cells from 5 and 6
  pub waits : first_of (turn_lines (recipe row_d 0) (from_part (recipe row_d 0) 1 before) 1) ≡ 12
  pub gathers : to_part (recipe row_d 0) 1 (stepped (recipe row_d 0) 1 (5 ∷ 6 ∷ []) came) ≡ gathered
  pub calculates : to_part (recipe row_d 0) 1 (stepped (recipe row_d 0) 1 (5 ∷ 6 ∷ []) gathered) ≡ calculated
  pub over : first_of (turn_lines (recipe row_d 0) (from_part (recipe row_d 0) 1 calculated) 1) ≡ 13
