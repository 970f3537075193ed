-- Read this. What the call for the minutes until a processor next opens gives for row D, computed: what it tells, and each number by its line.
-- Renders document 02, W-212. Ruled out: 11 before 25, 25 before 9, a wait told at a refusal, a week that ends with the table.
use Rattle.std.specs.Prelude.{◌≡◌, ℕ, List, [], ◌∷◌, ◌++◌, replicate, None, Option, Some}
use Rattle.machine.specs.Machine.{Answered}
use Rattle.calendar.specs.Windows.{moment_of}
use Rattle.nest.specs.Recipes.{row_d}
use Rattle.calendar_calls.specs.Calls.{opens_call, opening_words}

-- row D's two processors: the first opens from minute 20 to 30 and from 50 to 60, the second never
abbrev pub calendar : List ℕ
calendar = 20 ∷ 30 ∷ 50 ∷ 60 ∷ replicate 52 0

-- the second processor's last window has no minute in it; the table one word short
abbrev pub faulty_table : List ℕ
faulty_table = 20 ∷ 30 ∷ 50 ∷ 60 ∷ replicate 50 0 ++ (7 ∷ 7 ∷ [])

abbrev pub short_table : List ℕ
short_table = 20 ∷ 30 ∷ 50 ∷ 60 ∷ replicate 51 0

-- the call's number, and what it tells
abbrev pub gave : ℕ → Option ℕ → Answered (Option ℕ)
gave n told = record { number = n; after = told }

-- by a table, asked at a minute for processor b
abbrev pub asked : List ℕ → ℕ → ℕ → Answered (Option ℕ)
asked calendar minute b = opens_call row_d (moment_of calendar minute) b

pub record OpensExamples : Type 0 where
  -- open minute included, close minute excluded; from one window to the next, and over the week's end to the first
  pub before : asked calendar 0 0 ≡ gave 0 (Some 20)
  pub opens : asked calendar 20 0 ≡ gave 0 (Some 0)
  pub last : asked calendar 29 0 ≡ gave 0 (Some 0)
  pub closes : asked calendar 30 0 ≡ gave 0 (Some 20)
  pub week : asked calendar 10079 0 ≡ gave 0 (Some 21)
  pub never : asked calendar 0 1 ≡ gave 0 None
  -- 25: a faulty window of any processor, a minute of no week; 11: no such processor; 25 before 11. No wait is told: 0, not never
  pub window : asked faulty_table 0 0 ≡ gave 25 (Some 0)
  pub minute : asked calendar 10080 0 ≡ gave 25 (Some 0)
  pub processor : asked calendar 0 2 ≡ gave 11 (Some 0)
  pub window_first : asked faulty_table 0 2 ≡ gave 25 (Some 0)
  pub minute_first : asked calendar 10080 2 ≡ gave 25 (Some 0)
  pub minute_never : asked calendar 10080 1 ≡ gave 25 (Some 0)
  -- 9: the table's length, before 25 and 11; the reader's number before 9
  pub table_short : asked short_table 0 0 ≡ gave 9 (Some 0)
  pub lengths_first : asked short_table 10080 2 ≡ gave 9 (Some 0)
  pub reader_first : opens_call [] (moment_of short_table 10080) 2 ≡ gave 1 (Some 0)
  -- as two words: whether it opens at all, and in how many minutes
  pub words : (opening_words (Some 21) ≡ 1 ∷ 21 ∷ []) × (opening_words None ≡ 0 ∷ 0 ∷ [])
