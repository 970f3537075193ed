-- Read this. What the call gives for small files, computed: which record counts, each number by its line, the source as it was at a refusal.
-- Renders document 02, W-210. Ruled out: the first of equal records, survey numbers before days, signed comparisons, 22 before 9.
use Rattle.std.specs.Prelude.{ℕ, ◌≡◌, List, [], ◌∷◌, ◌++◌}
use Rattle.machine.specs.Machine.{Answered}
use Rattle.nest.specs.Recipes.{dimension, bound, distance, close, row_d}
use Rattle.soundings.specs.Soundings.{filled, fill_call}

-- a record: cell, day, survey number and depth, each below 256
abbrev pub sounding : ℕ → ℕ → ℕ → ℕ → List ℕ
sounding cell day survey depth = cell ∷ 0 ∷ 0 ∷ 0 ∷ day ∷ 0 ∷ 0 ∷ 0 ∷ survey ∷ 0 ∷ 0 ∷ 0 ∷ depth ∷ 0 ∷ 0 ∷ 0 ∷ []

-- cell 1: the greatest day, though an older record has a greater survey number; of that day the greatest survey number; of that survey
-- the later record. Cell 2 has none.
abbrev pub six : List ℕ
six = sounding 1 5 1 10 ++ sounding 1 5 2 20 ++ sounding 1 4 9 30 ++ sounding 1 5 2 40 ++ sounding 3 0 0 7 ++ sounding 0 1 0 8

-- cell 0, a day of 2^31, negative if it had a sign; and the depth is 16909060, its least byte first
abbrev pub late : List ℕ
late = 0 ∷ 0 ∷ 0 ∷ 0 ∷ 0 ∷ 0 ∷ 0 ∷ 128 ∷ 0 ∷ 0 ∷ 0 ∷ 0 ∷ 4 ∷ 3 ∷ 2 ∷ 1 ∷ []

-- N 2,2 with i2 at least i1: cell 2 is in the box and outside the shape
abbrev pub triangle : List ℕ
triangle = dimension 2 1 2 ++ dimension 2 1 0 ++ bound 0 1 0 1 0 0 ++ distance 1 1 0 ++ close

-- row D has four cells; a source of as many words, and one of three
abbrev pub four : List ℕ
four = 1 ∷ 2 ∷ 3 ∷ 4 ∷ []

abbrev pub three : List ℕ
three = 1 ∷ 2 ∷ 3 ∷ []

-- the call for row D, 99 where a cell has no record
abbrev pub fills : List ℕ → List ℕ → Answered (List ℕ)
fills file source = fill_call row_d file 99 source

pub record SoundingExamples : Type 0 where
  pub counts : fills six four ≡ filled 0 (8 ∷ 40 ∷ 99 ∷ 7 ∷ [])
  pub unsigned : fills (late ++ sounding 0 1 0 5) four ≡ filled 0 (16909060 ∷ 99 ∷ 99 ∷ 99 ∷ [])
  -- an empty file is allowed, a ragged one gives 1, before the recipe's other numbers too
  pub empty : fills [] four ≡ filled 0 (99 ∷ 99 ∷ 99 ∷ 99 ∷ [])
  pub ragged_file_lem : fills (0 ∷ six) four ≡ filled 1 four
  pub ragged_first : fill_call (dimension 4 2 2 ++ close) (0 ∷ six) 99 four ≡ filled 1 four
  pub reader_first : fill_call (dimension 4 2 2 ++ close) (sounding 4 1 1 1) 99 three ≡ filled 2 three
  -- 9 for a source that has not a word for each cell; 22 for a record of cell 4, which no cell of row D is; 9 before 22
  pub source_short : fills six three ≡ filled 9 three
  pub off_box_lem : fills (sounding 4 1 1 1) four ≡ filled 22 four
  pub source_first : fills (sounding 4 1 1 1) three ≡ filled 9 three
  -- 22 wherever that record stands in the file; not for a cell of the box outside the shape
  pub off_box_again : fills (sounding 4 1 1 1 ++ six) four ≡ filled 22 four
  pub off_shape : fill_call triangle (sounding 2 1 1 6) 99 four ≡ filled 0 (99 ∷ 99 ∷ 6 ∷ 99 ∷ [])
