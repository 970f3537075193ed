-- Read this.
-- The two calls: a grid's text with its length, and the length alone.
-- Renders document 02, W-211: 23 before 9, what a call tells is 0 at a refusal, bytes past the text as before.
use Rattle.std.specs.Prelude.{ℕ, zero, suc, Bool, List, [], ◌∷◌, ◌++◌, length, drop, ℤ, eqb, ltb}
use Rattle.base.specs.Tests.{◌or◌, not}
use Rattle.base.specs.Numbers.{Line, line, first_of}
use Rattle.nest.specs.declared.Nest.{Nest}
use Rattle.nest.specs.Nest.{cells}
use Rattle.nest.specs.Reader.{read_lines, nest_of}
use Rattle.chart.specs.declared.Told.{Told}
use Rattle.chart.specs.grid_text.Text.{chart_text}

-- line 23: n is not 2, or the cell size is not 1 to 65,535
unfoldable pub not_charted : Nest → ℕ → Bool
not_charted nest size = not (eqb nest.dimensions 2) or (eqb size 0 or ltb 65535 size)

-- line 9 for the grid: not one word a cell
unfoldable pub wrong_grid : Nest → List ℕ → Bool
wrong_grid nest grid = not (eqb (length grid) (cells nest))

-- ---- the length alone: the reader's lines, 23, 9

abbrev pub measure_lines : Nest → List ℕ → ℕ → List Line
measure_lines nest grid size = line 23 (not_charted nest size) ∷ line 9 (wrong_grid nest grid) ∷ []

-- the number, and the text's length where it is 0
unfoldable pub told_of : ℕ → List ℕ → Told
told_of zero text = record { number = 0; length = length text }
told_of (suc n) text = record { number = suc n; length = 0 }

abbrev pub length_lines : List ℕ → List ℕ → ℕ → List Line
length_lines bytes grid size = read_lines bytes ++ measure_lines (nest_of bytes) grid size

unfoldable pub length_call : List ℕ → List ℕ → ℤ → ℤ → ℕ → Told
length_call bytes grid x y size = told_of (first_of (length_lines bytes grid size)) (chart_text (nest_of bytes) grid x y size)

-- ---- the text: the same lines, 9 where the space is shorter than the text too

abbrev pub write_lines : List ℕ → List ℕ → ℤ → ℤ → ℕ → List ℕ → List Line
write_lines bytes grid x y size s =
    read_lines bytes
    ++ (line 23 (not_charted (nest_of bytes) size)
    ∷ line 9 (wrong_grid (nest_of bytes) grid or ltb (length s) (length (chart_text (nest_of bytes) grid x y size)))
    ∷ [])

-- what the call tells, and the space as it leaves it
pub record Written : Type 0 where
  pub told : Told
  pub space : List ℕ

abbrev pub written : Told → List ℕ → Written
written told s = record { told = told; space = s }

-- 0: the text at the front of the space, what follows as before. Else nothing is written
unfoldable pub written_if : ℕ → List ℕ → List ℕ → Written
written_if zero text s = written (told_of zero text) (text ++ drop (length text) s)
written_if (suc n) text s = written (told_of (suc n) text) s

unfoldable pub write_call : List ℕ → List ℕ → ℤ → ℤ → ℕ → List ℕ → Written
write_call bytes grid x y size s =
    written_if (first_of (write_lines bytes grid x y size s)) (chart_text (nest_of bytes) grid x y size) s
