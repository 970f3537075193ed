-- Read this.
-- The text of a nest's grid for the charting desk: its rows and columns are the nest's, and it marks the cells outside the nest's shape.
-- Renders document 02, W-211, over the text of any grid (crates/text/specs/Grid).
use Rattle.std.specs.Prelude.{ℕ, List, ℤ}
use Rattle.text.specs.Grid.{Frame, frame, grid_text}
use Rattle.nest.specs.declared.Nest.{Nest}
use Rattle.nest.specs.Nest.{length_of}
use Rattle.nest.specs.Shape.{in_shape}

-- of a nest of two dimensions: a row is a first component, a column a second
abbrev pub frame_of : Nest → ℤ → ℤ → ℕ → Frame
frame_of nest x y size = frame (length_of nest 0) (length_of nest 1) x y size

abbrev pub chart_text : Nest → List ℕ → ℤ → ℤ → ℕ → List ℕ
chart_text nest grid x y size = grid_text (frame_of nest x y size) grid (in_shape nest)
