-- For contracts below the calls: no reader needs it.
-- How code goes through the shape: row by row, an interval of cell numbers for each.
-- Serves document 02, W-211; which cells are in the shape, nest's Shape says.
use Rattle.std.specs.Prelude.{ℕ, ◌+◌, ◌*◌, ◌≤◌, ◌<◌, ◌≡◌}
use Rattle.nest.specs.declared.Nest.{Nest}
use Rattle.nest.specs.declared.Interval.{Interval}
use Rattle.nest.specs.Accepted.{Accepted}
use Rattle.nest.specs.Nest.{length_of, cells}
use Rattle.nest.specs.Shape.{in_shape}
use Rattle.nest.specs.Spans.{within}

-- the interval has the cells of the shape in the row whose first cell is c
abbrev pub Shown : Nest → ℕ → Interval → Type 0
Shown x c s = (i : ℕ) → c ≤ i → i < c + length_of x 1 → in_shape x i ≡ within s i

-- k rows of n cells of a nest of two dimensions, and a grid of so many words
pub record Rows (x : Nest) (words n k : ℕ) : Type 0 where
  pub accepted : Accepted x
  pub flat : x.dimensions ≡ 2
  pub wide : n ≡ length_of x 1
  pub all : words ≡ cells x
  pub few : k * n ≤ words
