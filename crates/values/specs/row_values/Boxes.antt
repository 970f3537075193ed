-- For contracts below the calls: no reader needs it.
-- The rows of a box of cells: which they are, where one stands, and what is stored once so many have their values.
-- No sentence of document 01.
use Rattle.std.specs.Prelude.{ℕ, ◌+◌, ◌-◌, ◌≤◌, ◌<◌, ◌≡◌, List, length, get_or}
use Rattle.base.specs.Lists.{store_all}
use Rattle.nest.specs.declared.Nest.{Nest}
use Rattle.nest.specs.Places.{rank, place}
use Rattle.plan.specs.Geometry.{value}
use Rattle.layout.specs.Places.{nth, Places, Placed}
use Rattle.bands.specs.lagged.Bands.{rows_of}
use Rattle.values.specs.row_values.Given.{RowsLent}

-- a box of lengths N from a place on, within the nest
pub record Boxed (x : Nest) (N from : List ℕ) : Type 0 where
  pub places : Places N from x.dimensions
  pub within : (j : ℕ) → j < x.dimensions → get_or from j 0 + get_or N j 0 ≤ get_or x.lengths j 0

-- the number of the first cell of its row r
unfoldable pub row_at : Nest → List ℕ → List ℕ → ℕ → ℕ
row_at x N from r = rank (nth x.lengths) (λ j. get_or from j 0 + place (nth N) (x.dimensions - 1) r j) x.dimensions

-- the place of that cell
pub record Standing (x : Nest) (N from : List ℕ) (r : ℕ) (at : List ℕ) : Type 0 where
  pub long : length at ≡ 4
  pub is : Placed N from r (x.dimensions - 1) at

-- what rows are given, the box, the nest's lengths, and the place of row r
abbrev pub RowsGiven : Nest → List ℕ → List ℕ → List ℕ → List ℕ → List ℕ → List ℕ → List ℕ → List ℕ → List ℕ → List ℕ → List ℕ → ℕ → Type 0
RowsGiven x components lasts back weights margin source memory grid N from at r =
    RowsLent x components lasts back weights margin source memory × ((grid ≡ x.lengths) × (Boxed x N from × Standing x N from r at))

-- from row r on n rows have their values, and the place is that of the row after them
pub record Stored (x : Nest) (source N from memory₀ memory at : List ℕ) (r n : ℕ) : Type 0 where
  pub is : memory ≡ store_all (value x source) memory₀ (rows_of (λ k. row_at x N from (r + k)) (get_or N (x.dimensions - 1) 0) n)
  pub after : Standing x N from (r + n) at
