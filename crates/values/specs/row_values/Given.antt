-- For contracts below the calls: no reader needs it.
-- What rows are given: numbers of a nest in place of the nest, and what was made once in a call.
-- No sentence of document 01.
use Rattle.std.specs.Prelude.{ℕ, ◌+◌, ◌-◌, ◌≤◌, ◌<◌, ◌≡◌, List, length, get_or}
use Rattle.nest.specs.declared.Nest.{Nest}
use Rattle.nest.specs.Accepted.{Accepted}
use Rattle.nest.specs.Nest.{cells}
use Rattle.layout.specs.Places.{Located}
use Rattle.layout.specs.CellRows.{Given}
use Rattle.values.specs.declared.row_values.Body.{Body}
use Rattle.values.specs.row_values.Waves.{RowTables}

-- the nest that has these numbers, and all else as x: code is handed no nest, so its contracts speak of every nest that has the numbers
abbrev pub with_body : Nest → Body → Nest
with_body x b =
    record {
      dimensions = b.dimensions;
      spread = x.spread;
      distances = b.distances;
      bounds = x.bounds;
      lengths = x.lengths;
      tiling = x.tiling;
      counts = x.counts;
      components = x.components;
      weights = x.weights;
      sides = x.sides;
      bounded = x.bounded;
      earlier = x.earlier;
      slopes = x.slopes;
      offsets = x.offsets;
      shift = b.shift;
      boundary = b.boundary;
    }

-- distance e of an accepted nest, whose components these are
abbrev pub ReadsBy : Nest → List ℕ → ℕ → Type 0
ReadsBy x components e = Accepted x × ((e < x.distances) × Given x components)

-- an accepted nest, with areas of its length, and what is lent to every row
abbrev pub RowsLent : Nest → List ℕ → List ℕ → List ℕ → List ℕ → List ℕ → List ℕ → List ℕ → Type 0
RowsLent x components lasts back weights margin source memory =
    Accepted x × (RowTables x components lasts back weights margin × ((length source ≡ cells x) × (length memory ≡ cells x)))

-- a row of so many cells, from the place and the number of its first cell
abbrev pub RowGiven : Nest → List ℕ → List ℕ → List ℕ → List ℕ → List ℕ → List ℕ → List ℕ → List ℕ → ℕ → ℕ → Type 0
RowGiven x components lasts back weights margin source memory at first width =
    RowsLent x components lasts back weights margin source memory
    × (Located x first (record { number = first; place = at }) × (get_or at (x.dimensions - 1) 0 + width ≤ get_or x.lengths (x.dimensions - 1) 0))
