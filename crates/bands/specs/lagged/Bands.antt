-- For contracts below the calls: no reader needs it.
-- Rows of a nest by their first cells: where the distances read in them, four of them of the same columns, and their cells.
-- No sentence of document 01.
use Rattle.std.specs.Prelude.{ℕ, zero, suc, ◌+◌, ◌-◌, ◌≤◌, ◌<◌, ◌≡◌, true, List, [], ◌∷◌, ◌++◌, length, get_or, leb}
use Rattle.nest.specs.declared.Nest.{Nest}
use Rattle.nest.specs.Accepted.{Accepted}
use Rattle.nest.specs.Nest.{cells}
use Rattle.nest.specs.Places.{cell_place}
use Rattle.plan.specs.Geometry.{has_read, read_at}
use Rattle.layout.specs.CellRows.{row_of}

-- where the distances read at cell c, whose last component is a
pub record Reads (x : Nest) (c a : ℕ) (first back weights : List ℕ) : Type 0 where
  pub low : c < cells x
  pub weights_are : weights ≡ x.weights
  pub firsts : (e : ℕ) → e < x.distances → leb (get_or first e 0) a ≡ has_read x c e
  pub backs : (e : ℕ) → e < x.distances → has_read x c e ≡ true → get_or back e 0 + read_at x c e ≡ c

-- and at the n cells of a row from there on
pub record InRow (x : Nest) (c a n : ℕ) (first back weights : List ℕ) : Type 0 where
  pub few : a + n ≤ 1024
  pub low : c + n ≤ cells x
  pub each : (y : ℕ) → y < n → Reads x (c + y) (a + y) first back weights

abbrev pub four : ℕ → ℕ → ℕ → ℕ → ℕ → ℕ
four a b c d k = get_or (a ∷ b ∷ c ∷ d ∷ []) k 0

-- the cells of the first n rows, w of each
unfoldable pub rows_of : (ℕ → ℕ) → ℕ → ℕ → List ℕ
rows_of c w zero = []
rows_of c w (suc n) = rows_of c w n ++ row_of (c n) w

-- n rows of the same columns, w of each, one after the other
pub record Band (x : Nest) (c : ℕ → ℕ) (w n : ℕ) : Type 0 where
  pub low : (k y : ℕ) → k < n → y < w → c k + y < cells x
  pub apart : (j k : ℕ) → j < k → k < n → c j + w ≤ c k
  pub column : (k y : ℕ) → k < n → y < w → cell_place x (c k + y) (x.dimensions - 1) ≡ cell_place x (c 0) (x.dimensions - 1) + y

-- each number as far from the one before it as the second from the first
abbrev pub Spaced : ℕ → ℕ → ℕ → ℕ → Type 0
Spaced a b c d = (c ≡ b + (b - a)) × (d ≡ c + (b - a))

-- four rows from their first cells, whose last component is a; from column `from` on all distances read, also three columns before
pub record Banded (x : Nest) (c : ℕ → ℕ) (a from w : ℕ) (first back weights : List ℕ) : Type 0 where
  pub rows : Band x c w 4
  pub each : (k : ℕ) → k < 4 → InRow x (c k) a w first back weights
  pub three : 3 ≤ from
  pub low : from ≤ w
  pub reads : (e : ℕ) → e < x.distances → get_or first e 0 + 3 ≤ a + from

-- the nest that has so many distances, this shift and boundary, and all else as x: code is handed no nest, so its contracts speak of
-- every nest that has the numbers
abbrev pub numbered : Nest → ℕ → ℕ → ℕ → Nest
numbered x n shift boundary =
    record {
      dimensions = x.dimensions;
      spread = x.spread;
      distances = n;
      bounds = x.bounds;
      lengths = x.lengths;
      tiling = x.tiling;
      counts = x.counts;
      components = x.components;
      weights = x.weights;
      sides = x.sides;
      bounded = x.bounded;
      earlier = x.earlier;
      slopes = x.slopes;
      offsets = x.offsets;
      shift = shift;
      boundary = boundary;
    }

-- four rows that go side by side from column `from` on
abbrev pub BandGiven : Nest → List ℕ → List ℕ → List ℕ → List ℕ → List ℕ → ℕ → ℕ → ℕ → ℕ → ℕ → ℕ → ℕ → Type 0
BandGiven x first back weights source memory a b c d component from width =
    (Accepted x × (Banded x (four a b c d) component from width first back weights × ((length source ≡ cells x) × (length memory ≡ cells x))))
    × Spaced a b c d
