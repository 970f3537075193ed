-- Read this.
-- A recipe's fields as a tenant holds them, one list a field: the nest they make, and the fields that a nest holds.
-- Renders document 02, W-202: "the dimensions, distances, weights, shift and shore value", and W-209's bounds.
use Rattle.std.specs.Prelude.{ℕ, ◌+◌, ◌*◌, ◌%◌, ◌≤◌, ◌<◌, Bool, List, length, get_or, take, eqb, ltb, leb}
use Rattle.base.specs.Tests.{◌and◌, keep, tabulate}
use Rattle.nest.specs.declared.Nest.{Nest}
use Rattle.nest.specs.Nest.{slope, bound_offset}
use Rattle.nest.specs.Reader.{filled}

pub record Fields : Type 0 where
  -- one a dimension
  pub lengths : List ℕ
  pub tiling : List ℕ
  pub counts : List ℕ
  -- four a distance, and one
  pub components : List ℕ
  pub weights : List ℕ
  -- one a bound; slopes and offsets in the recipe's signed bytes, where 255 and 65,535 are −1
  pub sides : List ℕ
  pub bounded : List ℕ
  pub earlier : List ℕ
  pub slopes : List ℕ
  pub offsets : List ℕ
  pub shift : ℕ
  pub boundary : ℕ

abbrev pub fields : List ℕ → List ℕ → List ℕ → List ℕ → List ℕ
    → List ℕ → List ℕ → List ℕ → List ℕ → List ℕ → ℕ → ℕ → Fields
fields lengths tiling counts components weights sides bounded earlier slopes offsets shift boundary =
    record {
      lengths = lengths;
      tiling = tiling;
      counts = counts;
      components = components;
      weights = weights;
      sides = sides;
      bounded = bounded;
      earlier = earlier;
      slopes = slopes;
      offsets = offsets;
      shift = shift;
      boundary = boundary;
    }

-- how many: at most four dimensions, each with its three numbers; at most eight distances, each with its four components and its weight
unfoldable pub counted : ℕ → ℕ → ℕ → ℕ → ℕ → Bool
counted lengths tiling counts components weights =
    leb lengths 4 and leb weights 8 and eqb tiling lengths and eqb counts lengths and eqb components (4 * weights)

-- at most four bounds, each with its five numbers
unfoldable pub bounds : ℕ → ℕ → ℕ → ℕ → ℕ → Bool
bounds sides bounded earlier slopes offsets =
    leb sides 4 and eqb bounded sides and eqb earlier sides and eqb slopes sides and eqb offsets sides

unfoldable pub agree : Fields → Bool
agree v =
    counted (length v.lengths) (length v.tiling) (length v.counts) (length v.components) (length v.weights)
    and bounds (length v.sides) (length v.bounded) (length v.earlier) (length v.slopes) (length v.offsets)

-- a dimension with a count that is not 0 is spread, as the reader has it
unfoldable pub nest_from : Fields → Nest
nest_from v =
    record {
      dimensions = length v.lengths;
      spread = length (keep (λ j. ltb 0 (get_or v.counts j 0)) (length v.lengths));
      distances = length v.weights;
      bounds = length v.sides;
      lengths = filled 4 (length v.lengths) (λ j. get_or v.lengths j 0);
      tiling = filled 4 (length v.lengths) (λ j. get_or v.tiling j 0);
      counts = filled 4 (length v.lengths) (λ j. get_or v.counts j 0);
      components = filled 32 (4 * length v.weights) (λ i. get_or v.components i 0);
      weights = filled 8 (length v.weights) (λ i. get_or v.weights i 0);
      sides = filled 4 (length v.sides) (λ k. get_or v.sides k 0);
      bounded = filled 4 (length v.sides) (λ k. get_or v.bounded k 0);
      earlier = filled 4 (length v.sides) (λ k. get_or v.earlier k 0);
      slopes = filled 4 (length v.sides) (λ k. (get_or v.slopes k 0 + 1) % 256);
      offsets = filled 4 (length v.sides) (λ k. (get_or v.offsets k 0 + 32768) % 65536);
      shift = v.shift;
      boundary = v.boundary;
    }

-- what a nest holds, without the room that its tables leave
unfoldable pub fields_of : Nest → Fields
fields_of x =
    fields (take x.dimensions x.lengths) (take x.dimensions x.tiling) (take x.dimensions x.counts)
    (take (4 * x.distances) x.components) (take x.distances x.weights)
    (take x.bounds x.sides) (take x.bounds x.bounded) (take x.bounds x.earlier)
    (tabulate (λ k. (slope x k + 255) % 256) x.bounds) (tabulate (λ k. (bound_offset x k + 32768) % 65536) x.bounds) x.shift x.boundary

-- each number is as wide as its field in the recipe
pub record Widths (v : Fields) : Type 0 where
  pub lengths : (i : ℕ) → get_or v.lengths i 0 < 65536
  pub tiling : (i : ℕ) → get_or v.tiling i 0 < 65536
  pub counts : (i : ℕ) → get_or v.counts i 0 < 65536
  pub components : (i : ℕ) → get_or v.components i 0 < 65536
  pub weights : (i : ℕ) → get_or v.weights i 0 < 65536
  pub sides : (i : ℕ) → get_or v.sides i 0 < 256
  pub bounded : (i : ℕ) → get_or v.bounded i 0 < 256
  pub earlier : (i : ℕ) → get_or v.earlier i 0 < 256
  pub slopes : (i : ℕ) → get_or v.slopes i 0 < 256
  pub offsets : (i : ℕ) → get_or v.offsets i 0 < 65536
  pub shift : v.shift < 256
  pub boundary : v.boundary < 4294967296

-- each bound is one: a side, a dimension and an earlier one that there are, and the slope −1, 0 or 1
abbrev pub BoundsWell : Fields → Type 0
BoundsWell v =
    (k : ℕ) → k < length v.sides
    → (get_or v.sides k 0 ≤ 1) × (get_or v.bounded k 0 < length v.lengths) × (get_or v.earlier k 0 < get_or v.bounded k 0)
    × ((get_or v.slopes k 0 + 1) % 256 ≤ 2)
