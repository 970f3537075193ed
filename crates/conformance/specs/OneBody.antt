-- Read this. The cell's formula, and the cells of a message, each written once over a test for "inside"; the box's, the shape's and the report's
-- are its instances. Renders document 01, "The sweep" and "Messages", and of document 02, W-209: "01's nest is now the shape".
use Rattle.std.specs.Prelude.{ℕ, ◌+◌, ◌*◌, ◌/◌, ◌%◌, ◌^◌, ◌≡◌, Bool, true, List, get_or, eqb}
use Rattle.base.specs.Tests.{◌and◌, pick, some, keep, sum}
use Rattle.nest.specs.declared.Nest.{Nest}
use Rattle.nest.specs.Nest.{component, weight, cells}
use Rattle.nest.specs.Places.{cell_at, cell_place, box_tile_of}
use Rattle.nest.specs.Shape.{in_shape}
use Rattle.plan.specs.Geometry.{has_read, read_at, value}
use Rattle.plan.specs.Messages.{reaches, parcel}
use Rattle.plan.specs.Shaped.{shaped_value, shaped_parcel}
use Rattle.conformance.specs.Report.{Index}
use Rattle.conformance.specs.Exact.{body}

-- every cell of the box
abbrev pub all : ℕ → Bool
all c = true

-- what is read at cell c by distance e: the memory's word at c - d where that is a cell inside, else the boundary
unfoldable pub read_in : (ℕ → Bool) → Nest → List ℕ → ℕ → ℕ → ℕ
read_in inside x memory c e = pick (has_read x c e and inside (read_at x c e)) (get_or memory (read_at x c e) 0) x.boundary

-- the value of cell c: the source's word and the weighted words read, divided by 2 to the shift, rounded down, modulo 2^32
unfoldable pub value_in : (ℕ → Bool) → Nest → List ℕ → List ℕ → ℕ → ℕ
value_in inside x source memory c =
    (get_or source c 0 + sum (λ e. weight x e * read_in inside x memory c e) x.distances) / 2 ^ x.shift % 2 ^ 32

-- message (t, v): each cell inside, of tile t of the box, that some distance puts on a cell inside, in a tile that differs from t by exactly v in
-- the spread dimensions; once, in index order
unfoldable pub parcel_in : (ℕ → Bool) → Nest → ℕ → ℕ → List ℕ
parcel_in inside x t v =
    keep (λ c. inside c and eqb (box_tile_of x c) t
    and some (λ e. reaches x t v c e and inside (cell_at x (λ j. cell_place x c j + component x e j))) x.distances) (cells x)

pub record OneBody (x : Nest) : Type 0 where
  pub value_box : (source memory : List ℕ) (c : ℕ) → value x source memory c ≡ value_in all x source memory c
  pub value_shape : (source memory : List ℕ) (c : ℕ) → shaped_value x source memory c ≡ value_in (in_shape x) x source memory c
  -- the report's body at index i
  pub body_box : (source array : List ℕ) (i : ℕ → ℕ) → Index x i → body x source array i ≡ value_in all x source array (cell_at x i)
  pub parcel_box : (t v : ℕ) → parcel x t v ≡ parcel_in all x t v
  pub parcel_shape : (t v : ℕ) → shaped_parcel x t v ≡ parcel_in (in_shape x) x t v
