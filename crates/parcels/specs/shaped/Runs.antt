-- For contracts below the calls: no reader needs it.
-- Rows of a nest with bounds: where in a row a place, the place that a distance reads, and the place that it reaches are in the shape.
-- No sentence of document 02.
use Rattle.std.specs.Prelude.{ℕ, ◌+◌, ◌-◌, ◌≤◌, ◌<◌, ◌≡◌, Bool, List, leb}
use Rattle.base.specs.Tests.{◌and◌, every, some}
use Rattle.nest.specs.declared.Nest.{Nest}
use Rattle.nest.specs.Nest.{length_of, component}
use Rattle.nest.specs.Shape.{meets}
use Rattle.nest.specs.Spans.{last}
use Rattle.layout.specs.Regions.{Region, among}
use Rattle.runs.specs.Runs.{within, is_hit}

-- place i is in the shape
unfoldable pub in_place : Nest → (ℕ → ℕ) → Bool
in_place x i = every (meets x i) x.bounds

-- in the row of place i, f holds just where the last component is from `low` on, below `high`
pub record RunIs (x : Nest) (i : ℕ → ℕ) (f : (ℕ → ℕ) → Bool) (low high : ℕ) : Type 0 where
  pub is : (k : ℕ → ℕ) → ((j : ℕ) → j < last x → k j ≡ i j) → k (last x) < length_of x (last x) → within low high (k (last x)) ≡ f k

-- from place k distance e reads a place of the shape
abbrev pub reads_place : Nest → ℕ → (ℕ → ℕ) → Bool
reads_place x e k = every (λ j. leb (component x e j) (k j)) x.dimensions and in_place x (λ j. k j - component x e j)

-- distance e puts place k, which is in the shape, into the window and into the shape
abbrev pub reaches_place : Nest → Region → ℕ → (ℕ → ℕ) → Bool
reaches_place x w e k = in_place x k and among x w (λ j. k j + component x e j) and in_place x (λ j. k j + component x e j)

-- some distance does
unfoldable pub comes_shaped : Nest → Region → (ℕ → ℕ) → Bool
comes_shaped x w i = some (λ e. reaches_place x w e i) x.distances

-- in the row of place i, f holds just where the last component lies in one of the first n runs
pub record RunsAre (x : Nest) (i : ℕ → ℕ) (f : (ℕ → ℕ) → Bool) (n : ℕ) (starts ends : List ℕ) : Type 0 where
  pub few : n ≤ 8
  pub is : (k : ℕ → ℕ) → ((j : ℕ) → j < last x → k j ≡ i j) → k (last x) < length_of x (last x) → is_hit starts ends n (k (last x)) ≡ f k
