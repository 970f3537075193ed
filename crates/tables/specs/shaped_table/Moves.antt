-- For contracts below the calls: no reader needs it.
-- Moves of tiles that every bound moves along with, and the tiles that are like the tile a move before them.
-- No sentence of document 02.
use Rattle.std.specs.Prelude.{ℕ, ◌+◌, ◌*◌, ◌≤◌, ◌<◌, ◌≡◌, List, get_or}
use Rattle.nest.specs.declared.Nest.{Nest}
use Rattle.nest.specs.declared.Interval.{Interval}
use Rattle.nest.specs.Nest.{length_of, tile_length, tile_count, bounded, earlier, slope}
use Rattle.nest.specs.Places.{tile_at}
use Rattle.nest.specs.Spans.{last}

-- one tile at the most in each dimension
abbrev pub Short : List ℕ → Type 0
Short steps = (j : ℕ) → get_or steps j 0 ≤ 1

-- how many cells so many tiles are in dimension j
abbrev pub cells_in : Nest → List ℕ → ℕ → ℕ
cells_in x steps j = get_or steps j 0 * tile_length x j

-- what bound k gives rises by as much as the component bounded, both plus the earlier component; every bound does
abbrev pub KeptBy : Nest → List ℕ → ℕ → Type 0
KeptBy x steps k = slope x k * cells_in x steps (earlier x k) ≡ cells_in x steps (bounded x k) + cells_in x steps (earlier x k)

abbrev pub Kept : Nest → List ℕ → Type 0
Kept x steps = (k : ℕ) → k < x.bounds → KeptBy x steps k

-- a move that every bound moves along with, so far in the box's numbers
pub record Moves (x : Nest) (steps : List ℕ) (far : ℕ) : Type 0 where
  pub few : far ≤ 65536
  pub short : Short steps
  pub kept : Kept x steps
  pub is : far ≡ tile_at x (λ j. get_or steps j 0)

-- a tile that stands at place a of a dimension has one s before it and, where s is not 0, one of full length after it
abbrev pub Behind : ℕ → ℕ → ℕ → ℕ → Type 0
Behind a s tiling length = (s ≤ a) × (0 < s → (a + 2) * tiling ≤ length)

-- places of the last dimension, in the row of a place: the tiles there have one a move before them
pub record MovedIn (x : Nest) (at steps : List ℕ) (r : Interval) : Type 0 where
  pub few : (r.from ≤ 8400000) × (r.to ≤ 1024)
  pub before : (a : ℕ) → r.from ≤ a → a < r.to
      → (j : ℕ) → j < last x → Behind (get_or at j 0) (get_or steps j 0) (tile_length x j) (length_of x j)
  pub here : (a : ℕ) → r.from ≤ a → a < r.to
      → (a < tile_count x (last x)) × Behind a (get_or steps (last x) 0) (tile_length x (last x)) (length_of x (last x))
