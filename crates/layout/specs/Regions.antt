-- For contracts below the calls: no reader needs it.
-- A slot's cells as those of one box of places that some distance puts into one window, a box too, on either route.
-- No sentence of document 01.
use Rattle.std.specs.Prelude.{ℕ, ◌+◌, ◌*◌, ◌-◌, min, Bool, ltb, leb, eqb}
use Rattle.base.specs.Tests.{◌and◌, pick, one, every, some, product}
use Rattle.nest.specs.declared.Nest.{Nest}
use Rattle.nest.specs.Nest.{length_of, tile_length, component}
use Rattle.plan.specs.declared.Route.{Route}
use Rattle.plan.specs.declared.Route.TheVariants.{Direct, Indirect}
use Rattle.nest.specs.Places.{place, cell_at, tile_place}
use Rattle.plan.specs.Messages.{ahead, slot_tile, slot_direction, slot_dimension}

-- in each dimension the components from `low` on, below `high`
pub record Region : Type 0 where
  pub low : ℕ → ℕ
  pub high : ℕ → ℕ

unfoldable pub among : Nest → Region → (ℕ → ℕ) → Bool
among x b i = every (λ j. leb (b.low j) (i j) and ltb (i j) (b.high j)) x.dimensions

-- its sides, its size, and in index order its n-th place and cell
abbrev pub side : Region → ℕ → ℕ
side b j = b.high j - b.low j

unfoldable pub region_size : Nest → Region → ℕ
region_size x b = product (side b) x.dimensions

unfoldable pub region_place : Nest → Region → ℕ → ℕ → ℕ
region_place x b n j = b.low j + place (side b) x.dimensions n j

unfoldable pub region_cell : Nest → Region → ℕ → ℕ
region_cell x b n = cell_at x (region_place x b n)

-- dimension j: where tile a begins, and where it ends, short at an edge
abbrev pub begins : Nest → ℕ → ℕ → ℕ
begins x j a = a * tile_length x j

abbrev pub ends : Nest → ℕ → ℕ → ℕ
ends x j a = min (a * tile_length x j + tile_length x j) (length_of x j)

-- the tiles from a j to b j in each dimension; the same in the spread ones, else the whole nest
abbrev pub tiles_box : Nest → (ℕ → ℕ) → (ℕ → ℕ) → Region
tiles_box x a b = record { low = λ j. begins x j (a j); high = λ j. ends x j (b j) }

abbrev pub tiles_window : Nest → (ℕ → ℕ) → (ℕ → ℕ) → Region
tiles_window x a b =
    record {
      low = λ j. pick (ltb j x.spread) (begins x j (a j)) 0;
      high = λ j. pick (ltb j x.spread) (ends x j (b j)) (length_of x j);
    }

-- direct, tile t and direction v: the tile's cells; the tile t + v
abbrev pub direct_box : Nest → ℕ → Region
direct_box x t = tiles_box x (tile_place x t) (tile_place x t)

abbrev pub direct_window : Nest → ℕ → ℕ → Region
direct_window x t v = tiles_window x (λ j. tile_place x t j + ahead x v j) (λ j. tile_place x t j + ahead x v j)

-- indirect, tile t and dimension q: the tile's cells and, in dimensions before q, those of the tile before it;
-- in dimensions before q tile t, in q the tile after it, in later ones both
abbrev pub indirect_box : Nest → ℕ → ℕ → Region
indirect_box x t q = tiles_box x (λ j. tile_place x t j - one (ltb j q)) (tile_place x t)

abbrev pub indirect_window : Nest → ℕ → ℕ → Region
indirect_window x t q = tiles_window x (λ j. tile_place x t j + one (eqb j q)) (λ j. tile_place x t j + one (leb q j))

abbrev pub slot_box : Route → Nest → ℕ → Region
slot_box Direct x s = direct_box x (slot_tile Direct x s)
slot_box Indirect x s = indirect_box x (slot_tile Indirect x s) (slot_dimension x s)

abbrev pub slot_window : Route → Nest → ℕ → Region
slot_window Direct x s = direct_window x (slot_tile Direct x s) (slot_direction x s)
slot_window Indirect x s = indirect_window x (slot_tile Indirect x s) (slot_dimension x s)

-- some distance puts the place into the window
unfoldable pub comes_into : Nest → Region → (ℕ → ℕ) → Bool
comes_into x w i = some (λ e. among x w (λ j. i j + component x e j)) x.distances
