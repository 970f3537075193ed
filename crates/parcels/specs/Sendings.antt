-- For contracts below the calls: no reader needs it.
-- A slot's cells by the rows of its box: box and window on either route, what is found of them once, and what of a row.
-- No sentence of document 01.
use Rattle.std.specs.Prelude.{ℕ, ◌+◌, ◌*◌, ◌-◌, ◌%◌, ◌≤◌, ◌<◌, ◌≡◌, Bool, true, false, List, map, length, get_or, ltb, leb}
use Rattle.base.specs.Tests.{one, keep, product}
use Rattle.nest.specs.declared.Nest.{Nest}
use Rattle.nest.specs.Nest.{length_of, component, cells}
use Rattle.plan.specs.declared.Route.{Route}
use Rattle.plan.specs.declared.Route.TheVariants.{Direct, Indirect}
use Rattle.nest.specs.Places.{tile_place}
use Rattle.plan.specs.Messages.{ways, slots, slot_tile, slot_cells, slot_parcel}
use Rattle.layout.specs.Regions.{Region, among, side, region_place, region_cell, tiles_box, tiles_window, slot_box, slot_window, comes_into}
use Rattle.layout.specs.Sizes.{along}
use Rattle.layout.specs.Places.{nth, Has}
use Rattle.parcels.specs.declared.Block.{Block}
use Rattle.parcels.specs.declared.Window.{Window}
use Rattle.parcels.specs.declared.Sending.{Sending}
use Rattle.parcels.specs.declared.Row.{Row}
use Rattle.parcels.specs.Windows.{last, window_of, DistanceEnds, Leading}

-- ---- box and window of a slot

-- its tile's place, and how its way moves it
pub record Headed (r : Route) (x : Nest) (s : ℕ) (at ahead : List ℕ) : Type 0 where
  pub low : s < slots r x
  pub tile : Has at (tile_place x (slot_tile r x s)) x.dimensions
  pub way : Has ahead (along r x (s % ways r x)) x.dimensions

-- nothing is to be counted, or all of the slot's cells
pub record Idle (r : Route) (x : Nest) (s : ℕ) (t : Bool) : Type 0 where
  pub none : t ≡ true → length (slot_parcel r x s) ≡ 0
  pub all : t ≡ false → slot_parcel r x s ≡ slot_cells r x s

-- in the dimensions below the first number cells come from the tile before too, from the second on they may go to the tile after too
abbrev pub earlier : Route → ℕ → ℕ
earlier Direct w = 0
earlier Indirect w = w

abbrev pub later : Route → ℕ → ℕ
later Direct w = 4
later Indirect w = w + 1

-- so the box of tile place `at`, and the window of the place `to` that it is bound for
abbrev pub box_at : Nest → (ℕ → ℕ) → ℕ → Region
box_at x at n = tiles_box x (λ j. at j - one (ltb j n)) at

abbrev pub window_at : Nest → (ℕ → ℕ) → ℕ → Region
window_at x to n = tiles_window x to (λ j. to j + one (leb n j))

-- the arrays have them
pub record Boxed (x : Nest) (g : Region) (b : Block) : Type 0 where
  pub corner : Has b.corner g.low x.dimensions
  pub lengths : Has b.lengths (side g) x.dimensions

pub record Windowed (x : Nest) (g : Region) (w : Window) : Type 0 where
  pub low : Has w.low g.low x.dimensions
  pub high : Has w.high g.high x.dimensions

-- ---- what is found once

-- the box as the arrays have it
abbrev pub box_of : Block → Region
box_of b = record { low = nth b.corner; high = λ j. get_or b.corner j 0 + get_or b.lengths j 0 }

-- in index order its n-th place, and the cell there
abbrev pub place_in : Nest → Sending → ℕ → ℕ → ℕ
place_in x z = region_place x (box_of z.block)

abbrev pub cell_in : Nest → Sending → ℕ → ℕ
cell_in x z = region_cell x (box_of z.block)

-- it has a cell, lies inside the nest and is so many rows of this width; the window is open at the start of a row
pub record BoxOfRows (x : Nest) (z : Sending) : Type 0 where
  pub least : (j : ℕ) → j < x.dimensions → 1 ≤ get_or z.block.lengths j 0
  pub inside : (j : ℕ) → j < x.dimensions → get_or z.block.corner j 0 + get_or z.block.lengths j 0 ≤ length_of x j
  pub opens : get_or z.window.low (last x) 0 ≡ 0
  pub rows : z.rows ≡ product (nth z.block.lengths) (last x)
  pub width : z.width ≡ get_or z.block.lengths (last x) 0

-- of the first n cells of the box, those that some distance puts into the window
unfoldable pub found : Nest → Sending → ℕ → List ℕ
found x z n = map (cell_in x z) (keep (λ q. comes_into x (window_of z.window) (place_in x z q)) n)

-- they are slot s's, whose box and window it has
pub record Sends (r : Route) (x : Nest) (s : ℕ) (z : Sending) : Type 0 where
  pub shape : BoxOfRows x z
  pub box : Boxed x (slot_box r x s) z.block
  pub window : Windowed x (slot_window r x s) z.window
  pub cells : slot_cells r x s ≡ found x z (z.rows * z.width)

-- ---- what is found of a row

-- the w cells of the box from the first-th on, a row's, with the ends there
pub record RowEnds (x : Nest) (z : Sending) (first c a w : ℕ) (ends : List ℕ) : Type 0 where
  pub room : first + w ≤ z.rows * z.width
  pub low : c + w ≤ cells x
  pub small : a + w ≤ 1024
  pub number : (y : ℕ) → y < w → c + y ≡ cell_in x z (first + y)
  pub tests : (y e : ℕ) → y < w → e < x.distances
      → ltb (a + y) (get_or ends e 0) ≡ among x (window_of z.window) (λ j. place_in x z (first + y) j + component x e j)

-- row r of the box: its place, the ends in it, how many of its cells are in the parcel, and the rows from it on that have the same ends
pub record RowAt (x : Nest) (z : Sending) (r : ℕ) (q : Row) : Type 0 where
  pub place : Has q.place (place_in x z (r * z.width)) x.dimensions
  pub limits : DistanceEnds x (window_of z.window) (nth q.place) q.ends
  pub run : Leading q.ends x.distances q.component z.width q.run
  pub least : 1 ≤ q.alike
  pub room : r + q.alike ≤ z.rows
  pub alike : (y : ℕ) → y < q.alike
      → RowEnds x z ((r + y) * z.width) (cell_in x z ((r + y) * z.width)) q.component z.width q.ends
