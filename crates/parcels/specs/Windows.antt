-- For contracts below the calls: no reader needs it.
-- Rows of a box: where in a row a distance puts cells into the window, how many rows are alike, and which cells of a row are packed.
-- No sentence of document 01.
use Rattle.std.specs.Prelude.{ℕ, ◌+◌, ◌-◌, ◌≤◌, ◌<◌, ◌≡◌, Bool, List, map, length, get_or, ltb, leb}
use Rattle.base.specs.Tests.{◌and◌, some, keep}
use Rattle.base.specs.Lists.{put, pack}
use Rattle.nest.specs.declared.Nest.{Nest}
use Rattle.nest.specs.Nest.{component}
use Rattle.layout.specs.Regions.{Region, among}
use Rattle.layout.specs.Places.{nth}
use Rattle.parcels.specs.declared.Block.{Block}
use Rattle.parcels.specs.declared.Window.{Window}

-- rows are along the last dimension, and follow each other along the one before it
abbrev pub last : Nest → ℕ
last x = x.dimensions - 1

abbrev pub beside : Nest → ℕ
beside x = x.dimensions - 1 - 1

-- the window as the arrays have it
abbrev pub window_of : Window → Region
window_of w = record { low = nth w.low; high = nth w.high }

-- in the row of place i, distance e puts a cell into the window just where its last component is below r
pub record RowEnd (x : Nest) (w : Region) (i : ℕ → ℕ) (e r : ℕ) : Type 0 where
  pub is : (k : ℕ → ℕ) → ((j : ℕ) → j < last x → k j ≡ i j) → ltb (k (last x)) r ≡ among x w (λ j. k j + component x e j)

-- so for each distance
pub record DistanceEnds (x : Nest) (w : Region) (i : ℕ → ℕ) (ends : List ℕ) : Type 0 where
  pub each : (e : ℕ) → e < x.distances → RowEnd x w i e (get_or ends e 0)

-- a cell of the row with the last component m is below one of the n ends: some distance puts it there
abbrev pub is_read : List ℕ → ℕ → ℕ → Bool
is_read ends n m = some (λ e. ltb m (get_or ends e 0)) n

-- of the w cells from the last component a on, the first r are below one of the n ends, and no others
pub record Leading (ends : List ℕ) (n a w r : ℕ) : Type 0 where
  pub low : r ≤ w
  pub is : (y : ℕ) → y < w → ltb y r ≡ is_read ends n (a + y)

-- ---- rows alike

-- the carry test
abbrev pub carries : ℕ → ℕ → ℕ → Bool
carries low high m = leb low m and ltb m high

-- it is the same at the r numbers from m on
pub record Unchanged (m low high r : ℕ) : Type 0 where
  pub least : 1 ≤ r
  pub same : (y : ℕ) → y < r → carries low high (m + y) ≡ carries low high m

-- the row of place i is the box's
pub record InBlock (x : Nest) (b : Block) (i : List ℕ) : Type 0 where
  pub low : get_or i (beside x) 0 < get_or b.corner (beside x) 0 + get_or b.lengths (beside x) 0
  pub most : get_or b.corner (beside x) 0 + get_or b.lengths (beside x) 0 ≤ 1024

-- so are the r rows from it on, and each distance's test is the same in them
pub record Alike (x : Nest) (w : Window) (b : Block) (i : List ℕ) (r : ℕ) : Type 0 where
  pub least : 1 ≤ r
  pub room : get_or i (beside x) 0 + r ≤ get_or b.corner (beside x) 0 + get_or b.lengths (beside x) 0
  pub same : (e y : ℕ) → e < x.distances → y < r
      → carries (get_or w.low (beside x) 0) (get_or w.high (beside x) 0) (get_or i (beside x) 0 + component x e (beside x) + y)
      ≡ carries (get_or w.low (beside x) 0) (get_or w.high (beside x) 0) (get_or i (beside x) 0 + component x e (beside x))

-- ---- a row packed

-- of the w cells of a row, the first with number c and last component a, those that one of the n distances puts there, being
-- below its end: each once, rising
unfoldable pub row_parcel : List ℕ → ℕ → ℕ → ℕ → ℕ → List ℕ
row_parcel ends n c a w = map (λ y. c + y) (keep (λ y. is_read ends n (a + y)) w)

-- the row is the memory's, and its cells that are to be packed have room from `packed` on
pub record RowRoom (ends : List ℕ) (n c a w : ℕ) (memory words : List ℕ) (packed : ℕ) : Type 0 where
  pub few : n ≤ 8
  pub low : c + w ≤ length memory
  pub short : length memory ≤ 16384
  pub small : a + w ≤ 1024
  pub room : packed + length (row_parcel ends n c a w) ≤ length words
  pub most : length words ≤ 16384

-- their words stand from `packed` on, all other words as before, and `count` words are then packed
pub record RowPacked (ends : List ℕ) (n c a w : ℕ) (memory words₀ : List ℕ) (packed : ℕ) (words : List ℕ) (count : ℕ) : Type 0 where
  pub count_is : count ≡ packed + length (row_parcel ends n c a w)
  pub is : words ≡ put words₀ packed (pack memory (row_parcel ends n c a w))
