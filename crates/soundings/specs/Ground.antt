-- Read this.
-- What W-210 claims of a filled source: each word has a record of the file, or the caller's value, as its ground.
-- Renders document 02, W-210, its sentences on which record counts and on the ground.
use Rattle.std.specs.Prelude.{ℕ, ◌<◌, ◌≡◌, ◌≢◌, false, List, length, get_or}
use Rattle.nest.specs.Reader.{records}
use Rattle.soundings.specs.Soundings.{cell_of, depth_of, beats}

-- record r counts for cell c: it names the cell, and no record that names it beats r
pub record Counts (file : List ℕ) (c r : ℕ) : Type 0 where
  pub in_file : r < records file
  pub names : cell_of file r ≡ c
  pub unbeaten : (q : ℕ) → q < records file → cell_of file q ≡ c → beats file q r ≡ false

-- the word w of cell c is the depth of the record that counts; or no record names the cell, and it is the caller's value
pub data Ground (file : List ℕ) (value c w : ℕ) : Type 0 where
  sounded : (r : ℕ) → Counts file c r → w ≡ depth_of file r → Ground file value c w
  unsounded : ((q : ℕ) → q < records file → cell_of file q ≢ c) → w ≡ value → Ground file value c w

pub record Grounded (size : ℕ) (file : List ℕ) (value : ℕ) (source : List ℕ) : Type 0 where
  pub long : length source ≡ size
  pub each : (c : ℕ) → c < size → Ground file value c (get_or source c 0)
  -- and no other word of the cell has one
  pub only : (c w : ℕ) → c < size → Ground file value c w → w ≡ get_or source c 0
