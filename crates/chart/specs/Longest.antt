-- Read this.
-- The longest text: 180,322 bytes hold every one, so a caller can size the space once.
-- Document 02, W-211. 16,384 cells at most, ten digits each and a space or a line feed behind, are 180,224 bytes; the header is 98 at most:
-- 22 for each corner, 15 for the cell size, 19 for the mark of missing cells, and 20 for the extents, which have six digits together.
use Rattle.std.specs.Prelude.{ℕ, ◌≤◌, ◌<◌, List, get_or, ℤ}
use Rattle.std.specs.Int.{w32}
use Rattle.std.proofs.Common.{SFits}
use Rattle.base.specs.Lists.{Bytes}
use Rattle.chart.specs.Call.{length_call}

-- for bytes, words of 32 bits and signed numbers of 32 bits, whatever else they are
pub record Longest : Type 0 where
  pub most : (bytes grid : List ℕ) (x y : ℤ) (size : ℕ)
      → Bytes bytes
      → ((i : ℕ) → get_or grid i 0 < 4294967296)
      → SFits w32 x
      → SFits w32 y
      → (length_call bytes grid x y size).length ≤ 180322
