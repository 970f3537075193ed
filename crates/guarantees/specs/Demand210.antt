-- Read this.
-- What W-210 demands of the exported call that fills a source from soundings, and demand 1 for it.
-- Renders document 02, W-210, and document 01, "Numbers a call gives".
use Rattle.std.specs.Prelude.{ℕ, ◌<◌, ◌≡◌, true, false, List, ◌++◌}
use Rattle.base.specs.Numbers.{first_of}
use Rattle.nest.specs.Nest.{cells}
use Rattle.nest.specs.Reader.{records, nest_of, read_lines}
use Rattle.soundings.specs.Soundings.{cell_of, sounded_source, ragged_file, source_lines, fill_lines}
use Rattle.soundings.specs.Ground.{Grounded}
use Rattle.engine.specs.Calls.{answer}
use Rattle.engine.specs.Demands.{Fixed}
use Rattle.calls.specs.Gave.{SoundingsGave}

pub record Sounded (bytes file : List ℕ) (value : ℕ) (old : List ℕ) (n : ℕ) (source : List ℕ) : Type 0 where
  -- the number of the first true line; the words, or every word as before
  pub fixed : Fixed (answer n source) (fill_lines bytes file old) (sounded_source file value (cells (nest_of bytes))) old
  -- a ragged file gives 1, whatever the recipe; else the reader's lines count as they stand, and those behind them
  pub ragged : ragged_file file ≡ true → n ≡ 1
  pub behind : ragged_file file ≡ false → n ≡ first_of (read_lines bytes ++ source_lines (cells (nest_of bytes)) file old)
  -- where it gave 0, every record of the file names a cell of the box, and every word has its ground
  pub in_box : n ≡ 0 → (r : ℕ) → r < records file → cell_of file r < cells (nest_of bytes)
  pub grounded : n ≡ 0 → Grounded (cells (nest_of bytes)) file value source

abbrev pub Demand210 : Type 0
Demand210 =
    (bytes file : List ℕ) (value : ℕ) (old : List ℕ) (n : ℕ) (source : List ℕ) → SoundingsGave bytes file value old n source
    → Sounded bytes file value old n source
