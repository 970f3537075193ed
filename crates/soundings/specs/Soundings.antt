-- Read this.
-- A source filled from soundings: a file's records, which of them counts for a cell, its word, and what the call answers.
-- Renders document 02, W-210; the source is the paper's bed.
use Rattle.std.specs.Prelude.{ℕ, zero, suc, ◌+◌, ◌*◌, ◌%◌, Bool, List, [], ◌∷◌, ◌++◌, length, drop, eqb, ltb, leb}
use Rattle.base.specs.Tests.{◌and◌, ◌or◌, not, pick, some, tabulate}
use Rattle.base.specs.Numbers.{Line, line, first_of}
use Rattle.machine.specs.Machine.{Answered, answered}
use Rattle.nest.specs.Nest.{cells}
use Rattle.base.specs.Bytes.{word}
use Rattle.nest.specs.Reader.{records, nest_of, ragged, read_lines}

-- ---- the file: record r has 16 bytes from 16 * r on, four words

unfoldable pub cell_of : List ℕ → ℕ → ℕ
cell_of file r = word file (16 * r)

unfoldable pub day_of : List ℕ → ℕ → ℕ
day_of file r = word file (16 * r + 4)

unfoldable pub survey_of : List ℕ → ℕ → ℕ
survey_of file r = word file (16 * r + 8)

unfoldable pub depth_of : List ℕ → ℕ → ℕ
depth_of file r = word file (16 * r + 12)

-- ---- which record counts

-- record q beats record r: by a greater day; of the same day by a greater survey number; of the same survey by being later in the file
unfoldable pub beats : List ℕ → ℕ → ℕ → Bool
beats file q r =
    ltb (day_of file r) (day_of file q)
    or (eqb (day_of file r) (day_of file q)
    and (ltb (survey_of file r) (survey_of file q) or (eqb (survey_of file r) (survey_of file q) and ltb r q)))

pub data Best : Type 0 where
  none : Best
  its : ℕ → Best

-- a further record of the cell
unfoldable pub better : List ℕ → Best → ℕ → Best
better file none q = its q
better file (its r) q = its (pick (beats file q r) q r)

-- the record that counts for cell c, of the file's first n
unfoldable pub best_of : List ℕ → ℕ → ℕ → Best
best_of file c zero = none
best_of file c (suc n) = pick (eqb (cell_of file n) c) (better file (best_of file c n) n) (best_of file c n)

-- its depth, or the value that the caller names
unfoldable pub depth_or : List ℕ → ℕ → Best → ℕ
depth_or file value none = value
depth_or file value (its r) = depth_of file r

unfoldable pub sounded_word : List ℕ → ℕ → ℕ → ℕ
sounded_word file value c = depth_or file value (best_of file c (records file))

unfoldable pub sounded_source : List ℕ → ℕ → ℕ → List ℕ
sounded_source file value size = tabulate (sounded_word file value) size

-- ---- the call

-- line 1, of the file: an empty one is allowed
unfoldable pub ragged_file : List ℕ → Bool
ragged_file file = not (eqb (length file % 16) 0)

-- line 22: some record, whether it counts or not, names a cell outside the box
unfoldable pub off_box : ℕ → List ℕ → Bool
off_box size file = some (λ r. leb size (cell_of file r)) (records file)

-- the lines behind the reader's
abbrev pub source_lines : ℕ → List ℕ → List ℕ → List Line
source_lines size file source = line 9 (not (eqb (length source) size)) ∷ line 22 (off_box size file) ∷ []

-- line 1 is of both files; then all that the reader has behind its line 1, whichever they are
abbrev pub fill_lines : List ℕ → List ℕ → List ℕ → List Line
fill_lines bytes file source =
    line 1 (ragged bytes or ragged_file file) ∷ (drop 1 (read_lines bytes) ++ source_lines (cells (nest_of bytes)) file source)

-- a call's number, and the source as it leaves it
abbrev pub filled : ℕ → List ℕ → Answered (List ℕ)
filled n source = record { number = n; after = source }

-- 0 and a word for each cell of the box; or the first true line's number, and the source as it was
unfoldable pub fill_call : List ℕ → List ℕ → ℕ → List ℕ → Answered (List ℕ)
fill_call bytes file value source =
    answered (first_of (fill_lines bytes file source)) (sounded_source file value (cells (nest_of bytes))) source
