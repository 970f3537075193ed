-- Read this.
-- The text of a grid for the charting desk: six lines of names and numbers, then the rows, first row first.
-- Renders document 02, W-211; each name is spelled by its bytes.
use Rattle.std.specs.Prelude.{ℕ, zero, suc, ◌+◌, Bool, List, [], ◌∷◌, ◌++◌, get_or, ℤ}
use Rattle.base.specs.Tests.{pick}
use Rattle.text.specs.Decimal.{decimal, signed}

-- a space, a line feed
abbrev pub space : ℕ
space = 32

abbrev pub feed : ℕ
feed = 10

-- "ncols", "nrows", "xllcorner", "yllcorner", "cellsize", "NODATA_value" and "-9999"
abbrev pub ncols : List ℕ
ncols = 110 ∷ 99 ∷ 111 ∷ 108 ∷ 115 ∷ []

abbrev pub nrows : List ℕ
nrows = 110 ∷ 114 ∷ 111 ∷ 119 ∷ 115 ∷ []

abbrev pub xllcorner : List ℕ
xllcorner = 120 ∷ 108 ∷ 108 ∷ 99 ∷ 111 ∷ 114 ∷ 110 ∷ 101 ∷ 114 ∷ []

abbrev pub yllcorner : List ℕ
yllcorner = 121 ∷ 108 ∷ 108 ∷ 99 ∷ 111 ∷ 114 ∷ 110 ∷ 101 ∷ 114 ∷ []

abbrev pub cellsize : List ℕ
cellsize = 99 ∷ 101 ∷ 108 ∷ 108 ∷ 115 ∷ 105 ∷ 122 ∷ 101 ∷ []

abbrev pub nodata : List ℕ
nodata = 78 ∷ 79 ∷ 68 ∷ 65 ∷ 84 ∷ 65 ∷ 95 ∷ 118 ∷ 97 ∷ 108 ∷ 117 ∷ 101 ∷ []

abbrev pub missing : List ℕ
missing = 45 ∷ 57 ∷ 57 ∷ 57 ∷ 57 ∷ []

-- what the header tells: rows, columns, the corner of the lowest row's first cell, the cell size
pub record Frame : Type 0 where
  pub rows : ℕ
  pub columns : ℕ
  pub x : ℤ
  pub y : ℤ
  pub size : ℕ

abbrev pub frame : ℕ → ℕ → ℤ → ℤ → ℕ → Frame
frame rows columns x y size = record { rows = rows; columns = columns; x = x; y = y; size = size }

-- a name, a space, its value, a line feed
unfoldable pub head_line : List ℕ → List ℕ → List ℕ
head_line name value = name ++ (space ∷ (value ++ (feed ∷ [])))

-- the six lines
unfoldable pub header : Frame → List ℕ
header f =
    head_line ncols (decimal f.columns)
    ++ (head_line nrows (decimal f.rows)
    ++ (head_line xllcorner (signed f.x)
    ++ (head_line yllcorner (signed f.y)
    ++ (head_line cellsize (decimal f.size)
    ++ head_line nodata missing))))

-- the text of cell c: its value, or -9999 outside the shape, whatever the grid has there
unfoldable pub cell : List ℕ → (ℕ → Bool) → ℕ → List ℕ
cell grid shape c = pick (shape c) (decimal (get_or grid c 0)) missing

-- the rest of a row: n cells from cell c on, a space before each, then the line feed
unfoldable pub more : List ℕ → (ℕ → Bool) → ℕ → ℕ → List ℕ
more grid shape c zero = feed ∷ []
more grid shape c (suc n) = space ∷ (cell grid shape c ++ more grid shape (suc c) n)

-- a row of n cells from cell c on
unfoldable pub row : List ℕ → (ℕ → Bool) → ℕ → ℕ → List ℕ
row grid shape c zero = feed ∷ []
row grid shape c (suc n) = cell grid shape c ++ more grid shape (suc c) n

-- k rows of n cells, the first from cell c on
unfoldable pub rows_from : List ℕ → (ℕ → Bool) → ℕ → ℕ → ℕ → List ℕ
rows_from grid shape n c zero = []
rows_from grid shape n c (suc k) = row grid shape c n ++ rows_from grid shape n (c + n) k

unfoldable pub grid_text : Frame → List ℕ → (ℕ → Bool) → List ℕ
grid_text f grid shape = header f ++ rows_from grid shape f.columns 0 f.rows
