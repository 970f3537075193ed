-- Read this. What the two calls give for one small recipe, computed: the whole text, each number by its line, and what is told.
-- Renders document 02, W-211. The bytes expected are written from the request's words, the names of its lines in its order.
use Rattle.std.specs.Prelude.{ℕ, ◌≡◌, List, [], ◌∷◌, ◌++◌, replicate, ℤ, pos, negsuc}
use Rattle.nest.specs.Recipes.{dimension, bound, distance, close}
use Rattle.chart.specs.declared.Told.{Told}
use Rattle.chart.specs.Call.{length_call, write_call, written}

-- N 2,3 with i2 at least i1, so that the second row's first cell is outside the shape; k 1,1 P 2,0, distance (1,0)
abbrev pub slope : List ℕ
slope = dimension 2 1 2 ++ dimension 3 1 0 ++ bound 0 1 0 1 0 0 ++ distance 1 0 0 ++ close

-- N 1,1,1: three dimensions
abbrev pub solid : List ℕ
solid = dimension 1 1 1 ++ dimension 1 1 0 ++ dimension 1 1 0 ++ distance 1 0 0 ++ close

-- six words, the fourth of which is in no cell of the shape
abbrev pub grid : List ℕ
grid = 5 ∷ 0 ∷ 4294967295 ∷ 77 ∷ 10 ∷ 305 ∷ []

-- the corners: -12 and 340
abbrev pub west : ℤ
west = negsuc 11

abbrev pub south : ℤ
south = pos 340

-- "ncols 3", "nrows 2", "xllcorner -12", "yllcorner 340", "cellsize 250", "NODATA_value -9999", "5 0 4294967295", "-9999 10 305"
abbrev pub text : List ℕ
text =
    110 ∷ 99 ∷ 111 ∷ 108 ∷ 115 ∷ 32 ∷ 51 ∷ 10
    ∷ 110 ∷ 114 ∷ 111 ∷ 119 ∷ 115 ∷ 32 ∷ 50 ∷ 10
    ∷ 120 ∷ 108 ∷ 108 ∷ 99 ∷ 111 ∷ 114 ∷ 110 ∷ 101 ∷ 114 ∷ 32 ∷ 45 ∷ 49 ∷ 50 ∷ 10
    ∷ 121 ∷ 108 ∷ 108 ∷ 99 ∷ 111 ∷ 114 ∷ 110 ∷ 101 ∷ 114 ∷ 32 ∷ 51 ∷ 52 ∷ 48 ∷ 10
    ∷ 99 ∷ 101 ∷ 108 ∷ 108 ∷ 115 ∷ 105 ∷ 122 ∷ 101 ∷ 32 ∷ 50 ∷ 53 ∷ 48 ∷ 10
    ∷ 78 ∷ 79 ∷ 68 ∷ 65 ∷ 84 ∷ 65 ∷ 95 ∷ 118 ∷ 97 ∷ 108 ∷ 117 ∷ 101 ∷ 32 ∷ 45 ∷ 57 ∷ 57 ∷ 57 ∷ 57 ∷ 10
    ∷ 53 ∷ 32 ∷ 48 ∷ 32 ∷ 52 ∷ 50 ∷ 57 ∷ 52 ∷ 57 ∷ 54 ∷ 55 ∷ 50 ∷ 57 ∷ 53 ∷ 10
    ∷ 45 ∷ 57 ∷ 57 ∷ 57 ∷ 57 ∷ 32 ∷ 49 ∷ 48 ∷ 32 ∷ 51 ∷ 48 ∷ 53 ∷ 10 ∷ []

-- what a call tells: its number, and the text's length
abbrev pub tells : ℕ → ℕ → Told
tells n l = record { number = n; length = l }

-- the length alone, of this recipe's grid with a cell size; the grid one word short
abbrev pub length_at : ℕ → Told
length_at size = length_call slope grid west south size

abbrev pub length_short : ℕ → Told
length_short size = length_call slope (5 ∷ 0 ∷ 4294967295 ∷ 77 ∷ 10 ∷ []) west south size

pub record ChartExamples : Type 0 where
  -- 104 bytes in the place of the space's, those past them as before; a space of exactly the text; the other call tells the same length
  pub whole : write_call slope grid west south 250 (replicate 104 0 ++ (7 ∷ 8 ∷ 9 ∷ [])) ≡ written (tells 0 104) (text ++ (7 ∷ 8 ∷ 9 ∷ []))
  pub exact : write_call slope grid west south 250 (replicate 104 0) ≡ written (tells 0 104) text
  pub long : length_at 250 ≡ tells 0 104
  -- the cell size: 1 to 65,535; nothing is told at a refusal
  pub size_0 : length_at 0 ≡ tells 23 0
  pub size_1 : length_at 1 ≡ tells 0 102
  pub size_most : length_at 65535 ≡ tells 0 106
  pub size_above : length_at 65536 ≡ tells 23 0
  -- three dimensions
  pub dimensions : length_call solid (5 ∷ []) west south 250 ≡ tells 23 0
  -- 9 for the grid's length, 23 before it; the reader's number before 23
  pub grid_short : length_short 250 ≡ tells 9 0
  pub size_first : length_short 65536 ≡ tells 23 0
  pub reader_first : length_call [] grid west south 0 ≡ tells 1 0
  -- 9 for a space that the text has no room in, which stays as it was; 23 before it
  pub space_short : write_call slope grid west south 250 (replicate 103 7) ≡ written (tells 9 0) (replicate 103 7)
  pub size_before_space : write_call slope grid west south 0 (7 ∷ 8 ∷ 9 ∷ []) ≡ written (tells 23 0) (7 ∷ 8 ∷ 9 ∷ [])
