-- A worked example, computed: 2 rows of 3 cells, the cell in the middle of the second row outside.
use mathlib.Core.Path.{◌≡◌, refl}
use mathlib.Core.List.{[], ◌∷◌}
use lib.IntN.{pos, negsuc}
use Rattle.text.specs.Decimal.{decimal, signed, digits_in}
use Rattle.text.specs.Grid.{Frame, grid_text, header, head_line, row, more, rows_from, cell}
use lib.Dec.{eqb}
use Rattle.base.specs.Tests.{pick, not}

the_frame : Frame
the_frame = record { rows = 2; columns = 3; x = negsuc 2147483647; y = pos 40; size = 65535 }

-- "ncols 3", "nrows 2", "xllcorner -2147483648", "yllcorner 40", "cellsize 65535", "NODATA_value -9999", "0 4294967295 7", "10 -9999 305"
example : grid_text the_frame (0 ∷ 4294967295 ∷ 7 ∷ 10 ∷ 11 ∷ 305 ∷ []) (λ c. not (eqb c 4))
    ≡ 110 ∷ 99 ∷ 111 ∷ 108 ∷ 115 ∷ 32 ∷ 51 ∷ 10
    ∷ 110 ∷ 114 ∷ 111 ∷ 119 ∷ 115 ∷ 32 ∷ 50 ∷ 10
    ∷ 120 ∷ 108 ∷ 108 ∷ 99 ∷ 111 ∷ 114 ∷ 110 ∷ 101 ∷ 114 ∷ 32 ∷ 45 ∷ 50 ∷ 49 ∷ 52 ∷ 55 ∷ 52 ∷ 56 ∷ 51 ∷ 54 ∷ 52 ∷ 56 ∷ 10
    ∷ 121 ∷ 108 ∷ 108 ∷ 99 ∷ 111 ∷ 114 ∷ 110 ∷ 101 ∷ 114 ∷ 32 ∷ 52 ∷ 48 ∷ 10
    ∷ 99 ∷ 101 ∷ 108 ∷ 108 ∷ 115 ∷ 105 ∷ 122 ∷ 101 ∷ 32 ∷ 54 ∷ 53 ∷ 53 ∷ 51 ∷ 53 ∷ 10
    ∷ 78 ∷ 79 ∷ 68 ∷ 65 ∷ 84 ∷ 65 ∷ 95 ∷ 118 ∷ 97 ∷ 108 ∷ 117 ∷ 101 ∷ 32 ∷ 45 ∷ 57 ∷ 57 ∷ 57 ∷ 57 ∷ 10
    ∷ 48 ∷ 32 ∷ 52 ∷ 50 ∷ 57 ∷ 52 ∷ 57 ∷ 54 ∷ 55 ∷ 50 ∷ 57 ∷ 53 ∷ 32 ∷ 55 ∷ 10
    ∷ 49 ∷ 48 ∷ 32 ∷ 45 ∷ 57 ∷ 57 ∷ 57 ∷ 57 ∷ 32 ∷ 51 ∷ 48 ∷ 53 ∷ 10 ∷ []
unfolding grid_text header head_line row more rows_from cell pick not decimal signed digits_in the_frame
example = refl
