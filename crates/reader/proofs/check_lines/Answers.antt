-- `reader::check_lines` meets its contract: one law for each line.
use mathlib.Core.Path.{sym, ◌∙◌}
use Rattle.nest.proofs.Laws as L
use Rattle.nest.proofs.Facts as F
use Rattle.reader.proofs.check_lines.Goals as goal

pub bad_length-requires : goal.bad_length-requires
bad_length-requires c = c.requires.dimensions_most

pub returns-then-bad_length : goal.returns-then-bad_length
returns-then-bad_length c = sym (L.line_3 c.args.needless c.args.nest (sym c.bad_length.ensures ∙ c.if-bad_length.true))

pub product_of-requires : goal.product_of-requires
product_of-requires c = (c.requires.dimensions_most, c.requires.length_wide)

pub returns-then-product_of-gt-MOST_CELLS : goal.returns-then-product_of-gt-MOST_CELLS
returns-then-product_of-gt-MOST_CELLS c =
    sym (L.line_4 c.args.needless c.args.nest (sym c.bad_length.ensures ∙ c.if-bad_length.false)
    (L.large_yes c.args.nest _ c.product_of.ensures c.if-product_of-gt-MOST_CELLS.true))

pub returns-then-needless : goal.returns-then-needless
returns-then-needless c =
    sym (L.line_18 c.args.needless c.args.nest (sym c.bad_length.ensures ∙ c.if-bad_length.false)
    (L.large_no c.args.nest _ c.product_of.ensures c.if-product_of-gt-MOST_CELLS.false) c.if-needless.true)

pub has_cell-requires : goal.has_cell-requires
has_cell-requires c = F.framed_by c.args.nest c.requires (sym c.bad_length.ensures ∙ c.if-bad_length.false)

pub returns-then-not-has_cell : goal.returns-then-not-has_cell
returns-then-not-has_cell c =
    sym (L.line_20 c.args.needless c.args.nest (sym c.bad_length.ensures ∙ c.if-bad_length.false)
    (L.large_no c.args.nest _ c.product_of.ensures c.if-product_of-gt-MOST_CELLS.false) c.if-needless.false
    (F.no_cell_lem c.args.nest _ c.has_cell.ensures c.if-not-has_cell.true))

pub bad_distance-requires : goal.bad_distance-requires
bad_distance-requires c = c.requires.distances_most

pub returns-then-bad_distance : goal.returns-then-bad_distance
returns-then-bad_distance c =
    sym (L.line_5 c.args.needless c.args.nest (sym c.bad_length.ensures ∙ c.if-bad_length.false)
    (L.large_no c.args.nest _ c.product_of.ensures c.if-product_of-gt-MOST_CELLS.false) c.if-needless.false
    (F.a_cell c.args.nest _ c.has_cell.ensures c.if-not-has_cell.false) (sym c.bad_distance.ensures
    ∙ c.if-bad_distance.true))

pub bad_tile-requires : goal.bad_tile-requires
bad_tile-requires c = (c.requires.dimensions_most, c.requires.distances_most)

pub returns-then-bad_tile : goal.returns-then-bad_tile
returns-then-bad_tile c =
    sym (L.line_6 c.args.needless c.args.nest (sym c.bad_length.ensures ∙ c.if-bad_length.false)
    (L.large_no c.args.nest _ c.product_of.ensures c.if-product_of-gt-MOST_CELLS.false) c.if-needless.false
    (F.a_cell c.args.nest _ c.has_cell.ensures (c.if-not-has_cell.false)) (sym c.bad_distance.ensures
    ∙ c.if-bad_distance.false) (sym c.bad_tile.ensures ∙ c.if-bad_tile.true))

pub bad_spread-requires : goal.bad_spread-requires
bad_spread-requires c = (c.requires.dimensions_least, c.requires.dimensions_most)

pub returns-then-bad_spread : goal.returns-then-bad_spread
returns-then-bad_spread c =
    sym (L.line_16 c.args.needless c.args.nest (sym c.bad_length.ensures ∙ c.if-bad_length.false)
    (L.large_no c.args.nest _ c.product_of.ensures c.if-product_of-gt-MOST_CELLS.false) c.if-needless.false
    (F.a_cell c.args.nest _ c.has_cell.ensures (c.if-not-has_cell.false)) (sym c.bad_distance.ensures
    ∙ c.if-bad_distance.false) (sym c.bad_tile.ensures ∙ c.if-bad_tile.false) (sym c.bad_spread.ensures ∙ c.if-bad_spread.true))

pub last_spread-requires : goal.last_spread-requires
last_spread-requires c = (c.requires.dimensions_least, c.requires.dimensions_most)

pub returns-then-last_spread : goal.returns-then-last_spread
returns-then-last_spread c =
    sym (L.line_17 c.args.needless c.args.nest (sym c.bad_length.ensures ∙ c.if-bad_length.false)
    (L.large_no c.args.nest _ c.product_of.ensures c.if-product_of-gt-MOST_CELLS.false) c.if-needless.false
    (F.a_cell c.args.nest _ c.has_cell.ensures (c.if-not-has_cell.false)) (sym c.bad_distance.ensures
    ∙ c.if-bad_distance.false) (sym c.bad_tile.ensures ∙ c.if-bad_tile.false) (sym c.bad_spread.ensures ∙ c.if-bad_spread.false)
    (sym c.last_spread.ensures ∙ c.if-last_spread.true))

pub bad_processors-requires : goal.bad_processors-requires
bad_processors-requires c = (c.requires.spread_most, c.requires.count_wide)

pub returns-then-bad_processors : goal.returns-then-bad_processors
returns-then-bad_processors c =
    sym (L.line_7 c.args.needless c.args.nest (sym c.bad_length.ensures ∙ c.if-bad_length.false)
    (L.large_no c.args.nest _ c.product_of.ensures c.if-product_of-gt-MOST_CELLS.false) c.if-needless.false
    (F.a_cell c.args.nest _ c.has_cell.ensures (c.if-not-has_cell.false)) (sym c.bad_distance.ensures
    ∙ c.if-bad_distance.false) (sym c.bad_tile.ensures ∙ c.if-bad_tile.false) (sym c.bad_spread.ensures ∙ c.if-bad_spread.false)
    (sym c.last_spread.ensures ∙ c.if-last_spread.false) (sym c.bad_processors.ensures ∙ c.if-bad_processors.true))

pub too_many_tiles-requires : goal.too_many_tiles-requires
too_many_tiles-requires c = (
  (
    F.framed_by c.args.nest c.requires (sym c.bad_length.ensures ∙ c.if-bad_length.false),
    λ j l. (F.tile_in c.args.nest
        (sym c.bad_tile.ensures ∙ c.if-bad_tile.false) j l).0,
  ),
  F.size_in c.args.nest
      (L.large_no c.args.nest _ c.product_of.ensures c.if-product_of-gt-MOST_CELLS.false),
)

pub returns-then-too_many_tiles : goal.returns-then-too_many_tiles
returns-then-too_many_tiles c =
    sym (L.line_8 c.args.needless c.args.nest (sym c.bad_length.ensures ∙ c.if-bad_length.false)
    (L.large_no c.args.nest _ c.product_of.ensures c.if-product_of-gt-MOST_CELLS.false) c.if-needless.false
    (F.a_cell c.args.nest _ c.has_cell.ensures (c.if-not-has_cell.false)) (sym c.bad_distance.ensures
    ∙ c.if-bad_distance.false) (sym c.bad_tile.ensures ∙ c.if-bad_tile.false) (sym c.bad_spread.ensures ∙ c.if-bad_spread.false)
    (sym c.last_spread.ensures ∙ c.if-last_spread.false) (sym c.bad_processors.ensures ∙ c.if-bad_processors.false)
    (sym c.too_many_tiles.ensures ∙ c.if-too_many_tiles.true))

pub returns : goal.returns
returns c =
    sym (L.line_none c.args.needless c.args.nest (sym c.bad_length.ensures ∙ c.if-bad_length.false)
    (L.large_no c.args.nest _ c.product_of.ensures c.if-product_of-gt-MOST_CELLS.false) c.if-needless.false
    (F.a_cell c.args.nest _ c.has_cell.ensures (c.if-not-has_cell.false)) (sym c.bad_distance.ensures
    ∙ c.if-bad_distance.false) (sym c.bad_tile.ensures ∙ c.if-bad_tile.false) (sym c.bad_spread.ensures ∙ c.if-bad_spread.false)
    (sym c.last_spread.ensures ∙ c.if-last_spread.false) (sym c.bad_processors.ensures ∙ c.if-bad_processors.false)
    (sym c.too_many_tiles.ensures ∙ c.if-too_many_tiles.false))
