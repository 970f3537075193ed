-- `tables::shaped_table::rows::stretch_of` meets its contract.
use mathlib.Core.Path.{refl}
use native.Mathlib.Omega.{arith}
use Rattle.tables.proofs.shaped_table.Lines as L
use Rattle.tables.proofs.shaped_table.rows.stretch_of.Goals as goal

pub area_of-area-requires : goal.area_of-area-requires
area_of-area-requires c = (
  c.args.layout.now.sized.accepted,
  (c.requires.1.0, L.place_few c.args.layout.now.nest c.args.layout.now.sized.accepted c.args.tile _ c.requires.1.1),
)

pub inner_of-inner-requires : goal.inner_of-inner-requires
inner_of-inner-requires c = (
  c.args.layout.now.sized.accepted,
  L.area_few c.args.layout.now.nest c.args.layout.now.sized.accepted _
      (L.place_few c.args.layout.now.nest c.args.layout.now.sized.accepted c.args.tile _ c.requires.1.1) _ _ c.requires.1.0
      c.area_of-area.ensures,
)

pub overflow_sub-last : goal.overflow_sub-last
overflow_sub-last c = omega (arith, c.args.layout.now.sized.accepted.dimensions_least, c.args.layout.now.sized.accepted.dimensions_most)

pub offset_bounds-tiling-last : goal.offset_bounds-tiling-last
offset_bounds-tiling-last c = omega (arith, c.args.layout.now.sized.accepted.dimensions_least, c.args.layout.now.sized.accepted.dimensions_most)

pub bounds-tiling-last : goal.bounds-tiling-last
bounds-tiling-last c = omega (arith, c.args.layout.now.sized.accepted.dimensions_least, c.args.layout.now.sized.accepted.dimensions_most)

pub offset_bounds-lengths-last : goal.offset_bounds-lengths-last
offset_bounds-lengths-last c = omega (arith, c.args.layout.now.sized.accepted.dimensions_least, c.args.layout.now.sized.accepted.dimensions_most)

pub bounds-lengths-last : goal.bounds-lengths-last
bounds-lengths-last c = omega (arith, c.args.layout.now.sized.accepted.dimensions_least, c.args.layout.now.sized.accepted.dimensions_most)

pub offset_bounds-most-last : goal.offset_bounds-most-last
offset_bounds-most-last c = omega (arith, c.args.layout.now.sized.accepted.dimensions_least, c.args.layout.now.sized.accepted.dimensions_most)

pub bounds-most-last : goal.bounds-most-last
bounds-most-last c = omega (arith, c.args.layout.now.sized.accepted.dimensions_least, c.args.layout.now.sized.accepted.dimensions_most)

pub places_in-places-requires : goal.places_in-places-requires
places_in-places-requires c = (
  c.args.layout.now.sized.accepted.tiled _ (L.inner c.args.layout.now.nest c.args.layout.now.sized.accepted),
  (
    c.args.layout.now.sized.accepted.tile_most _,
    (c.args.layout.now.sized.accepted.length_most _, (c.requires.1.0.small _, c.inner_of-inner.ensures.few.0)),
  ),
)

pub line_by-requires : goal.line_by-requires
line_by-requires c = record { sized = (c.requires.0, c.requires.1.1); from_bound = c.places_in-places.ensures.few }

pub returns : goal.returns
returns c =
    let made = c.line_by.ensures in
    L.lined_as c.args.layout.now.nest _ _ _ _ _ _
    (L.line_is c.args.layout.now.nest c.args.layout.now.sized.accepted c.args.tile _ c.args.most c.requires.1.1
    c.requires.1.0 _ c.area_of-area.ensures _ c.inner_of-inner.ensures _ c.places_in-places.ensures _ refl)
    made.0 made.1.0 made.1.1
