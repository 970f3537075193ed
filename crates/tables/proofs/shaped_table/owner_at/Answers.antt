-- `tables::shaped_table::owner_at` meets its contract.
use native.Mathlib.Omega.{arith}
use Rattle.plan.proofs.Tiles.{processor_of_low}
use Rattle.tables.proofs.shaped_table.Lines as L
use Rattle.tables.proofs.shaped_table.owner_at.Goals as goal

pub returns-then-tile-old : goal.returns-then-tile-old
returns-then-tile-old c = (
  L.held_here c.args.layout.now.nest c.args.layout.now.sized.accepted _ _ _ c.requires.1 c.if-tile-old.true,
  (
    omega (
      arith,
      L.held_here c.args.layout.now.nest c.args.layout.now.sized.accepted _ _ _ c.requires.1 c.if-tile-old.true,
      processor_of_low c.args.layout.now.nest c.args.layout.now.sized.accepted c.args.tile,
    ),
    c.requires.1,
  ),
)

pub overflow_sub-n : goal.overflow_sub-n
overflow_sub-n c = omega (arith, c.args.layout.now.sized.accepted.dimensions_least, c.args.layout.now.sized.accepted.dimensions_most)

pub offset_bounds-across-layout : goal.offset_bounds-across-layout
offset_bounds-across-layout c = omega (arith, c.args.layout.now.sized.accepted.dimensions_least, c.args.layout.now.sized.accepted.dimensions_most)

pub bounds-across-layout : goal.bounds-across-layout
bounds-across-layout c = omega (arith, c.args.layout.now.sized.accepted.dimensions_least, c.args.layout.now.sized.accepted.dimensions_most)

pub processor_of-requires : goal.processor_of-requires
processor_of-requires c = c.requires.0

pub nonzero_rem-result : goal.nonzero_rem-result
nonzero_rem-result c =
    (L.row_fits c.args.layout.now.nest c.args.layout.now.sized.accepted c.args.tile _
    (c.args.layout.now.sized.across _ (L.inner c.args.layout.now.nest c.args.layout.now.sized.accepted)) c.requires.0).0

pub overflow_sub-result : goal.overflow_sub-result
overflow_sub-result c =
    (L.row_fits c.args.layout.now.nest c.args.layout.now.sized.accepted c.args.tile _
    (c.args.layout.now.sized.across _ (L.inner c.args.layout.now.nest c.args.layout.now.sized.accepted)) c.requires.0).1.0

pub overflow_add-result : goal.overflow_add-result
overflow_add-result c =
    omega (
      arith,
      (L.row_fits c.args.layout.now.nest c.args.layout.now.sized.accepted c.args.tile _
          (c.args.layout.now.sized.across _ (L.inner c.args.layout.now.nest c.args.layout.now.sized.accepted)) c.requires.0).1.1,
    )

pub returns : goal.returns
returns c = (
  c.processor_of.ensures.0,
  (
    c.processor_of.ensures.1,
    L.held_row c.args.layout.now.nest c.args.layout.now.sized.accepted c.args.tile _ _
        (c.args.layout.now.sized.across _ (L.inner c.args.layout.now.nest c.args.layout.now.sized.accepted)) c.processor_of.ensures.0,
  ),
)
