-- `tables::shaped_table::copy_tile` meets its contract: what is copied stands before the tile's own slots.
use Prim.Native.Nat.{ℕ, ◌+◌, ◌*◌, ◌≤◌, ◌<◌}
use mathlib.Core.Path.{◌≡◌}
use mathlib.Core.List.{List}
use native.Mathlib.Omega.{arith}
use Rattle.nest.specs.declared.Nest.{Nest}
use Rattle.nest.specs.Shape.{tiles}
use Rattle.plan.specs.declared.Route.TheVariants.{Direct}
use Rattle.plan.specs.Messages.{directions}
use Rattle.layout.specs.declared.Sizes.{Sizes}
use Rattle.layout.specs.Sizes.{Sized}
use Rattle.tables.specs.shaped_table.Table.{Like, Filling}
use Rattle.tables.proofs.shaped_table.Laws as L
use Rattle.tables.proofs.shaped_table.copy_tile.Goals as goal

rooms : (x : Nest) (z : Sizes) (lens : List ℕ) (t p : ℕ) → Sized x z → z.route ≡ Direct → t < tiles x → Like x t p
    → Filling x lens (t * directions x) → (t * z.ways + z.ways ≤ 7168) × (p * z.ways + z.ways ≤ 7168)
rooms x z lens t p s d h g f = L.tile_rooms x s.accepted lens t p z.ways (L.ways_are x s.accepted z.ways z.route s.ways d) h g f

pub overflow_mul-from : goal.overflow_mul-from
overflow_mul-from c =
    omega (arith, rooms _ _ _ _ _ c.args.layout.now.sized c.requires.sized.0 c.requires.tile_bound.0 c.requires.sized.1 c.requires.tile_bound.1)

pub overflow_add-from : goal.overflow_add-from
overflow_add-from c =
    omega (arith, rooms _ _ _ _ _ c.args.layout.now.sized c.requires.sized.0 c.requires.tile_bound.0 c.requires.sized.1 c.requires.tile_bound.1)

pub overflow_mul-tile : goal.overflow_mul-tile
overflow_mul-tile c =
    omega (arith, rooms _ _ _ _ _ c.args.layout.now.sized c.requires.sized.0 c.requires.tile_bound.0 c.requires.sized.1 c.requires.tile_bound.1)

pub copy_within-requires-clause-in_bounds : goal.copy_within-requires-clause-in_bounds
copy_within-requires-clause-in_bounds c =
    omega (arith, c.requires.tile_bound.1.owned.tiled.numbers.long, rooms _ _ _ _ _ c.args.layout.now.sized c.requires.sized.0 c.requires.tile_bound.0 c.requires.sized.1 c.requires.tile_bound.1)

pub copy_within-requires-clause-dest_in_bounds : goal.copy_within-requires-clause-dest_in_bounds
copy_within-requires-clause-dest_in_bounds c =
    omega (arith, c.requires.tile_bound.1.owned.tiled.numbers.long, rooms _ _ _ _ _ c.args.layout.now.sized c.requires.sized.0 c.requires.tile_bound.0 c.requires.sized.1 c.requires.tile_bound.1)

pub returns : goal.returns
returns c =
    let e = c.copy_within.ensures.after in
    rw e (L.tile_copied c.args.layout.now.nest c.args.layout.now.sized.accepted _ c.args.tile c.args.p c.args.layout.now.sizes.ways
    (L.ways_are c.args.layout.now.nest c.args.layout.now.sized.accepted c.args.layout.now.sizes.ways c.args.layout.now.sizes.route c.args.layout.now.sized.ways c.requires.sized.0)
    c.requires.tile_bound.0 c.requires.sized.1 c.requires.tile_bound.1)
