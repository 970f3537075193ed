-- `tables::shaped_table::range_of` meets its contract.
use mathlib.Core.Path.{refl}
use native.Mathlib.Omega.{arith}
use Rattle.tables.proofs.shaped_table.Laws as L
use Rattle.tables.proofs.shaped_table.range_of.Goals as goal

pub overflow_mul-first : goal.overflow_mul-first
overflow_mul-first c =
    omega (
      arith,
      (L.range_room _ c.args.layout.now.sized.accepted c.args.tile _ c.requires.1
          (L.ways_are c.args.layout.now.nest c.args.layout.now.sized.accepted c.args.layout.now.sizes.ways c.args.layout.now.sizes.route c.args.layout.now.sized.ways
          c.requires.0)).0,
    )

pub overflow_add-end : goal.overflow_add-end
overflow_add-end c =
    omega (
      arith,
      (L.range_room _ c.args.layout.now.sized.accepted c.args.tile _ c.requires.1
          (L.ways_are c.args.layout.now.nest c.args.layout.now.sized.accepted c.args.layout.now.sizes.ways c.args.layout.now.sizes.route c.args.layout.now.sized.ways
          c.requires.0)).1,
    )

pub returns-then-side-eq0 : goal.returns-then-side-eq0
returns-then-side-eq0 c =
    L.range_own _ c.args.layout.now.sized.accepted _ _ _ _ c.requires.1
    (L.ways_are c.args.layout.now.nest c.args.layout.now.sized.accepted c.args.layout.now.sizes.ways c.args.layout.now.sizes.route c.args.layout.now.sized.ways c.requires.0)
    refl refl _ c.if-side-eq0.true

pub returns : goal.returns
returns c =
    L.range_all _ c.args.layout.now.sized.accepted _ _ _ _ c.requires.1
    (L.ways_are c.args.layout.now.nest c.args.layout.now.sized.accepted c.args.layout.now.sizes.ways c.args.layout.now.sizes.route c.args.layout.now.sized.ways c.requires.0)
    refl refl _ c.if-side-eq0.false
