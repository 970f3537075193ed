-- `tables::shaped_table::fill_owners` meets its contract: the processors of the first t tiles, and that of those next in the row.
use mathlib.Core.Path.{ap, ◌∙◌}
use native.Mathlib.Omega.{arith}
use Rattle.plan.specs.Geometry.{processor_of}
use Rattle.tables.proofs.shaped_table.Laws as L
use Rattle.tables.proofs.shaped_table.Lines as R
use Rattle.tables.proofs.shaped_table.fill_owners.Goals as goal

pub tiles_of-n-requires : goal.tiles_of-n-requires
tiles_of-n-requires c = (c.args.layout.now.sized.accepted, c.requires)

pub loop-t-init : goal.loop-t-init
loop-t-init c = (
  L.owned_none _ c.args.layout.now.sized.accepted _ c.requires,
  (omega arith, λ s h l. R.held_none c.args.layout.now.nest c.args.layout.now.sized.accepted _),
)

pub box_of-tile-requires : goal.box_of-tile-requires
box_of-tile-requires c = (
  c.args.layout.now.sized.accepted,
  (
    c.loop-t.invariant.0.tiled,
    omega (
      arith,
      c.tiles_of-n.ensures.0,
      c.loop-t-test.true,
    ),
  ),
)

pub owner_at-owner-requires : goal.owner_at-owner-requires
owner_at-owner-requires c =
    let loop = c.loop-t in (
      c.box_of-tile.ensures.1,
      R.held_later c.args.layout.now.nest c.args.layout.now.sized.accepted _ _ _ _
          (loop.invariant.1.1 loop.t (omega arith) (omega (arith, c.tiles_of-n.ensures.0, c.loop-t-test.true)))
          (omega (arith, c.box_of-tile.ensures.0)),
    )

pub overflow_cast-lens : goal.overflow_cast-lens
overflow_cast-lens c = omega (arith, c.owner_at-owner.ensures.1.0, c.args.layout.now.sized.accepted.processors_most)

pub overflow_add-lens : goal.overflow_add-lens
overflow_add-lens c = omega (arith, c.tiles_of-n.ensures.1, c.loop-t-test.true, c.loop-t.invariant.0.tiled.numbers.long)

pub offset_bounds-lens-t : goal.offset_bounds-lens-t
offset_bounds-lens-t c = omega (arith, c.tiles_of-n.ensures.1, c.loop-t-test.true, c.loop-t.invariant.0.tiled.numbers.long)

pub bounds-lens-t : goal.bounds-lens-t
bounds-lens-t c = omega (arith, c.tiles_of-n.ensures.1, c.loop-t-test.true, c.loop-t.invariant.0.tiled.numbers.long)

pub overflow_step-t : goal.overflow_step-t
overflow_step-t c = omega (arith, c.tiles_of-n.ensures.1, c.loop-t-test.true, c.loop-t.invariant.0.tiled.numbers.long)

pub loop-t-smaller : goal.loop-t-smaller
loop-t-smaller c = omega (arith, c.loop-t-test.true)

pub loop-t-preserved : goal.loop-t-preserved
loop-t-preserved c =
    let loop = c.loop-t in
    let tiles-of = c.tiles_of-n in
    let loop-test = c.loop-t-test in
    let box_of = c.box_of-tile in (
      L.owned_more _ c.args.layout.now.sized.accepted _ _ _ loop.invariant.0 (omega (arith, tiles-of.ensures.0, loop-test.true)) (c.owner_at-owner.ensures.0
          ∙ ap (processor_of _) box_of.ensures.0),
      (
        omega (arith, loop-test.true),
        R.held_next c.args.layout.now.nest c.args.layout.now.sized.accepted loop.t _ _ _
            box_of.ensures.0 (omega (arith, tiles-of.ensures.0, loop-test.true)) c.owner_at-owner.ensures.1.1,
      ),
    )

pub returns : goal.returns
returns c = L.owned_end _ c.args.layout.now.sized.accepted _ _ c.loop-t.invariant.0 (omega (arith, c.tiles_of-n.ensures.0, c.loop-t-test.false))
