-- `tables::shaped_table::tile_count` meets its contract: how many of the first t tiles.
use mathlib.Core.Logic.{inl, inr}
use Rattle.base.proofs.Select.{those_few}
use Rattle.plan.specs.Geometry.{processor_of}
use Rattle.plan.specs.Shaped.{box_tile}
use native.Mathlib.Omega.{arith}
use Rattle.tables.proofs.shaped_table.Laws as L
use Rattle.tables.proofs.shaped_table.tile_count.Goals as goal
use Rattle.tables.proofs.shaped_table.tile_count.Goals.{then-owner-processor, else-owner-processor}

pub tiles_of-n-requires : goal.tiles_of-n-requires
tiles_of-n-requires c = (c.requires.0, c.requires.1.owned.tiled)

pub loop-t-init : goal.loop-t-init
loop-t-init c = (omega arith, L.own_start _ c.requires.0 _)

pub owner_of-owner-requires : goal.owner_of-owner-requires
owner_of-owner-requires c = (
  c.requires.0,
  (
    c.requires.1.owned,
    omega (
      arith,
      c.tiles_of-n.ensures.0,
      c.loop-t-test.true,
    ),
  ),
)

pub overflow_add-count : goal.overflow_add-count
overflow_add-count c =
    omega (
      arith,
      c.loop-t.invariant.1,
      those_few (λ i. processor_of c.args.nest (box_tile c.args.nest i)) c.args.processor
          c.loop-t.t,
      c.loop-t-test.true,
      c.tiles_of-n.ensures.1,
    )

pub overflow_step-t : goal.overflow_step-t
overflow_step-t c = omega (arith, c.loop-t-test.true, c.tiles_of-n.ensures.1)

pub loop-t-smaller : goal.loop-t-smaller
loop-t-smaller c = omega (arith, c.loop-t-test.true)

pub loop-t-preserved : goal.loop-t-preserved
loop-t-preserved c = (
  omega (arith, c.loop-t-test.true),
  L.own_turn _ c.requires.0 _ _ _ _ _ c.loop-t.invariant.1 c.owner_of-owner.ensures.0
      (elim c.if-owner-processor.branch [ then-owner-processor w ↦ inl (w.if-owner-processor.true, w.count-is) | else-owner-processor w ↦ inr (w.if-owner-processor.false, w.count-is) ]),
)

pub returns : goal.returns
returns c =
    L.own_end _ c.requires.0 _ _ _ (omega (arith, c.loop-t.invariant.0, c.tiles_of-n.ensures.0))
    (omega (arith, c.loop-t-test.false, c.tiles_of-n.ensures.0)) c.loop-t.invariant.1
