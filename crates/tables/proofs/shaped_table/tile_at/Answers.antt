-- `tables::shaped_table::tile_at` meets its contract: not among the first t tiles.
use mathlib.Core.Path.{sym, ◌∙◌}
use mathlib.Core.Logic.{inl, inr}
use Rattle.tables.proofs.scans.Laws.{not_yet}
use native.Mathlib.Omega.{arith}
use Rattle.tables.proofs.shaped_table.Laws as L
use Rattle.tables.proofs.shaped_table.tile_at.Goals as goal
use Rattle.tables.proofs.shaped_table.tile_at.Goals.{then-owner-processor+else-count-finished, else-owner-processor}

pub tiles_of-n-requires : goal.tiles_of-n-requires
tiles_of-n-requires c = (c.requires.accepted.0, c.requires.accepted.1.owned.tiled)

pub loop-t-init : goal.loop-t-init
loop-t-init c = (omega arith, (omega arith, L.own_start _ c.requires.accepted.0 _))

pub owner_of-owner-requires : goal.owner_of-owner-requires
owner_of-owner-requires c = (
  c.requires.accepted.0,
  (
    c.requires.accepted.1.owned,
    omega (
      arith,
      c.tiles_of-n.ensures.0,
      c.loop-t-test.true,
    ),
  ),
)

pub returns-then-count-finished : goal.returns-then-count-finished
returns-then-count-finished c =
    L.own_found _ c.requires.accepted.0 _ _ _ _ (omega (arith, c.tiles_of-n.ensures.0, c.loop-t-test.true)) c.loop-t.invariant.1.1
    c.if-count-finished.true (sym c.owner_of-owner.ensures.0 ∙ c.if-owner-processor.true)

pub overflow_add-count : goal.overflow_add-count
overflow_add-count c = omega (arith, c.loop-t.invariant.1.0)

pub overflow_step-t : goal.overflow_step-t
overflow_step-t c = omega (arith, c.loop-t-test.true, c.tiles_of-n.ensures.1)

pub loop-t-smaller : goal.loop-t-smaller
loop-t-smaller c = omega (arith, c.loop-t-test.true)

pub loop-t-preserved : goal.loop-t-preserved
loop-t-preserved c = (
  omega (arith, c.loop-t-test.true),
  (
    elim c.if-owner-processor.branch [ then-owner-processor+else-count-finished w ↦ not_yet _ _ _ c.loop-t.invariant.1.0 w.if-count-finished.false w.count-is | else-owner-processor w ↦ omega (arith, w.count-is, c.loop-t.invariant.1.0) ],
    L.own_turn _ c.requires.accepted.0 _ _ _ _ _ c.loop-t.invariant.1.1
        c.owner_of-owner.ensures.0 (elim c.if-owner-processor.branch [ then-owner-processor+else-count-finished w ↦ inl (w.if-owner-processor.true, w.count-is) | else-owner-processor w ↦ inr (w.if-owner-processor.false, w.count-is) ]),
  ),
)

pub unreachable-requires : goal.unreachable-requires
unreachable-requires c =
    (L.own_nowhere _ c.requires.accepted.0 _ _ _ _ (omega (arith, c.loop-t.invariant.0, c.tiles_of-n.ensures.0))
    (omega (arith, c.loop-t-test.false, c.tiles_of-n.ensures.0)) c.loop-t.invariant.1.1 c.loop-t.invariant.1.0
    c.requires.finished_in_bounds)
