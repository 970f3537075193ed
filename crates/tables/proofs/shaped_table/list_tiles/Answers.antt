-- `tables::shaped_table::list_tiles` meets its contract: the tiles among the first u that are marked are listed.
use mathlib.Core.Path.{sym, ◌∙◌}
use mathlib.Core.Logic.{inl, inr}
use Rattle.nest.proofs.Shapes.{box_tiles_most}
use native.Mathlib.Omega.{arith}
use Rattle.tables.proofs.shaped_table.Laws as L
use Rattle.tables.proofs.shaped_table.list_tiles.Goals as goal
use Rattle.tables.proofs.shaped_table.list_tiles.Goals.{then-is_marked, else-is_marked}

pub loop-u-init : goal.loop-u-init
loop-u-init c = L.listing_none _ c.args.layout.now.sized.accepted _ c.requires.1

pub is_marked-requires : goal.is_marked-requires
is_marked-requires c = (
  c.args.layout.now.sized.accepted,
  (c.requires.0, omega (arith, c.loop-u-test.true, c.args.layout.now.sized.tiles)),
)

pub overflow_cast-lens : goal.overflow_cast-lens
overflow_cast-lens c = omega (arith, c.loop-u-test.true, c.args.layout.now.sized.tiles, box_tiles_most _ c.args.layout.now.sized.accepted)

pub overflow_add-lens : goal.overflow_add-lens
overflow_add-lens c =
    omega (
      arith,
      c.loop-u.invariant.tiled.long,
      L.listing_room _ c.args.layout.now.sized.accepted _ _ _ c.loop-u.invariant
          (omega (arith, c.loop-u-test.true, c.args.layout.now.sized.tiles)) (sym c.is_marked.ensures ∙ c.if-is_marked.true),
    )

pub offset_bounds-lens-count : goal.offset_bounds-lens-count
offset_bounds-lens-count c =
    omega (
      arith,
      c.loop-u.invariant.tiled.long,
      L.listing_room _ c.args.layout.now.sized.accepted _ _ _ c.loop-u.invariant
          (omega (arith, c.loop-u-test.true, c.args.layout.now.sized.tiles)) (sym c.is_marked.ensures ∙ c.if-is_marked.true),
    )

pub bounds-lens-count : goal.bounds-lens-count
bounds-lens-count c =
    omega (
      arith,
      c.loop-u.invariant.tiled.long,
      L.listing_room _ c.args.layout.now.sized.accepted _ _ _ c.loop-u.invariant
          (omega (arith, c.loop-u-test.true, c.args.layout.now.sized.tiles)) (sym c.is_marked.ensures ∙ c.if-is_marked.true),
    )

pub overflow_add-count : goal.overflow_add-count
overflow_add-count c =
    omega (
      arith,
      c.loop-u.invariant.tiled.long,
      L.listing_room _ c.args.layout.now.sized.accepted _ _ _ c.loop-u.invariant
          (omega (arith, c.loop-u-test.true, c.args.layout.now.sized.tiles)) (sym c.is_marked.ensures ∙ c.if-is_marked.true),
    )

pub overflow_step-u : goal.overflow_step-u
overflow_step-u c = omega (arith, c.loop-u-test.true, c.args.layout.now.sized.tiles, box_tiles_most _ c.args.layout.now.sized.accepted)

pub loop-u-smaller : goal.loop-u-smaller
loop-u-smaller c = omega (arith, c.loop-u-test.true)

pub loop-u-preserved : goal.loop-u-preserved
loop-u-preserved c =
    L.listing_turn _ c.args.layout.now.sized.accepted _ _ _ c.loop-u.invariant (omega (arith, c.loop-u-test.true, c.args.layout.now.sized.tiles)) _
    c.is_marked.ensures _ _ (elim c.if-is_marked.branch [ then-is_marked w ↦ inl (w.if-is_marked.true, w.lens-is, w.count-is) | else-is_marked w ↦ inr (w.if-is_marked.false, w.lens-is, w.count-is) ])

pub overflow_cast-lens-2 : goal.overflow_cast-lens-2
overflow_cast-lens-2 c =
    omega (
      arith,
      (L.listing_end _ c.args.layout.now.sized.accepted _ _ _ _ c.loop-u.invariant c.args.layout.now.sized.tiles
          c.loop-u-test.false).0,
    )

pub bounds-lens-9216 : goal.bounds-lens-9216
bounds-lens-9216 c = omega (arith, c.loop-u.invariant.tiled.long)

pub returns : goal.returns
returns c =
    (L.listing_end _ c.args.layout.now.sized.accepted _ _ _ _ c.loop-u.invariant c.args.layout.now.sized.tiles
    c.loop-u-test.false).1
