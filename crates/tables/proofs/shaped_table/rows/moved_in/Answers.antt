-- `tables::shaped_table::rows::moved_in` meets its contract: in the first j dimensions the tiles of the row have one a move before them.
use mathlib.Core.Path.{refl}
use native.Mathlib.Omega.{arith}
use Rattle.tables.proofs.shaped_table.Lines as L
use Rattle.tables.proofs.shaped_table.Moves as M
use Rattle.tables.proofs.shaped_table.rows.moved_in.Goals as goal

pub overflow_sub-last : goal.overflow_sub-last
overflow_sub-last c = omega (arith, c.args.layout.now.sized.accepted.dimensions_least)

pub loop-j-init : goal.loop-j-init
loop-j-init c = (omega arith, λ i h. absurd (omega arith))

pub offset_bounds-at-j : goal.offset_bounds-at-j
offset_bounds-at-j c = omega (arith, c.loop-j-test.true, c.args.layout.now.sized.accepted.dimensions_least, c.args.layout.now.sized.accepted.dimensions_most)

pub bounds-at-j : goal.bounds-at-j
bounds-at-j c = omega (arith, c.loop-j-test.true, c.args.layout.now.sized.accepted.dimensions_least, c.args.layout.now.sized.accepted.dimensions_most)

pub offset_bounds-steps-j : goal.offset_bounds-steps-j
offset_bounds-steps-j c = omega (arith, c.loop-j-test.true, c.args.layout.now.sized.accepted.dimensions_least, c.args.layout.now.sized.accepted.dimensions_most)

pub bounds-steps-j : goal.bounds-steps-j
bounds-steps-j c = omega (arith, c.loop-j-test.true, c.args.layout.now.sized.accepted.dimensions_least, c.args.layout.now.sized.accepted.dimensions_most)

pub offset_bounds-tiling-j : goal.offset_bounds-tiling-j
offset_bounds-tiling-j c = omega (arith, c.loop-j-test.true, c.args.layout.now.sized.accepted.dimensions_least, c.args.layout.now.sized.accepted.dimensions_most)

pub bounds-tiling-j : goal.bounds-tiling-j
bounds-tiling-j c = omega (arith, c.loop-j-test.true, c.args.layout.now.sized.accepted.dimensions_least, c.args.layout.now.sized.accepted.dimensions_most)

pub offset_bounds-lengths-j : goal.offset_bounds-lengths-j
offset_bounds-lengths-j c = omega (arith, c.loop-j-test.true, c.args.layout.now.sized.accepted.dimensions_least, c.args.layout.now.sized.accepted.dimensions_most)

pub bounds-lengths-j : goal.bounds-lengths-j
bounds-lengths-j c = omega (arith, c.loop-j-test.true, c.args.layout.now.sized.accepted.dimensions_least, c.args.layout.now.sized.accepted.dimensions_most)

pub behind-requires : goal.behind-requires
behind-requires c =
    let ok = c.args.layout.now.sized.accepted in
    (c.requires.1 _ (omega (arith, c.loop-j-test.true, ok.dimensions_least, ok.dimensions_most)), ok.tile_most _)

pub returns-then-not-behind : goal.returns-then-not-behind
returns-then-not-behind c = M.moved_none c.args.layout.now.nest c.args.layout.now.sized.accepted _ _

pub overflow_step-j : goal.overflow_step-j
overflow_step-j c = omega (arith, c.loop-j-test.true, c.args.layout.now.sized.accepted.dimensions_least, c.args.layout.now.sized.accepted.dimensions_most)

pub loop-j-smaller : goal.loop-j-smaller
loop-j-smaller c = omega (arith, c.loop-j-test.true)

pub loop-j-preserved : goal.loop-j-preserved
loop-j-preserved c = (
  omega (arith, c.loop-j-test.true),
  M.behind_more c.args.at c.args.steps c.args.layout.now.nest.tiling c.args.layout.now.nest.lengths _
      c.loop-j.invariant.1 (c.behind.ensures c.if-not-behind.false),
)

pub offset_bounds-steps-last : goal.offset_bounds-steps-last
offset_bounds-steps-last c = omega (arith, c.args.layout.now.sized.accepted.dimensions_least, c.args.layout.now.sized.accepted.dimensions_most)

pub bounds-steps-last : goal.bounds-steps-last
bounds-steps-last c = omega (arith, c.args.layout.now.sized.accepted.dimensions_least, c.args.layout.now.sized.accepted.dimensions_most)

pub offset_bounds-across-last : goal.offset_bounds-across-last
offset_bounds-across-last c = omega (arith, c.args.layout.now.sized.accepted.dimensions_least, c.args.layout.now.sized.accepted.dimensions_most)

pub bounds-across-last : goal.bounds-across-last
bounds-across-last c = omega (arith, c.args.layout.now.sized.accepted.dimensions_least, c.args.layout.now.sized.accepted.dimensions_most)

pub returns-then-steps-last-eq0 : goal.returns-then-steps-last-eq0
returns-then-steps-last-eq0 c =
    M.moved_straight c.args.layout.now.nest c.args.layout.now.sized.accepted _ _ c.requires.0
    (λ j h. c.loop-j.invariant.1 j (omega (arith, c.loop-j-test.false))) _
    (c.args.layout.now.sized.across _ (L.inner c.args.layout.now.nest c.args.layout.now.sized.accepted)) c.if-steps-last-eq0.true

pub offset_bounds-lengths-last : goal.offset_bounds-lengths-last
offset_bounds-lengths-last c = omega (arith, c.args.layout.now.sized.accepted.dimensions_least, c.args.layout.now.sized.accepted.dimensions_most)

pub bounds-lengths-last : goal.bounds-lengths-last
bounds-lengths-last c = omega (arith, c.args.layout.now.sized.accepted.dimensions_least, c.args.layout.now.sized.accepted.dimensions_most)

pub offset_bounds-tiling-last : goal.offset_bounds-tiling-last
offset_bounds-tiling-last c = omega (arith, c.args.layout.now.sized.accepted.dimensions_least, c.args.layout.now.sized.accepted.dimensions_most)

pub bounds-tiling-last : goal.bounds-tiling-last
bounds-tiling-last c = omega (arith, c.args.layout.now.sized.accepted.dimensions_least, c.args.layout.now.sized.accepted.dimensions_most)

pub offset_bounds-lengths-last-2 : goal.offset_bounds-lengths-last-2
offset_bounds-lengths-last-2 c = omega (arith, c.args.layout.now.sized.accepted.dimensions_least, c.args.layout.now.sized.accepted.dimensions_most)

pub bounds-lengths-last-2 : goal.bounds-lengths-last-2
bounds-lengths-last-2 c = omega (arith, c.args.layout.now.sized.accepted.dimensions_least, c.args.layout.now.sized.accepted.dimensions_most)

pub places_in-requires : goal.places_in-requires
places_in-requires c = (
  c.args.layout.now.sized.accepted.tiled _ (L.inner c.args.layout.now.nest c.args.layout.now.sized.accepted),
  (c.args.layout.now.sized.accepted.tile_most _, (c.args.layout.now.sized.accepted.length_most _, (omega arith, omega arith))),
)

pub returns : goal.returns
returns c =
    M.moved_aslant c.args.layout.now.nest c.args.layout.now.sized.accepted _ _ c.requires.0
    (λ j h. c.loop-j.invariant.1 j (omega (arith, c.loop-j-test.false))) _ _ _ refl refl c.places_in.ensures
