-- `put_sides` meets its contract: the ways passed.
use native.Mathlib.Omega.{arith}
use Rattle.part.proofs.Handling as handling
use Rattle.base.proofs.Stored as stored
use Rattle.part.specs.Marking.{side_of}
use Rattle.part.proofs.Chains as chains
use Rattle.part.proofs.put_sides.Goals as goal

pub processor_of-requires : goal.processor_of-requires
processor_of-requires c = c.requires.0

pub same_as-from-requires : goal.same_as-from-requires
same_as-from-requires c = tt

pub loop-w-init : goal.loop-w-init
loop-w-init c = stored.store_start (side_of c.args.layout.now.sizes.route c.args.layout.now.nest c.args.b c.args.tile) c.args.row.now

pub along_of-along-requires : goal.along_of-along-requires
along_of-along-requires c =
    let loop = c.loop-w in
    let test = c.loop-w-test.true in
    omega (arith, test, loop.invariant.long, c.requires.1)

pub ahead_of-requires : goal.ahead_of-requires
ahead_of-requires c =
    let loop = c.loop-w in
    let test = c.loop-w-test.true in (
      c.args.layout.now.sized.accepted,
      chains.step_small c.args.layout.now.sizes.route c.args.layout.now.nest c.args.layout.now.sized.accepted c.args.b c.args.tile loop.w
          c.place_of_tile-at.result c.along_of-along.result
          c.place_of_tile-at.ensures c.along_of-along.ensures,
    )

pub same_as-requires : goal.same_as-requires
same_as-requires c = tt

pub overflow_mul-side : goal.overflow_mul-side
overflow_mul-side c = omega (arith, handling.at_most _ c.same_as.result c.same_as.ensures)

pub overflow_add-side : goal.overflow_add-side
overflow_add-side c =
    omega (
      arith,
      handling.at_most _ c.same_as.result c.same_as.ensures,
      handling.at_most _ c.same_as-from.result c.same_as-from.ensures,
    )

pub bounds-row-w : goal.bounds-row-w
bounds-row-w c =
    let loop = c.loop-w in
    let test = c.loop-w-test.true in
    omega (arith, test, loop.invariant.long)

pub loop-w-smaller : goal.loop-w-smaller
loop-w-smaller c =
    let loop = c.loop-w in
    let test = c.loop-w-test.true in
    omega (arith, test, loop.invariant.long)

pub loop-w-preserved : goal.loop-w-preserved
loop-w-preserved c =
    let loop = c.loop-w in
    let test = c.loop-w-test.true in
    let processor-of = c.processor_of in
    let ahead_of = c.ahead_of in
    stored.store_next (side_of c.args.layout.now.sizes.route c.args.layout.now.nest c.args.b c.args.tile) c.args.row.now loop.row loop.w _ loop.invariant
    (omega (arith, test, loop.invariant.long))
    (chains.side_is c.args.layout.now.sizes.route c.args.layout.now.nest c.args.layout.now.sized.accepted c.args.b c.args.tile loop.w
    c.place_of_tile-at.result c.along_of-along.result
    c.place_of_tile-at.ensures c.along_of-along.ensures
    processor-of.result c.same_as-from.result ahead_of.result c.same_as.result
    processor-of.ensures.0 c.same_as-from.ensures
    ahead_of.ensures c.same_as.ensures)

pub shape_of-row : goal.shape_of-row
shape_of-row c = c.loop-w.invariant.long

pub returns : goal.returns
returns c =
    let loop = c.loop-w in
    stored.stored_all (side_of c.args.layout.now.sizes.route c.args.layout.now.nest c.args.b c.args.tile) c.args.row.now loop.row loop.w _ loop.invariant
    c.requires.1 (omega (arith, c.loop-w-test.false, loop.invariant.long, c.requires.1))
