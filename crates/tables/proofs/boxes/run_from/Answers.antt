-- `tables::boxes::run_from` meets its contract: the dimensions from j on allow no tile back.
use native.Mathlib.Omega.{arith}
use Prim.Native.Nat.{◌-◌}
use native.Mathlib.Nat.{mod-lt}
use lib.ListN.{get_or}
use Rattle.plan.proofs.Tiles.{tile_count_pos}
use Rattle.layout.proofs.Cells.{count_most, box_few}
use Rattle.tables.proofs.boxes.Runs as R
use Rattle.tables.proofs.boxes.run_from.Goals as goal

pub nonzero_rem-rest : goal.nonzero_rem-rest
nonzero_rem-rest c =
    let loop = c.loop-j in
    let loop-test = c.loop-j-test in
    omega (
      arith,
      c.args.layout.now.sized.across (loop.j - 1) (omega (arith, loop-test.true, loop.invariant.low)),
      tile_count_pos _ c.args.layout.now.sized.accepted (loop.j - 1) (omega (arith, loop-test.true, loop.invariant.low)),
    )

pub places_like-places-requires : goal.places_like-places-requires
places_like-places-requires c =
    let loop = c.loop-j in
    let loop-test = c.loop-j-test in (
      omega (
        arith,
        c.args.layout.now.sized.across (loop.j - 1) (omega (arith, loop-test.true, loop.invariant.low)),
        count_most _ c.args.layout.now.sized.accepted (loop.j - 1) (omega (arith, loop-test.true, loop.invariant.low)),
        mod-lt loop.rest {m = get_or c.args.layout.now.sizes.across (loop.j - 1) 0}
            (omega (
              arith,
              c.args.layout.now.sized.across (loop.j - 1) (omega (arith, loop-test.true, loop.invariant.low)),
              tile_count_pos _
                  c.args.layout.now.sized.accepted (loop.j - 1) (omega (arith, loop-test.true, loop.invariant.low)),
            )),
      ),
      (
        c.args.layout.now.sized.accepted.tiled (loop.j - 1) (omega (arith, loop-test.true, loop.invariant.low)),
        c.args.layout.now.sized.accepted.length_most (loop.j - 1),
      ),
    )

pub overflow_add-result : goal.overflow_add-result
overflow_add-result c =
    omega (
      arith,
      R.running_low _ _ _ _ _ _ c.loop-j.invariant,
      c.requires,
      box_few _ c.args.layout.now.sized.accepted,
      c.places_like-places.ensures.few,
    )

pub overflow_mul-result : goal.overflow_mul-result
overflow_mul-result c =
    omega (
      arith,
      R.run_room c.args.layout.now.sizes.route _ c.args.layout.now.sized.accepted _ c.requires c.args.layout.now.sizes.across
          (record { each = c.args.layout.now.sized.across }) _ c.two_before-two.ensures _ _ _ c.loop-j.invariant c.loop-j-test.true _
          c.places_like-places.ensures c.if-places-gt0.true,
    )

pub returns-then-places-gt0 : goal.returns-then-places-gt0
returns-then-places-gt0 c = (
  R.run_is c.args.layout.now.sizes.route _ c.args.layout.now.sized.accepted _ c.requires c.args.layout.now.sizes.across (record { each = c.args.layout.now.sized.across })
      _ c.two_before-two.ensures _ _ _ c.loop-j.invariant c.loop-j-test.true _ c.places_like-places.ensures c.if-places-gt0.true,
  omega (
    arith,
    R.run_over c.args.layout.now.sizes.route _ c.args.layout.now.sized.accepted _ c.requires c.args.layout.now.sizes.across (record { each = c.args.layout.now.sized.across })
        _ c.two_before-two.ensures _ _ _ c.loop-j.invariant c.loop-j-test.true _ c.places_like-places.ensures c.if-places-gt0.true,
  ),
)

pub nonzero_div-rest : goal.nonzero_div-rest
nonzero_div-rest c =
    let loop = c.loop-j in
    let loop-test = c.loop-j-test in
    omega (
      arith,
      c.args.layout.now.sized.across (loop.j - 1) (omega (arith, loop-test.true, loop.invariant.low)),
      tile_count_pos _ c.args.layout.now.sized.accepted (loop.j - 1) (omega (arith, loop-test.true, loop.invariant.low)),
    )

pub overflow_mul-stride : goal.overflow_mul-stride
overflow_mul-stride c =
    let loop = c.loop-j in
    let loop-test = c.loop-j-test in
    omega (
      arith,
      R.stride_few c.args.layout.now.sizes.route _ c.args.layout.now.sized.accepted _ c.requires c.args.layout.now.sizes.across
          (record { each = c.args.layout.now.sized.across }) _ _ _
          (R.running_more _ _ _ _ _ _ loop.invariant loop-test.true (omega (
            arith,
            c.args.layout.now.sized.across (loop.j - 1) (omega (arith, loop-test.true, loop.invariant.low)),
            tile_count_pos _ c.args.layout.now.sized.accepted
                (loop.j - 1) (omega (arith, loop-test.true, loop.invariant.low)),
          ))),
    )

pub loop-j-preserved : goal.loop-j-preserved
loop-j-preserved c =
    let loop = c.loop-j in
    let loop-test = c.loop-j-test in
    R.running_more _ _ _ _ _ _ loop.invariant loop-test.true
    (omega (
      arith,
      c.args.layout.now.sized.across (loop.j - 1) (omega (arith, loop-test.true, loop.invariant.low)),
      tile_count_pos _ c.args.layout.now.sized.accepted
          (loop.j - 1) (omega (arith, loop-test.true, loop.invariant.low)),
    ))
