-- `parcels::parcel_length` meets its contract: the cells found in the first r rows of the box are counted.
use native.Mathlib.Omega.{arith}
use native.Mathlib.Nat.{zero-mul, mul-le-mul_right}
use mathlib.Core.Path.{refl, sym}
use Rattle.layout.proofs.Steps.{way_low}
use Rattle.parcels.proofs.Walks.{measure_none, measure_few}
use Rattle.parcels.proofs.Rows.{size_few}
use Rattle.parcels.proofs.Alike.{measure_alike}
use Rattle.parcels.proofs.Sendings.{headed, measured}
use Rattle.parcels.proofs.parcel_length.Goals as goal

pub along_of-ahead-requires : goal.along_of-ahead-requires
along_of-ahead-requires c = way_low _ c.args.layout.now.sized.accepted c.args.layout.now.sizes.route _
    c.args.layout.now.sized.ways c.args.slot

pub idle-requires : goal.idle-requires
idle-requires c = headed c.args.layout.now.sizes.route _ _ _ _ _ c.args.layout.now.sized.ways c.requires c.place_of_tile-at.ensures
    c.along_of-ahead.ensures

pub returns-then-idle : goal.returns-then-idle
returns-then-idle c = (sym (c.idle.ensures.none c.if-idle.true), omega arith)

pub sending_of-sending-requires : goal.sending_of-sending-requires
sending_of-sending-requires c = headed c.args.layout.now.sizes.route _ _ _ _ _ c.args.layout.now.sized.ways c.requires c.place_of_tile-at.ensures
    c.along_of-ahead.ensures

pub loop-r-init : goal.loop-r-init
loop-r-init c = rw (zero-mul c.sending_of-sending.result.width) (measure_none _ _)

pub row_at-row-requires : goal.row_at-row-requires
row_at-row-requires c = (c.args.layout.now.sized.accepted, (record { is = refl }, (c.sending_of-sending.ensures.shape, c.loop-r-test.true)))

pub overflow_mul-count : goal.overflow_mul-count
overflow_mul-count c =
    omega (
      arith,
      measure_few _ _ _ _ (measure_alike _ _ _ _ c.row_at-row.ensures _ c.loop-r.invariant),
      size_few _ c.args.layout.now.sized.accepted _
          c.sending_of-sending.ensures.shape,
    )

pub overflow_add-count : goal.overflow_add-count
overflow_add-count c =
    omega (
      arith,
      measure_few _ _ _ _ (measure_alike _ _ _ _ c.row_at-row.ensures _ c.loop-r.invariant),
      size_few _ c.args.layout.now.sized.accepted _
          c.sending_of-sending.ensures.shape,
    )

pub loop-r-preserved : goal.loop-r-preserved
loop-r-preserved c = measure_alike _ _ _ _ c.row_at-row.ensures _ c.loop-r.invariant

pub returns : goal.returns
returns c =
    measured _ _ _ _ c.sending_of-sending.ensures c.args.layout.now.sized.accepted (c.idle.ensures.all c.if-idle.false) _ _
    c.loop-r.invariant (mul-le-mul_right c.sending_of-sending.result.width c.loop-r-test.false)
