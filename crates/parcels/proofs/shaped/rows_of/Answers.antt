-- `parcels::shaped::rows_of` meets its contract.
use native.Mathlib.Omega.{arith}
use Rattle.parcels.proofs.shaped.Listing as L
use Rattle.parcels.proofs.shaped.rows_of.Goals as goal

pub overflow_mul-slot : goal.overflow_mul-slot
overflow_mul-slot c =
    omega (
      arith,
      (L.slot_fits c.args.layout.now.sizes.route c.args.layout.now.nest c.args.layout.now.sizes.ways c.args.layout.now.sized.ways c.args.tile
          c.args.way c.requires.sized.1.0 (rw c.requires.sized.0 c.requires.sized.1.1) c.args.layout.now.sized.accepted).0,
    )

pub overflow_add-slot : goal.overflow_add-slot
overflow_add-slot c =
    omega (
      arith,
      (L.slot_fits c.args.layout.now.sizes.route c.args.layout.now.nest c.args.layout.now.sizes.ways c.args.layout.now.sized.ways c.args.tile
          c.args.way c.requires.sized.1.0 (rw c.requires.sized.0 c.requires.sized.1.1) c.args.layout.now.sized.accepted).1,
    )

pub along_of-ahead-requires : goal.along_of-ahead-requires
along_of-ahead-requires c = rw c.requires.sized.0 c.requires.sized.1.1

pub sending_of-sending-requires : goal.sending_of-sending-requires
sending_of-sending-requires c = L.slot_headed c.args.layout.now.sizes.route _ _ c.args.layout.now.sized.ways _ _ c.requires.sized.1.0
    (rw c.requires.sized.0 c.requires.sized.1.1) _ _ c.requires.farthest.1 c.along_of-ahead.ensures

pub near-requires : goal.near-requires
near-requires c = (c.args.layout.now.sized.accepted, (c.sending_of-sending.ensures.shape, c.requires.farthest.0))

pub returns : goal.returns
returns c =
    L.rows_are _ c.args.layout.now.sized.accepted c.args.layout.now.sizes.route c.requires.sized.0 _ _ _ c.args.layout.now.sized.ways
    c.requires.sized.1.0 c.requires.sized.1.1 _ c.sending_of-sending.ensures _ c.near.ensures
