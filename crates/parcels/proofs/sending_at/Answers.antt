-- `parcels::sending_at` meets its contract.
use Rattle.layout.proofs.Steps.{way_low}
use Rattle.parcels.proofs.Sendings.{headed}
use Rattle.parcels.proofs.sending_at.Goals as goal

pub along_of-ahead-requires : goal.along_of-ahead-requires
along_of-ahead-requires c = way_low _ c.args.layout.now.sized.accepted c.args.layout.now.sizes.route _ c.args.layout.now.sized.ways c.args.slot

pub sending_of-requires : goal.sending_of-requires
sending_of-requires c = headed c.args.layout.now.sizes.route _ _ _ _ _ c.args.layout.now.sized.ways c.requires c.place_of_tile-at.ensures
    c.along_of-ahead.ensures
