-- By the slot, which is the sender's.
use Rattle.schedule.proofs.Telling as telling
use Rattle.schedule.proofs.sender_at.Goals as goal

pub nonzero_div-result : goal.nonzero_div-result
nonzero_div-result c =
    let A = c.args in let w = telling.ways_some A.table.now.layout.nest A.table.now.layout.sizes.route A.place c.requires
    A.table.now.layout.sizes.ways c.args.table.now.layout.sized.ways c.args.table.now.tabled.routed in w

pub returns : goal.returns
returns c =
    let A = c.args in telling.sender_is A.table.now.layout.nest A.table.now.layout.sizes.route A.place c.requires A.table.now.layout.sizes.ways
    c.args.table.now.layout.sized.ways c.args.table.now.tabled.routed
