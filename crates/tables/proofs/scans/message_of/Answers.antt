-- `tables::scans::message_of` meets its contract.
use Rattle.tables.proofs.scans.Laws as L
use Rattle.tables.proofs.scans.message_of.Goals as goal

pub returns : goal.returns
returns c =
    λ f n h l full. L.found_here f n c.args.slot _ _ _ (c.sums_to-before.ensures.1.1 f (L.shorter f n c.args.slot c.args.lens.now l h))
    l (h.each c.args.slot l) full
