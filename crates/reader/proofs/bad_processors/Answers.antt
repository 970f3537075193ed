-- `reader::bad_processors` meets its contract: the product of the counts against 64.
use Rattle.nest.proofs.Laws as L
use Rattle.reader.proofs.bad_processors.Goals as goal

pub returns : goal.returns
returns c = L.more_than_64 c.args.nest _ c.product_of.ensures
