-- `rolwyddac_take_in` meets its contract: what the call over words gave, at the words of the records.
use Rattle.records.specs.Records.{flat_words}
use Rattle.calls.proofs.carrier.rolwyddac_take_in.Goals as goal

pub returns : goal.returns
returns c = rw c.number_of.ensures (c.take_in.ensures (flat_words c.args.progress.now) c.flatten-flat.ensures)
