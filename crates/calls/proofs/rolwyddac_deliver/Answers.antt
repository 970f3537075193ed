-- `rolwyddac_deliver` meets its contract: what the call over words gave, at the words of the records.
use Rattle.records.specs.Records.{flat_words}
use Rattle.calls.proofs.rolwyddac_deliver.Goals as goal

pub returns : goal.returns
returns c =
    rw c.number_of.ensures (c.deliver.ensures (flat_words c.args.progress.now) c.flatten-flat.ensures)
