-- `rolwyddac_awaited` meets its contract: what the call over words gave, at the words of the records.
use Rattle.records.specs.Records.{flat_words}
use Rattle.calls.proofs.carrier.rolwyddac_awaited.Goals as goal

pub returns : goal.returns
returns c = c.awaited.ensures (flat_words c.args.progress.now) c.flatten-flat.ensures
