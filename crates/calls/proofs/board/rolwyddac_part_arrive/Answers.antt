-- `rolwyddac_part_arrive` meets its contract: what the call over words gave, at the words of the records.
use Rattle.records.specs.Records.{flat_words}
use Rattle.calls.proofs.board.rolwyddac_part_arrive.Goals as goal

pub returns : goal.returns
returns c = c.arrive.ensures (flat_words c.args.progress.now) c.flatten-flat.ensures
