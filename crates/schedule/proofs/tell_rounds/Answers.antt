-- The messages listed and chained, then the tiles.
use mathlib.Core.Path.{refl}
use Rattle.schedule.proofs.tell_rounds.Goals as goal

pub list-messages-requires : goal.list-messages-requires
list-messages-requires c = refl

pub chain_ends-requires : goal.chain_ends-requires
chain_ends-requires c =
    let list = c.list-messages in
    record { planned = (list.ensures.1, refl); messages_value = list.ensures.0 }

pub tell_by-requires : goal.tell_by-requires
tell_by-requires c =
    let list = c.list-messages in
    (record { listed = list.ensures.1; by_taker = c.chain_ends.ensures; all = list.ensures.0 }, c.requires)

pub returns : goal.returns
returns c = c.tell_by.ensures
