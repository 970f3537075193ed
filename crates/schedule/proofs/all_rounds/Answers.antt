-- The messages listed and chained, then the rounds.
use mathlib.Core.Path.{refl}
use Rattle.schedule.proofs.all_rounds.Goals as goal

pub list-messages-requires : goal.list-messages-requires
list-messages-requires c = refl

pub chain_ends-requires : goal.chain_ends-requires
chain_ends-requires c =
    let list = c.list-messages in
    record { planned = (list.ensures.1, refl); messages_value = list.ensures.0 }

pub chain_ends-requires-2 : goal.chain_ends-requires-2
chain_ends-requires-2 c =
    let list = c.list-messages in
    record { planned = (list.ensures.1, refl); messages_value = list.ensures.0 }

pub rounds_by-requires : goal.rounds_by-requires
rounds_by-requires c =
    let list = c.list-messages in
    let chain-ends = c.chain_ends in
    let chain-ends2 = c.chain_ends-2 in record {
      indexed = (
        record {
          listed = list.ensures.1;
          by_sender = chain-ends.ensures;
          by_taker = chain-ends2.ensures;
          few =
              list.ensures.1.few;
        },
        c.requires.planned,
      );
      status_value = c.requires.status_value;
    }

pub returns : goal.returns
returns c =
    let rounds-by = c.rounds_by in
    rounds-by.ensures
