-- `part_calls::front::prepare` meets its contract.
use Rattle.part_calls.proofs.front.Front as front
use Rattle.part_calls.proofs.front.prepare.Goals as goal

pub fill_handled-requires : goal.fill_handled-requires
fill_handled-requires c = record { b_bound = rw c.of-table.ensures c.requires.low; ordinals_len = c.requires.lengths.1 }

pub returns-clause-known : goal.returns-clause-known
returns-clause-known c =
    let A = c.args in
    let totals = c.totals-messages in (
      front.known c.of-table.result A.b _ _ totals.result.messages (rw c.of-table.ensures c.requires.low) totals.ensures.0 totals.ensures.1.1.0
          c.fill_handled.ensures,
      totals.ensures.0,
    )
