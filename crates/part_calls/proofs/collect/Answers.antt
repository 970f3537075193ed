-- `part_calls::collect` meets its contract.
use Rattle.part_calls.proofs.collect.Goals as goal

pub collect-requires : goal.collect-requires
collect-requires c =
    let flat-of = c.flat_of in
    flat-of.ensures.room

pub returns : goal.returns
returns c =
    let collect = c.collect in
    let flat-of = c.flat_of in
    let A = c.args in
    collect.ensures A.progress.now flat-of.ensures
