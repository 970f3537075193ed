-- `part_calls::arrive` meets its contract.
use Rattle.part_calls.proofs.arrive.Goals as goal

pub arrive-requires : goal.arrive-requires
arrive-requires c =
    let flat-of = c.flat_of in
    flat-of.ensures.room

pub returns : goal.returns
returns c =
    let arrive = c.arrive in
    let flat-of = c.flat_of in
    let A = c.args in
    arrive.ensures A.progress.now flat-of.ensures
