-- `part_calls::post` meets its contract.
use Rattle.part_calls.proofs.post.Goals as goal

pub post-requires : goal.post-requires
post-requires c =
    let flat-of = c.flat_of in
    flat-of.ensures.room

pub returns : goal.returns
returns c =
    let post = c.post in
    let flat-of = c.flat_of in
    let A = c.args in
    post.ensures A.progress.now flat-of.ensures
