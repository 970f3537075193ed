use Rattle.sharing.proofs.collect.Goals as goal

pub returns : goal.returns
returns c =
    let A = c.args in
    rw c.number_of.ensures (c.collect-answer.ensures A.progress.now A.theirs.now c.flat_of.ensures c.flat_of-2.ensures)
