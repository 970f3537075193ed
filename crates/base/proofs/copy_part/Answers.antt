-- The part that is lent comes back as the words copied.
use Rattle.base.proofs.Copies.{part_back}
use Rattle.base.proofs.copy_part.Goals as goal

pub returns : goal.returns
returns c =
    let A = c.args in
    part_back A.to.now A.from.now _ A.at A.first A.n c.requires.1 c.copy_words.ensures
