-- `inner::store_words` meets its contract: the lent part comes back as the words.
use Rattle.stages.proofs.Parts as parts
use Rattle.part_calls.proofs.inner.store_words.Goals as goal

pub copy_words-requires : goal.copy_words-requires
copy_words-requires c =
    let A = c.args in
    parts.mid_length A.mail.now A.from _ c.requires

pub returns : goal.returns
returns c =
    let A = c.args in
    let copied = c.copy_words in
    parts.back A.mail.now copied.new.to (λ _. A.words.now) A.from _ c.requires copied.auto.to copied.ensures
