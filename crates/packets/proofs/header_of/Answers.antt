-- Each field by its put-chunk.
use Rattle.packets.proofs.Answers.{header_fields}
use Rattle.packets.proofs.header_of.Goals as goal

pub returns : goal.returns
returns c =
    header_fields c.args.packet.now _ _ _ _ _ _ _ _ _ c.double_at.ensures c.double_at-2.ensures c.double_at-3.ensures
    c.word_at.ensures c.word_at-2.ensures c.word_at-3.ensures c.word_at-4.ensures c.word_at-5.ensures c.word_at-6.ensures
