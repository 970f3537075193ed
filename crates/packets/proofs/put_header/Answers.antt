-- Fourteen words, three numbers by their halves.
use Rattle.packets.proofs.Bytes.{head_put}
use Rattle.packets.proofs.put_header.Goals as goal

pub returns : goal.returns
returns c =
    head_put c.args.header c.args.count _ _ _ _ _ _ c.args.space.now _ c.low_word.ensures c.high_word.ensures
    c.low_word-2.ensures c.high_word-2.ensures c.low_word-3.ensures c.high_word-3.ensures c.put_words.ensures
