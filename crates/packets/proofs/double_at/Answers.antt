-- Two words side by side.
use Rattle.packets.proofs.Answers.{double_words}
use Rattle.packets.proofs.double_at.Goals as goal

pub returns : goal.returns
returns c = double_words c.args.packet.now c.args.at _ _ _ c.word_at-low.ensures c.word_at-high.ensures c.double.ensures
