-- One for none, and rounded up.
use Rattle.packets.proofs.ChunkAnswers.{chunks_by}
use Rattle.packets.proofs.chunks.chunks_of.Goals as goal

pub returns : goal.returns
returns c = chunks_by c.args.words c.max.result c.div_ceil.result c.max.ensures c.div_ceil.ensures
