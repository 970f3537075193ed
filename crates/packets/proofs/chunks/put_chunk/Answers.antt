-- There already, or put to its place.
use Rattle.packets.proofs.ChunkAnswers.{placed_same, placed_new}
use native.Mathlib.Omega.{arith}
use mathlib.Core.Path.{sym, ◌∙◌}
use Rattle.packets.proofs.chunks.put_chunk.Goals as goal

pub returns-then-is_there : goal.returns-then-is_there
returns-then-is_there c = placed_same c.args.chunk c.args.words.now c.args.area.now c.args.mask (sym c.is_there.ensures ∙ c.if-is_there.true)

pub returns : goal.returns
returns c =
    placed_new c.args.chunk _ c.args.words.now _ c.args.area.now c.args.mask c.with_chunk.result (sym c.is_there.ensures ∙ c.if-is_there.false)
    (omega arith) c.copy_words.ensures c.with_chunk.ensures
