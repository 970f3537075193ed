-- Refused as the test says; else placed, and all bits looked at.
use Rattle.packets.proofs.ChunkAnswers.{fitting, taken_refused, taken_done, byte_one}
use Rattle.packets.specs.Cut.{chunk_of}
use lib.ListN.{length}
use mathlib.Core.Path.{sym, ◌∙◌}
use Rattle.packets.proofs.chunks.take_chunk.Goals as goal

pub returns-in-Err : goal.returns-in-Err
returns-in-Err c =
    taken_refused (chunk_of c.args.chunk c.args.chunks c.args.words.now) c.args.area.now c.args.mask c.in-Err.refusal
    c.number.result c.number.ensures c.in-Err.ensures

pub put_chunk-mask-requires : goal.put_chunk-mask-requires
put_chunk-mask-requires c =
    let f = fitting (chunk_of c.args.chunk c.args.chunks c.args.words.now) (length c.args.area.now) (sym c.in_default.ensures) in
    (f.low, f.room)

pub is_complete-requires : goal.is_complete-requires
is_complete-requires c =
    (fitting (chunk_of c.args.chunk c.args.chunks c.args.words.now) (length c.args.area.now) (sym c.in_default.ensures)).few_chunks

pub returns : goal.returns
returns c =
    taken_done (chunk_of c.args.chunk c.args.chunks c.args.words.now) c.args.area.now c.args.mask c.put_chunk-mask.new.area
    c.put_chunk-mask.result c.from-whole.result c.is_complete.result c.in_default.ensures c.put_chunk-mask.ensures
    c.is_complete.ensures (c.from-whole.ensures ∙ byte_one c.is_complete.result)
