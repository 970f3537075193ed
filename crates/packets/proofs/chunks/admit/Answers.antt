-- Each return is a law of a line.
use Rattle.packets.proofs.ChunkAnswers.{number_long, number_chunks, number_chunk, number_count, number_none}
use Rattle.packets.specs.Cut.{chunk_of}
use native.Mathlib.Omega.{arith}
use mathlib.Core.Path.{sym, ◌∙◌}
use Rattle.packets.proofs.chunks.admit.Goals as goal

pub returns-then-area-gt-MOST_AREA : goal.returns-then-area-gt-MOST_AREA
returns-then-area-gt-MOST_AREA c = number_long (chunk_of c.args.chunk c.args.chunks c.args.words.now) c.args.area c.if-area-gt-MOST_AREA.true

pub returns-then-chunks-chunks_of : goal.returns-then-chunks-chunks_of
returns-then-chunks-chunks_of c =
    number_chunks (chunk_of c.args.chunk c.args.chunks c.args.words.now) c.args.area c.if-area-gt-MOST_AREA.false
    (λ q. c.if-chunks-chunks_of.true (q ∙ sym c.chunks_of.ensures))

pub returns-then-chunk-chunks : goal.returns-then-chunk-chunks
returns-then-chunk-chunks c =
    number_chunk (chunk_of c.args.chunk c.args.chunks c.args.words.now) c.args.area c.if-area-gt-MOST_AREA.false
    (omega (arith, c.if-chunk-chunks.true, c.if-chunks-chunks_of.false, c.chunks_of.ensures))

pub returns-then-words-chunk_length : goal.returns-then-words-chunk_length
returns-then-words-chunk_length c =
    number_count (chunk_of c.args.chunk c.args.chunks c.args.words.now) c.args.area c.if-area-gt-MOST_AREA.false
    (λ q. c.if-words-chunk_length.true (q ∙ sym c.chunk_length.ensures))

pub returns : goal.returns
returns c =
    number_none (chunk_of c.args.chunk c.args.chunks c.args.words.now) c.args.area c.if-area-gt-MOST_AREA.false
    (omega (arith, c.if-chunks-chunks_of.false, c.chunks_of.ensures))
    (omega (arith, c.if-chunk-chunks.false, c.if-chunks-chunks_of.false, c.chunks_of.ensures)) (c.if-words-chunk_length.false ∙ c.chunk_length.ensures)
