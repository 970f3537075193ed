-- Each return is a law of a line.
use native.Mathlib.Omega.{arith}
use Rattle.std.specs.Prelude.{length}
use Rattle.packets.proofs.Assembling.{few}
use Rattle.wire.specs.Wire.{label}
use Rattle.wire.proofs.Sending as sending
use Rattle.wire.proofs.write_chunk.Goals as goal

pub returns-then-space-ne-LONGEST : goal.returns-then-space-ne-LONGEST
returns-then-space-ne-LONGEST c =
    let A = c.args in
    let a = c.args.about in
    sending.packet_space (label a.fingerprint a.run a.life a.kind a.sender a.taker a.item) A.words.now A.chunk A.space.now
    c.if-space-ne-LONGEST.true

pub returns-then-n-gt-MOST_AREA : goal.returns-then-n-gt-MOST_AREA
returns-then-n-gt-MOST_AREA c =
    let A = c.args in
    let a = c.args.about in
    sending.packet_long (label a.fingerprint a.run a.life a.kind a.sender a.taker a.item) A.words.now A.chunk A.space.now
    c.if-space-ne-LONGEST.false c.if-n-gt-MOST_AREA.true

pub returns-then-chunk-chunks : goal.returns-then-chunk-chunks
returns-then-chunk-chunks c =
    let A = c.args in
    let a = c.args.about in
    sending.packet_none (label a.fingerprint a.run a.life a.kind a.sender a.taker a.item) A.words.now A.chunk A.space.now
    c.if-space-ne-LONGEST.false (omega (arith, c.if-n-gt-MOST_AREA.false)) (omega (arith, c.if-chunk-chunks.true, c.chunks_of-chunks.ensures))

pub overflow_cast-header : goal.overflow_cast-header
overflow_cast-header c = omega (arith, c.chunks_of-chunks.ensures, few (length c.args.words.now) (omega (arith, c.if-n-gt-MOST_AREA.false)))

pub slice_bounds-put_packet-end : goal.slice_bounds-put_packet-end
slice_bounds-put_packet-end c =
    sending.chunk_room c.args.words.now c.args.chunk c.chunk_length.result c.chunk_length.ensures
    (omega (arith, c.if-chunk-chunks.false, c.chunks_of-chunks.ensures))

pub returns : goal.returns
returns c =
    let A = c.args in
    let a = c.args.about in
    sending.packet_done (label a.fingerprint a.run a.life a.kind a.sender a.taker a.item) A.words.now A.chunk A.space.now
    c.if-space-ne-LONGEST.false (omega (arith, c.if-n-gt-MOST_AREA.false)) _ (omega (
      arith,
      c.if-chunk-chunks.false,
      c.chunks_of-chunks.ensures,
    ))
    (sending.chunk_packet A.words.now A.chunk c.chunk_length.result c.chunk_length.ensures
    (omega (arith, c.if-chunk-chunks.false, c.chunks_of-chunks.ensures))
    a.fingerprint a.run a.life a.kind a.sender a.taker a.item c.chunks_of-chunks.result A.space.now c.chunks_of-chunks.ensures _
    c.put_packet.ensures)
