-- A packet in the first bytes, and never a refusal.
use mathlib.Core.Path.{refl}
use Rattle.std.specs.Prelude.{◌+◌, ◌*◌, length}
use Rattle.wire.proofs.Sending.{put_in, put_refused}
use Rattle.wire.proofs.put_packet.Goals as goal

pub returns-in_err-write : goal.returns-in_err-write
returns-in_err-write c =
    let A = c.args in
    absurd (put_refused A.header A.words.now A.space.now c.write.new.space (60 + 4 * length A.words.now) refl c.requires.0 c.requires.1
    c.in_err-write.field-0.0 c.in_err-write.ensures)

pub returns : goal.returns
returns c =
    let A = c.args in
    put_in A.header A.words.now A.space.now c.write.new.space (60 + 4 * length A.words.now) refl c.requires.0 c.requires.1 0
    c.in_ok-write.ensures
