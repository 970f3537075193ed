-- As it was read: 285 words are room for every packet.
use Rattle.wire.proofs.Receiving.{opened_number, opened}
use Rattle.wire.proofs.inbox.open_packet.Goals as goal

pub returns-clause-number : goal.returns-clause-number
returns-clause-number c =
    let A = c.args in
    opened_number _ _ A.run A.packet.now A.words.now c.read.new.words c.read.result c.fingerprint-fingerprint.ensures c.requires c.read.ensures

pub returns-clause-reading : goal.returns-clause-reading
returns-clause-reading c =
    let A = c.args in
    opened _ A.run A.packet.now A.words.now c.read.new.words c.read.result c.read.ensures
