-- Refused as the test says; else header, count and words.
use Rattle.std.proofs.lemmas.Result.{err_from_is_err_and}
use Rattle.packets.proofs.Answers.{refused_as, read_all, readable}
use native.Mathlib.Omega.{arith}
use mathlib.Core.Path.{sym}
use lib.ListN.{length}
use Rattle.packets.proofs.read.Goals as goal

pub returns-in_err-count : goal.returns-in_err-count
returns-in_err-count c =
    let p = err_from_is_err_and c.from_residual.result c.from_residual.ensures.1 in
    rw (p.1, p.2) (refused_as c.in_err-count.field-0.0 c.args.fingerprint c.args.run c.args.packet.now c.args.words.now
    c.in_err-count.ensures.number)

pub take_words-requires : goal.take_words-requires
take_words-requires c =
    let known = c.in_ok-count.ensures in
    let r = readable c.args.fingerprint c.args.run c.args.packet.now (length c.args.words.now) (sym known.number) in
    (omega (arith, r.whole.long, known.count), omega (arith, r.fits, known.count))

pub header_of-header-requires : goal.header_of-header-requires
header_of-header-requires c =
    let known = c.in_ok-count.ensures in
    omega (arith, (readable c.args.fingerprint c.args.run c.args.packet.now (length c.args.words.now) (sym known.number)).whole.long)

pub returns : goal.returns
returns c =
    let known = c.in_ok-count.ensures in
    read_all c.args.fingerprint c.args.run c.args.packet.now c.args.words.now c.take_words.new.words c.header_of-header.result
    c.in_ok-count.count known.number c.header_of-header.ensures known.count c.take_words.ensures
