-- The recipe's line, or what the message's lines give.
use mathlib.Core.Path.{◌∙◌}
use Rattle.std.proofs.lemmas.Result.{err_from_is_err_and}
use Rattle.base.proofs.Codes.{code_some}
use Rattle.tables.specs.Given.{plan_of_table}
use Rattle.wire.proofs.Sending.{send_read, send_rest}
use Rattle.wire.proofs.send_posted.Goals as goal

pub returns-in_err-table : goal.returns-in_err-table
returns-in_err-table c =
    let A = c.args in
    let e = err_from_is_err_and c.from_residual.result c.from_residual.ensures.1 in
    rw (e.1, e.2) (send_read A.encoded.now A.route A.run A.life A.buffer.now A.status.now A.processor A.message A.chunk A.space.now _
    c.in_err-table.ensures.number (code_some _))

pub returns : goal.returns
returns c =
    let A = c.args in
    c.send_message.ensures
    ∙ send_rest A.encoded.now A.route A.run A.life A.buffer.now A.status.now A.processor A.message A.chunk A.space.now
    (plan_of_table c.in_ok-table.table) c.in_ok-table.ensures.layout.opened c.fingerprint-fingerprint.result c.fingerprint-fingerprint.ensures
