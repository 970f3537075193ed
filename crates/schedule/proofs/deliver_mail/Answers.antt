-- The marks so far.
use mathlib.Core.Path.{ap}
use native.Mathlib.Omega.{arith}
use Rattle.std.specs.Prelude.{set}
use Rattle.schedule.proofs.Laws as laws
use Rattle.schedule.proofs.deliver_mail.Goals as goal

pub loop-mark-init : goal.loop-mark-init
loop-mark-init c = laws.mail_start c.args.status.now

pub loop-mark-preserved : goal.loop-mark-preserved
loop-mark-preserved c =
    let loop = c.loop-mark in
    laws.mail_next c.args.status.now loop.status loop.mark-index loop.invariant (omega arith) _
    (ap (set loop.status loop.mark-index) c.mark_then.ensures)

pub returns : goal.returns
returns c = let loop = c.loop-mark in laws.mail_done c.args.status.now loop.status loop.mark-index loop.invariant (omega arith)
