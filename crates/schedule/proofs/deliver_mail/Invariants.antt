-- The marks so far.
use Rattle.schedule.proofs.Laws as laws
use Rattle.schedule.proofs.deliver_mail.Given as goal

abbrev pub invariant-loop-mark : goal.invariant-loop-mark
invariant-loop-mark l = laws.MailLoop l.initial.status l.status l.mark-index
