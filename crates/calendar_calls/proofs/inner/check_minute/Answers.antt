use mathlib.Core.Path.{sym, ◌∙◌}
use Rattle.calendar.specs.Windows.{moment_of}
use Rattle.calendar_calls.proofs.Lines as lines
use Rattle.calendar_calls.proofs.inner.check_minute.Goals as goal

pub returns-then-faulty : goal.returns-then-faulty
returns-then-faulty c =
    let A = c.args in lines.hours_25 A.n (moment_of A.calendar.now A.minute) A.b
    (sym c.faulty.ensures ∙ c.if-faulty.true)

pub returns-then-b-n : goal.returns-then-b-n
returns-then-b-n c =
    let A = c.args in let fair = sym c.faulty.ensures ∙ c.if-faulty.false in
    lines.hours_11 A.n (moment_of A.calendar.now A.minute) A.b fair c.if-b-n.true

pub returns-then-not-open_at : goal.returns-then-not-open_at
returns-then-not-open_at c =
    let A = c.args in
    let fair = sym c.faulty.ensures ∙ c.if-faulty.false in
    lines.hours_24 A.n (moment_of A.calendar.now A.minute) A.b fair c.if-b-n.false (lines.closed_when A.calendar.now A.minute
    A.b (sym c.open_at.ensures ∙ c.if-not-open_at.true))

pub returns : goal.returns
returns c =
    let A = c.args in
    let fair = sym c.faulty.ensures ∙ c.if-faulty.false in
    lines.hours_0 A.n (moment_of A.calendar.now A.minute) A.b fair c.if-b-n.false
    (lines.open_when A.calendar.now A.minute A.b
    (sym c.open_at.ensures ∙ c.if-not-open_at.false))
