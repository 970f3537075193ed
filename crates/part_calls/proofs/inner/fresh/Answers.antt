-- `inner::fresh` meets its contract: each return by the line that counts.
use mathlib.Core.Path.{sym, ap, ◌∙◌}
use Rattle.std.specs.Prelude.{ℕ, List}
use Rattle.base.specs.Refusals.{code}
use Rattle.base.proofs.Codes.{code_some}
use Rattle.machine.specs.Machine.{state_of}
use Rattle.engine.specs.Calls.{answer}
use Rattle.engine.proofs.Reading as reading
use Rattle.part_calls.proofs.Answers as answers
use Rattle.part_calls.proofs.inner.fresh.Goals as goal

pub fresh_part-requires : goal.fresh_part-requires
fresh_part-requires c = record { routed = c.in-Ok.ensures.board.routed; low = c.in-Ok.ensures.board.low }

pub returns-in-Ok : goal.returns-in-Ok
returns-in-Ok c =
    let A = c.args in
    λ l h. answers.fresh_past A.encoded.now A.route A.processor (state_of A.memory.now A.mail.now l A.marks.now) _
    c.in-Ok.ensures _ (rw c.number_of.ensures (c.fresh_part.ensures l h))

pub returns-in-Err : goal.returns-in-Err
returns-in-Err c =
    let A = c.args in
    let r = c.in-Err.refusal in
    λ l h. rw c.number.ensures
    (ap (λ (k : List ℕ). answer (code r) (state_of A.memory.now A.mail.now k A.marks.now))
    (sym (reading.zeros_after_no l _ (code_some r)))
    ∙ answers.fresh_read A.encoded.now A.route A.processor (state_of A.memory.now A.mail.now l A.marks.now) r c.in-Err.ensures)
