-- Each return is the call by the line that counts.
use mathlib.Core.Path.{sym, ◌∙◌}
use Rattle.std.specs.Prelude.{length}
use Rattle.base.proofs.Codes.{code_some}
use Rattle.calls.proofs.DriverWords as laws
use Rattle.calls.proofs.round.drive.Goals as goal

pub returns-in-Ok : goal.returns-in-Ok
returns-in-Ok c =
    let A = c.args in
    let f = c.refused in (
      λ l e. laws.rounds_nine A.encoded.now A.source.now A.memories.now A.buffer.now A.status.now l c.in-Ok.ensures f.result.driven.number
          f.result.driven.rounds f.result.flat.words f.ensures.0 f.ensures.1.0 A.words e c.if-words-gt-RECORD_WORDS.true,
      (λ z. absurd (laws.nine_is_none (sym f.ensures.0 ∙ z)), f.ensures.1.1),
    )

pub returns-in-Err : goal.returns-in-Err
returns-in-Err c =
    let A = c.args in
    let f = c.refused-in-Err in (
      λ l e. laws.rounds_read A.encoded.now A.source.now A.memories.now A.buffer.now A.status.now l c.in-Err.ensures f.result.driven.number
          f.result.driven.rounds f.result.flat.words f.ensures.0 f.ensures.1.0,
      (λ z. absurd (code_some c.in-Err.refusal (sym f.ensures.0 ∙ z)), f.ensures.1.1),
    )

pub slice_bounds-run-end : goal.slice_bounds-run-end
slice_bounds-run-end c =
    let A = c.args in
    sym (laws.lent_long A.words c.if-words-gt-RECORD_WORDS.false)

pub returns : goal.returns
returns c =
    let A = c.args in
    let few = c.if-words-gt-RECORD_WORDS.false in
    let run = c.run-driven in
    let back = c.kept-2-1.given in (
      λ l e. laws.run_told A.encoded.now A.source.now A.memories.now A.buffer.now A.status.now l _
          (laws.lent_long A.words few ∙ e) run.result.number run.result.rounds _ _ _ _ run.ensures _
          (laws.kept_front A.words few run.new.progress back (length l) e),
      (λ z. few, laws.kept_long A.words few run.new.progress back),
    )
