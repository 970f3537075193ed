-- Each return is the call by the line that counts.
use Rattle.std.specs.Prelude.{◌≡◌, ℕ, ◌-◌, List, take, drop}
use mathlib.Core.Path.{refl, subst}
use native.Mathlib.Omega.{arith}
use Rattle.std.proofs.lemmas.Result.{err_from_is_err_and}
use Rattle.base.specs.Refusals.{number_of}
use Rattle.machine.specs.Machine.{state_of}
use Rattle.plan.specs.Shaped.{plan_of}
use Rattle.base.proofs.Codes.{code_some}
use Rattle.engine.specs.Calls.{answer, turn_call}
use Rattle.engine.specs.Given.{records_after}
use Rattle.engine.proofs.Lines as lines
use Rattle.engine.proofs.Reading as reading
use Rattle.engine.proofs.inner.turn.Goals as goal

pub returns-in_err-table : goal.returns-in_err-table
returns-in_err-table c =
    let A = c.args in
    let e = err_from_is_err_and c.from_residual.result c.from_residual.ensures.1 in
    λ l h. rw (e.1, e.2) (lines.turn_read A.encoded.now A.route A.source.now (state_of A.memories.now A.buffer.now l A.status.now) A.processor _
    c.in_err-table.ensures.number (code_some _))

pub returns-in_err-check_areas : goal.returns-in_err-check_areas
returns-in_err-check_areas c =
    let A = c.args in
    let x = c.in_ok-table.table.layout in
    let p = plan_of x.sizes.route x.nest in
    let e = err_from_is_err_and c.from_residual-in_err-check_areas.result c.from_residual-in_err-check_areas.ensures.1 in
    λ l h. rw (e.1, e.2) (lines.turn_unfit A.encoded.now A.route A.source.now (state_of A.memories.now A.buffer.now l A.status.now) A.processor p
    c.in_ok-table.ensures.layout.opened _ (c.in_err-check_areas.ensures.0 l h) (code_some _))

pub returns-then-b-table : goal.returns-then-b-table
returns-then-b-table c =
    let A = c.args in
    let x = c.in_ok-table.table.layout in
    let p = plan_of x.sizes.route x.nest in
    λ l h. lines.turn_beyond A.encoded.now A.route A.source.now (state_of A.memories.now A.buffer.now l A.status.now) A.processor p
    c.in_ok-table.ensures.layout.opened 0 (c.in_ok-check_areas.ensures.0 l h) refl (omega (arith, x.sized.processors, c.if-b-table.true))

pub step-requires : goal.step-requires
step-requires c =
    let A = c.args in
    let x = c.in_ok-table.table.layout in
    let p = plan_of x.sizes.route x.nest in
    let few = reading.few_words _ _ x.sized A.progress.count c.in_ok-check_areas.ensures.1 in
    let l = take (A.progress.count - 0) (drop 0 A.progress.words) in
    record {
      may_turn = lines.passed p A.source.now (state_of A.memories.now A.buffer.now l A.status.now) A.processor 0
          (c.in_ok-check_areas.ensures.0 l (reading.part_carries A.progress c.requires few)) refl (omega (
            arith,
            x.sized.processors,
            c.if-b-table.false,
          ));
    }

pub returns : goal.returns
returns c =
    let A = c.args in
    let x = c.in_ok-table.table.layout in
    let p = plan_of x.sizes.route x.nest in
    let few = reading.few_words _ _ x.sized A.progress.count c.in_ok-check_areas.ensures.1 in
    let part = take (A.progress.count - 0) (drop 0 A.progress.words) in
    λ l h. subst (λ (k : List ℕ). answer (number_of c.step.result) (state_of c.step.new.memories c.step.new.buffer
    (records_after k A.processor c.step.result) c.step.new.status) ≡ turn_call A.encoded.now A.route A.source.now
    (state_of A.memories.now A.buffer.now k A.status.now) A.processor) (reading.part_is A.progress l few h)
    (lines.turn_steps A.encoded.now A.route A.source.now (state_of A.memories.now A.buffer.now part A.status.now) A.processor p
    c.in_ok-table.ensures.layout.opened 0 (c.in_ok-check_areas.ensures.0 _ (reading.part_carries A.progress c.requires few)) refl _ c.step.ensures)
