-- Each return is the turn on the part, by the line that counts.
use Rattle.std.specs.Prelude.{◌≡◌, ℕ, List, take}
use mathlib.Core.Path.{refl, sym, subst}
use native.Mathlib.Omega.{arith}
use lib.Seq.{length-take-le}
use Rattle.std.proofs.lemmas.Result.{err_from_is_err_and}
use Rattle.base.specs.Refusals.{number_of}
use Rattle.base.proofs.Codes.{code_some}
use Rattle.machine.specs.Machine.{State, state_of}
use Rattle.plan.specs.Shaped.{plan_of}
use Rattle.engine.specs.Calls.{answer}
use Rattle.engine.specs.Given.{records_after}
use Rattle.part_calls.specs.turn.Step.{turned_or}
use Rattle.part_calls.proofs.turn.Turned as turned
use Rattle.part_calls.proofs.turn.turn_in.Goals as goal

pub check_areas-requires : goal.check_areas-requires
check_areas-requires c = (c.requires.tables.0.known, c.requires.tables.1)

pub returns-in_err-check_areas : goal.returns-in_err-check_areas
returns-in_err-check_areas c =
    let A = c.args in
    let p = plan_of A.table.now.layout.sizes.route A.table.now.layout.nest in
    let e = err_from_is_err_and c.from_residual.result c.from_residual.ensures.1 in
    λ l h. rw (e.1, e.2)
    (turned.no_part p A.b A.source.now (state_of A.memory.now A.mail.now l A.marks.now) c.requires.source_len _
    (c.in_err-check_areas.ensures.lines l h) (code_some _))

pub slice_bounds-step-end : goal.slice_bounds-step-end
slice_bounds-step-end c =
    let A = c.args in
    sym (length-take-le 3 A.progress.words (omega (arith, c.requires.tables.1.1)))

pub step-requires : goal.step-requires
step-requires c =
    let A = c.args in
    let areas = c.in_ok-check_areas in
    let p = plan_of A.table.now.layout.sizes.route A.table.now.layout.nest in record {
      tables = c.requires.tables.0;
      may_step = turned.may_step p A.b A.source.now (state_of A.memory.now A.mail.now (take 3 A.progress.words) A.marks.now)
          c.requires.source_len 0
          (areas.ensures.lines _ (turned.three_carried A.progress c.requires.tables.1.1 areas.ensures.three)) refl
          c.requires.tables.0.known.low;
    }

pub returns : goal.returns
returns c =
    let A = c.args in
    let step = c.step in
    let areas = c.in_ok-check_areas in
    let p = plan_of A.table.now.layout.sizes.route A.table.now.layout.nest in
    let s : List ℕ → State = λ l. state_of A.memory.now A.mail.now l A.marks.now in
    λ l h. subst (λ (k : List ℕ). answer (number_of step.result) (state_of step.new.memory step.new.mail
    (records_after k 0 step.result) step.new.marks) ≡ turned_or p A.source.now (s k) A.b)
    (turned.three_are A.progress l areas.ensures.three h) (turned.turned_is p A.b A.source.now
    (s (take 3 A.progress.words)) c.requires.source_len 0
    (areas.ensures.lines _ (turned.three_carried A.progress c.requires.tables.1.1 areas.ensures.three)) refl _
    step.ensures)
