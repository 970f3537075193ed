-- All words passed are fit.
use Rattle.std.specs.Prelude.{ℕ, ◌+◌, ◌*◌, length, get_or}
use mathlib.Core.Path.{sym, ap, ◌∙◌}
use native.Mathlib.Omega.{arith}
use Rattle.base.proofs.Tests.{every_not}
use Rattle.machine.specs.Machine.{progress_only}
use Rattle.tenants.specs.Tenants.{tenant_areas, stage_agrees, fit_word}
use Rattle.base.proofs.Loops as loops
use Rattle.sharing.proofs.Tests as tests
use Rattle.sharing.proofs.admission.fit_words.Goals as goal

pub other-second-requires : goal.other-second-requires
other-second-requires c = c.requires.1.1

pub loop-b-init : goal.loop-b-init
loop-b-init c =
    let A = c.args in
    let f = fit_word A.tenant (tenant_areas (progress_only A.progress.now) A.engaged.now) A.theirs.now in
    (omega arith, loops.every_start f)

pub returns-then-holder-gt2 : goal.returns-then-holder-gt2
returns-then-holder-gt2 c =
    let loop = c.loop-b in
    let loop-test = c.loop-b-test in
    let if1 = c.if-holder-gt2 in
    let A = c.args in
    let f = fit_word A.tenant (tenant_areas (progress_only A.progress.now) A.engaged.now) A.theirs.now in
    sym (every_not f (length A.engaged.now) loop.b (omega (arith, loop-test.true)) (tests.word_high A.tenant A.progress.now A.engaged.now
    A.theirs.now loop.b if1.true))

pub returns-then-not-stage_agrees : goal.returns-then-not-stage_agrees
returns-then-not-stage_agrees c =
    let loop = c.loop-b in
    let loop-test = c.loop-b-test in
    let stage-agrees = c.stage_agrees in
    let if2 = c.if-not-stage_agrees in
    let A = c.args in
    let f = fit_word A.tenant (tenant_areas (progress_only A.progress.now) A.engaged.now) A.theirs.now in
    sym (every_not f (length A.engaged.now) loop.b (omega (arith, loop-test.true)) (tests.word_own A.tenant A.progress.now A.engaged.now
    A.theirs.now loop.b (sym stage-agrees.ensures ∙ if2.true)))

pub returns-then-not-stage_agrees-2 : goal.returns-then-not-stage_agrees-2
returns-then-not-stage_agrees-2 c =
    let loop = c.loop-b in
    let loop-test = c.loop-b-test in
    let other = c.other-second in
    let stage-agrees2 = c.stage_agrees-in-loop-b in
    let if3 = c.if-not-stage_agrees-2 in
    let A = c.args in
    let f = fit_word A.tenant (tenant_areas (progress_only A.progress.now) A.engaged.now) A.theirs.now in
    sym (every_not f (length A.engaged.now) loop.b (omega (arith, loop-test.true)) (tests.word_theirs A.tenant A.progress.now
    A.engaged.now A.theirs.now loop.b (ap (λ (k : ℕ). stage_agrees (get_or A.engaged.now loop.b 0) k (get_or A.theirs.now (3 * loop.b + 1)
    0)) (sym other.ensures) ∙ sym stage-agrees2.ensures ∙ if3.true)))

pub loop-b-preserved : goal.loop-b-preserved
loop-b-preserved c =
    let loop-test = c.loop-b-test in
    let loop = c.loop-b in
    let if1 = c.if-holder-gt2 in
    let stage-agrees = c.stage_agrees in
    let if2 = c.if-not-stage_agrees in
    let other = c.other-second in
    let stage-agrees2 = c.stage_agrees-in-loop-b in
    let if3 = c.if-not-stage_agrees-2 in
    let A = c.args in
    let f = fit_word A.tenant (tenant_areas (progress_only A.progress.now) A.engaged.now) A.theirs.now in (
      omega (arith, loop-test.true),
      loops.every_step f loop.b loop.invariant.1 (tests.word_fits A.tenant A.progress.now A.engaged.now
          A.theirs.now loop.b (omega (arith, if1.false)) (sym stage-agrees.ensures ∙ if2.false)
          (ap (λ (k : ℕ). stage_agrees (get_or A.engaged.now loop.b 0) k (get_or A.theirs.now (3 * loop.b + 1) 0)) (sym other.ensures)
          ∙ sym stage-agrees2.ensures ∙ if3.false)),
    )

pub returns : goal.returns
returns c =
    let loop = c.loop-b in
    let loop-test = c.loop-b-test in
    let A = c.args in
    let f = fit_word A.tenant (tenant_areas (progress_only A.progress.now) A.engaged.now) A.theirs.now in
    sym (loops.every_end f (length A.engaged.now) loop.b loop.invariant.0 (omega (arith, loop-test.false)) loop.invariant.1)
