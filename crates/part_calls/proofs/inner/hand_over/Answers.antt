-- `inner::hand_over` meets its contract: each return by the line that counts.
use Rattle.std.specs.Prelude.{◌+◌, ◌<◌}
use native.Mathlib.Omega.{arith}
use Rattle.machine.specs.Plan.{count}
use Rattle.machine.specs.Machine.{state_of}
use Rattle.plan.specs.Shaped.{plan_of}
use Rattle.part_calls.proofs.Answers as answers
use Rattle.part_calls.proofs.inner.hand_over.Goals as goal

pub returns-then-m-messages : goal.returns-then-m-messages
returns-then-m-messages c =
    let A = c.args in
    let if1 = c.if-m-messages in
    let p = plan_of A.table.now.layout.sizes.route A.table.now.layout.nest in
    λ ms us l. answers.over_beyond p A.b (state_of ms us l A.marks.now) A.m (omega (arith, if1.true, c.requires.1.0))

pub offset_bounds-ordinals-m : goal.offset_bounds-ordinals-m
offset_bounds-ordinals-m c =
    let if1 = c.if-m-messages in
    omega (arith, if1.false, c.requires.1.0, c.requires.0.few)

pub bounds-ordinals-m : goal.bounds-ordinals-m
bounds-ordinals-m c =
    let if1 = c.if-m-messages in
    omega (arith, if1.false, c.requires.1.0, c.requires.0.few)

pub offset_bounds-ordinals-m-2 : goal.offset_bounds-ordinals-m-2
offset_bounds-ordinals-m-2 c =
    let if1 = c.if-m-messages in
    omega (arith, if1.false, c.requires.1.0, c.requires.0.few)

pub bounds-ordinals-m-2 : goal.bounds-ordinals-m-2
bounds-ordinals-m-2 c =
    let if1 = c.if-m-messages in
    omega (arith, if1.false, c.requires.1.0, c.requires.0.few)

pub returns-then-next-at : goal.returns-then-next-at
returns-then-next-at c =
    let A = c.args in
    let if1 = c.if-m-messages in
    let if2 = c.if-next-at in
    let p = plan_of A.table.now.layout.sizes.route A.table.now.layout.nest in
    let lo : A.m < count p = omega (arith, if1.false, c.requires.1.0) in
    λ ms us l. answers.over_anothers p A.b (state_of ms us l A.marks.now) A.m lo (answers.same_rank p A.b A.m _
    _ (c.requires.0.ordinals A.m (omega (arith, lo))) (c.requires.0.ordinals (A.m + 1)
    (omega (arith, lo))) if2.true)

pub bounds-marks-at : goal.bounds-marks-at
bounds-marks-at c =
    let A = c.args in
    let if1 = c.if-m-messages in
    let if2 = c.if-next-at in
    let p = plan_of A.table.now.layout.sizes.route A.table.now.layout.nest in
    let lo : A.m < count p = omega (arith, if1.false, c.requires.1.0) in
    let mine = answers.other_rank p A.b A.m _ _ (c.requires.0.ordinals A.m
    (omega (arith, lo))) (c.requires.0.ordinals (A.m + 1) (omega (arith, lo))) if2.false in
    answers.mark_low p A.b A.m _ A.marks.now c.requires.1.1 lo mine (c.requires.0.ordinals A.m
    (omega (arith, lo)))

pub returns-then-marks-at-ne1 : goal.returns-then-marks-at-ne1
returns-then-marks-at-ne1 c =
    let A = c.args in
    let if1 = c.if-m-messages in
    let if2 = c.if-next-at in
    let if3 = c.if-marks-at-ne1 in
    let p = plan_of A.table.now.layout.sizes.route A.table.now.layout.nest in
    let lo : A.m < count p = omega (arith, if1.false, c.requires.1.0) in
    let mine = answers.other_rank p A.b A.m _ _ (c.requires.0.ordinals A.m
    (omega (arith, lo))) (c.requires.0.ordinals (A.m + 1) (omega (arith, lo))) if2.false in
    λ ms us l. answers.over_not p A.b (state_of ms us l A.marks.now) A.m lo mine _ (c.requires.0.ordinals A.m
    (omega (arith, lo))) if3.true

pub bounds-marks-at-2 : goal.bounds-marks-at-2
bounds-marks-at-2 c =
    let A = c.args in
    let if1 = c.if-m-messages in
    let if2 = c.if-next-at in
    let p = plan_of A.table.now.layout.sizes.route A.table.now.layout.nest in
    let lo : A.m < count p = omega (arith, if1.false, c.requires.1.0) in
    let mine = answers.other_rank p A.b A.m _ _ (c.requires.0.ordinals A.m
    (omega (arith, lo))) (c.requires.0.ordinals (A.m + 1) (omega (arith, lo))) if2.false in
    answers.mark_low p A.b A.m _ A.marks.now c.requires.1.1 lo mine (c.requires.0.ordinals A.m
    (omega (arith, lo)))

pub returns : goal.returns
returns c =
    let A = c.args in
    let if1 = c.if-m-messages in
    let if2 = c.if-next-at in
    let if3 = c.if-marks-at-ne1 in
    let p = plan_of A.table.now.layout.sizes.route A.table.now.layout.nest in
    let lo : A.m < count p = omega (arith, if1.false, c.requires.1.0) in
    let mine = answers.other_rank p A.b A.m _ _ (c.requires.0.ordinals A.m
    (omega (arith, lo))) (c.requires.0.ordinals (A.m + 1) (omega (arith, lo))) if2.false in
    λ ms us l. answers.over_done p A.b (state_of ms us l A.marks.now) A.m lo mine _
    (c.requires.0.ordinals A.m (omega (arith, lo))) if3.false
