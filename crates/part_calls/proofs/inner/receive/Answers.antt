-- `inner::receive` meets its contract: each return by the line that counts.
use Rattle.std.specs.Prelude.{ℕ, ◌<◌, []}
use mathlib.Core.Path.{refl, ap, ◌∙◌}
use native.Mathlib.Omega.{arith}
use Rattle.base.specs.Lists.{put}
use Rattle.base.proofs.Tests.{pick_true, pick_false}
use Rattle.machine.specs.Plan.{count}
use Rattle.machine.specs.Machine.{state_of}
use Rattle.plan.specs.Shaped.{plan_of}
use Rattle.summary.specs.Summary.{line_of}
use Rattle.stages.proofs.Parts as parts
use Rattle.transport.proofs.arrivals.Taking as taking
use Rattle.part_calls.proofs.front.Wide.{state_is}
use Rattle.part_calls.proofs.Answers as answers
use Rattle.part_calls.proofs.inner.receive.Goals as goal

pub returns-then-m-messages : goal.returns-then-m-messages
returns-then-m-messages c =
    let A = c.args in
    let if1 = c.if-m-messages in
    let p = plan_of A.table.now.layout.sizes.route A.table.now.layout.nest in
    λ ms l. answers.come_beyond p A.b (state_of ms A.mail.now l A.marks.now) A.m A.words.now (omega (arith, if1.true, c.requires.messages_value.0))

pub nth-place-requires : goal.nth-place-requires
nth-place-requires c =
    let if1 = c.if-m-messages in
    omega (arith, if1.false, c.requires.messages_value.0)

pub line_at-line-requires : goal.line_at-line-requires
line_at-line-requires c =
    let A = c.args in
    let nth = c.nth-place in
    record { found_in = parts.placed_self A.table.now.layout.sizes.route A.table.now.layout.nest A.m nth.result nth.ensures }

pub returns-then-line-b : goal.returns-then-line-b
returns-then-line-b c =
    let A = c.args in
    let line_at_lem = c.line_at-line in
    let nth = c.nth-place in
    let if2 = c.if-line-b in
    let p = plan_of A.table.now.layout.sizes.route A.table.now.layout.nest in
    λ ms l. answers.come_elsewhere p A.b (state_of ms A.mail.now l A.marks.now) A.m A.words.now line_at_lem.result
    (line_at_lem.ensures ∙ ap (line_of p) nth.ensures.number) (λ q. if2.true (q))

pub offset_bounds-ordinals-m : goal.offset_bounds-ordinals-m
offset_bounds-ordinals-m c =
    let if1 = c.if-m-messages in
    omega (arith, if1.false, c.requires.messages_value.0, c.requires.known.few)

pub bounds-ordinals-m : goal.bounds-ordinals-m
bounds-ordinals-m c =
    let if1 = c.if-m-messages in
    omega (arith, if1.false, c.requires.messages_value.0, c.requires.known.few)

pub offset_bounds-starts-m : goal.offset_bounds-starts-m
offset_bounds-starts-m c =
    let if1 = c.if-m-messages in
    omega (arith, if1.false, c.requires.messages_value.0, c.requires.known.few)

pub bounds-starts-m : goal.bounds-starts-m
bounds-starts-m c =
    let if1 = c.if-m-messages in
    omega (arith, if1.false, c.requires.messages_value.0, c.requires.known.few)

pub arrived-requires : goal.arrived-requires
arrived-requires c =
    let A = c.args in
    let if1 = c.if-m-messages in
    let nth = c.nth-place in
    let line_at_lem = c.line_at-line in
    let if2 = c.if-line-b in
    let p = plan_of A.table.now.layout.sizes.route A.table.now.layout.nest in
    let lo : A.m < count p = omega (arith, if1.false, c.requires.messages_value.0) in
    let here = if2.false in
    let mine = answers.come_handled p A.b (state_of [] A.mail.now [] A.marks.now) A.m A.words.now line_at_lem.result
    (line_at_lem.ensures ∙ ap (line_of p) nth.ensures.number) lo here in
    answers.mark_low p A.b A.m _ A.marks.now c.requires.messages_value.1.marks_long lo mine (c.requires.known.ordinals A.m
    (omega (arith, lo)))

pub returns-then-not-arrived : goal.returns-then-not-arrived
returns-then-not-arrived c =
    let A = c.args in
    let if1 = c.if-m-messages in
    let nth = c.nth-place in
    let line_at_lem = c.line_at-line in
    let if2 = c.if-line-b in
    let arrived = c.arrived in
    let if3 = c.if-not-arrived in
    let p = plan_of A.table.now.layout.sizes.route A.table.now.layout.nest in
    let lo : A.m < count p = omega (arith, if1.false, c.requires.messages_value.0) in
    let here = if2.false in
    λ ms l. answers.come_again p A.b (state_of ms A.mail.now l A.marks.now) A.m A.words.now line_at_lem.result
    (line_at_lem.ensures ∙ ap (line_of p) nth.ensures.number) lo here _ (c.requires.known.ordinals A.m
    (omega (arith, lo))) arrived.result arrived.ensures.0 if3.true _
    (state_is refl refl refl (arrived.ensures.1 ∙ pick_false _ _ _ if3.true))

pub store_words-requires : goal.store_words-requires
store_words-requires c =
    let A = c.args in
    let if1 = c.if-m-messages in
    let nth = c.nth-place in
    let line_at_lem = c.line_at-line in
    let if2 = c.if-line-b in
    let p = plan_of A.table.now.layout.sizes.route A.table.now.layout.nest in
    let lo : A.m < count p = omega (arith, if1.false, c.requires.messages_value.0) in
    let here = if2.false in
    let mine = answers.come_handled p A.b (state_of [] A.mail.now [] A.marks.now) A.m A.words.now line_at_lem.result
    (line_at_lem.ensures ∙ ap (line_of p) nth.ensures.number) lo here in
    answers.room p A.b A.m _ _ A.mail.now c.requires.messages_value.1.mail_long lo mine
    (c.requires.known.starts A.m (omega (arith, lo))) (taking.long_here p A.m A.words.now lo c.requires.messages_value.1.long)

pub returns : goal.returns
returns c =
    let A = c.args in
    let if1 = c.if-m-messages in
    let nth = c.nth-place in
    let line_at_lem = c.line_at-line in
    let if2 = c.if-line-b in
    let arrived = c.arrived in
    let if3 = c.if-not-arrived in
    let store_words_lem = c.store_words in
    let p = plan_of A.table.now.layout.sizes.route A.table.now.layout.nest in
    let lo : A.m < count p = omega (arith, if1.false, c.requires.messages_value.0) in
    let here = if2.false in
    λ ms l. answers.come_done p A.b (state_of ms A.mail.now l A.marks.now) A.m A.words.now line_at_lem.result
    (line_at_lem.ensures ∙ ap (line_of p) nth.ensures.number) lo here _ (c.requires.known.ordinals A.m
    (omega (arith, lo))) arrived.result arrived.ensures.0 if3.false _ _
    (store_words_lem.ensures ∙ ap (λ (i : ℕ). put A.mail.now i A.words.now) (c.requires.known.starts A.m (omega (arith, lo))))
    (arrived.ensures.1 ∙ pick_true _ _ _ if3.false)
