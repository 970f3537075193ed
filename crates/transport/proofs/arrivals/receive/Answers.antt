-- `receive` meets its contract: each return by the line that counts.
use native.Mathlib.Omega.{arith}
use mathlib.Core.Path.{sym, ap, ◌∙◌}
use Rattle.plan.specs.Shaped.{plan_of}
use Rattle.machine.specs.Machine.{state_of}
use Rattle.summary.specs.Summary.{line_of}
use Rattle.stages.proofs.Parts as parts
use Rattle.transport.proofs.arrivals.Taking as taking
use Rattle.transport.proofs.arrivals.receive.Goals as goal

pub returns-then-m-status : goal.returns-then-m-status
returns-then-m-status c =
    λ ms l. taking.beyond (plan_of c.args.table.now.layout.sizes.route c.args.table.now.layout.nest) (state_of ms c.args.buffer.now l c.args.status.now)
    c.args.processor c.args.m c.args.words.now (omega (arith, c.if-m-status.true, c.requires.status))

pub nth-place-requires : goal.nth-place-requires
nth-place-requires c = omega (arith, c.if-m-status.false, c.requires.status)

pub line_at-line-requires : goal.line_at-line-requires
line_at-line-requires c =
    let nth = c.nth-place in
    record { found_in = parts.placed_self c.args.table.now.layout.sizes.route c.args.table.now.layout.nest c.args.m nth.result nth.ensures }

pub returns-then-line-processor : goal.returns-then-line-processor
returns-then-line-processor c =
    let line_at_lem = c.line_at-line in
    λ ms l. taking.not_here (plan_of c.args.table.now.layout.sizes.route c.args.table.now.layout.nest) (state_of ms c.args.buffer.now l c.args.status.now)
    c.args.processor c.args.m c.args.words.now line_at_lem.result
    (line_at_lem.ensures ∙ ap (line_of (plan_of c.args.table.now.layout.sizes.route c.args.table.now.layout.nest)) c.nth-place.ensures.number)
    c.if-line-processor.true

pub bounds-status-m : goal.bounds-status-m
bounds-status-m c = omega (arith, c.if-m-status.false)

pub returns-then-status-m-ne0 : goal.returns-then-status-m-ne0
returns-then-status-m-ne0 c =
    let line_at_lem = c.line_at-line in
    λ ms l. taking.came_before (plan_of c.args.table.now.layout.sizes.route c.args.table.now.layout.nest) (state_of ms c.args.buffer.now l c.args.status.now)
    c.args.processor c.args.m c.args.words.now line_at_lem.result
    (line_at_lem.ensures ∙ ap (line_of (plan_of c.args.table.now.layout.sizes.route c.args.table.now.layout.nest)) c.nth-place.ensures.number)
    (omega (arith, c.if-m-status.false, c.requires.status)) c.if-line-processor.false c.if-status-m-ne0.true

pub overflow_add-end : goal.overflow_add-end
overflow_add-end c =
    let nth = c.nth-place in
    omega (
      arith,
      taking.room c.args.table.now.layout.sizes.route c.args.table.now.layout.nest c.args.m nth.result nth.ensures c.args.buffer.now c.requires.buffer,
    )

pub offset_bounds-buffer-offset : goal.offset_bounds-buffer-offset
offset_bounds-buffer-offset c =
    let nth = c.nth-place in
    omega (
      arith,
      taking.room c.args.table.now.layout.sizes.route c.args.table.now.layout.nest c.args.m nth.result nth.ensures c.args.buffer.now c.requires.buffer,
    )

pub slice_bounds-copy_words-start : goal.slice_bounds-copy_words-start
slice_bounds-copy_words-start c = omega arith

pub slice_bounds-copy_words-end : goal.slice_bounds-copy_words-end
slice_bounds-copy_words-end c =
    let nth = c.nth-place in
    taking.room c.args.table.now.layout.sizes.route c.args.table.now.layout.nest c.args.m nth.result nth.ensures c.args.buffer.now c.requires.buffer

pub copy_words-requires : goal.copy_words-requires
copy_words-requires c =
    let nth = c.nth-place in
    taking.place_long c.args.table.now.layout.sizes.route c.args.table.now.layout.nest c.args.m nth.result nth.ensures c.args.buffer.now c.requires.buffer
    ∙ sym (taking.long_here (plan_of c.args.table.now.layout.sizes.route c.args.table.now.layout.nest) c.args.m c.args.words.now
    (omega (arith, c.if-m-status.false, c.requires.status)) c.requires.long)

pub bounds-status-m-2 : goal.bounds-status-m-2
bounds-status-m-2 c = omega (arith, c.if-m-status.false)

pub returns : goal.returns
returns c =
    let line_at_lem = c.line_at-line in
    let nth = c.nth-place in
    let copy = c.copy_words in
    λ ms l. taking.taken_in (plan_of c.args.table.now.layout.sizes.route c.args.table.now.layout.nest) (state_of ms c.args.buffer.now l c.args.status.now)
    c.args.processor c.args.m c.args.words.now line_at_lem.result
    (line_at_lem.ensures ∙ ap (line_of (plan_of c.args.table.now.layout.sizes.route c.args.table.now.layout.nest)) nth.ensures.number)
    (omega (arith, c.if-m-status.false, c.requires.status)) c.if-line-processor.false c.if-status-m-ne0.false _ (taking.put_in c.args.table.now.layout.sizes.route c.args.table.now.layout.nest
    c.args.m nth.result nth.ensures c.args.buffer.now c.requires.buffer c.args.words.now copy.new.to copy.auto.to
    copy.ensures)
