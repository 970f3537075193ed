-- Each return is a law of a line.
use mathlib.Core.Path.{sym, ap, ◌∙◌}
use native.Mathlib.Omega.{arith}
use Rattle.base.specs.Refusals.{number_of}
use Rattle.plan.specs.Shaped.{plan_of}
use Rattle.summary.specs.Summary.{line_of}
use Rattle.stages.proofs.Parts as parts
use Rattle.wire.proofs.Receiving as receiving
use Rattle.wire.proofs.inbox.addressed.Goals as goal

pub returns-then-header-ne-MESSAGE : goal.returns-then-header-ne-MESSAGE
returns-then-header-ne-MESSAGE c =
    let A = c.args in
    receiving.other_kind (plan_of A.table.now.layout.sizes.route A.table.now.layout.nest) A.status.now A.processor A.header A.words.now c.if-header-ne-MESSAGE.true

pub returns-then-m-status : goal.returns-then-m-status
returns-then-m-status c =
    let A = c.args in
    receiving.no_item (plan_of A.table.now.layout.sizes.route A.table.now.layout.nest) A.status.now A.processor A.header A.words.now c.if-header-ne-MESSAGE.false
    (omega (arith, c.if-m-status.true, c.requires))

pub nth-place-requires : goal.nth-place-requires
nth-place-requires c = omega (arith, c.if-m-status.false, c.requires)

pub line_at-line-requires : goal.line_at-line-requires
line_at-line-requires c = record { found_in = parts.placed_self c.args.table.now.layout.sizes.route c.args.table.now.layout.nest c.args.header.item c.nth-place.result c.nth-place.ensures }

pub returns-then-header-line : goal.returns-then-header-line
returns-then-header-line c =
    let A = c.args in
    let p = plan_of A.table.now.layout.sizes.route A.table.now.layout.nest in
    receiving.other_sender p A.status.now A.processor A.header A.words.now c.if-header-ne-MESSAGE.false
    (omega (arith, c.if-m-status.false, c.requires)) c.line_at-line.result
    (c.line_at-line.ensures ∙ ap (line_of p) c.nth-place.ensures.number) c.if-header-line.true

pub returns-then-header-line-2 : goal.returns-then-header-line-2
returns-then-header-line-2 c =
    let A = c.args in
    let p = plan_of A.table.now.layout.sizes.route A.table.now.layout.nest in
    receiving.other_taker p A.status.now A.processor A.header A.words.now c.if-header-ne-MESSAGE.false
    (omega (arith, c.if-m-status.false, c.requires)) c.line_at-line.result
    (c.line_at-line.ensures ∙ ap (line_of p) c.nth-place.ensures.number) c.if-header-line.false c.if-header-line-2.true

pub returns-then-line-processor : goal.returns-then-line-processor
returns-then-line-processor c =
    let A = c.args in
    let p = plan_of A.table.now.layout.sizes.route A.table.now.layout.nest in
    receiving.not_here p A.status.now A.processor A.header A.words.now c.if-header-ne-MESSAGE.false
    (omega (arith, c.if-m-status.false, c.requires)) c.line_at-line.result
    (c.line_at-line.ensures ∙ ap (line_of p) c.nth-place.ensures.number) c.if-header-line.false c.if-header-line-2.false c.if-line-processor.true

pub returns-then-is_err : goal.returns-then-is_err
returns-then-is_err c =
    let A = c.args in
    let p = plan_of A.table.now.layout.sizes.route A.table.now.layout.nest in
    receiving.misfit p A.status.now A.processor A.header A.words.now c.if-header-ne-MESSAGE.false
    (omega (arith, c.if-m-status.false, c.requires)) c.line_at-line.result
    (c.line_at-line.ensures ∙ ap (line_of p) c.nth-place.ensures.number) c.if-header-line.false c.if-header-line-2.false c.if-line-processor.false
    c.nth-place.result.words (number_of c.admit.result) c.nth-place.ensures.words
    (receiving.held_few A.table.now.layout.nest A.table.now.layout.sizes c.args.table.now.layout.sized A.header.item (omega (arith, c.if-m-status.false, c.requires)))
    c.admit.ensures (receiving.some_err c.admit.result (sym c.is_err.ensures.value ∙ c.if-is_err.true))

pub bounds-status-m : goal.bounds-status-m
bounds-status-m c = omega (arith, c.if-m-status.false)

pub returns-then-status-m-ne0 : goal.returns-then-status-m-ne0
returns-then-status-m-ne0 c =
    let A = c.args in
    let p = plan_of A.table.now.layout.sizes.route A.table.now.layout.nest in
    receiving.came_before p A.status.now A.processor A.header A.words.now c.if-header-ne-MESSAGE.false
    (omega (arith, c.if-m-status.false, c.requires)) c.line_at-line.result
    (c.line_at-line.ensures ∙ ap (line_of p) c.nth-place.ensures.number) c.if-header-line.false c.if-header-line-2.false c.if-line-processor.false
    c.nth-place.result.words (number_of c.admit.result) c.nth-place.ensures.words
    (receiving.held_few A.table.now.layout.nest A.table.now.layout.sizes c.args.table.now.layout.sized A.header.item (omega (arith, c.if-m-status.false, c.requires)))
    c.admit.ensures (receiving.no_err c.admit.result (sym c.is_err.ensures.value ∙ c.if-is_err.false)) c.if-status-m-ne0.true

pub returns : goal.returns
returns c =
    let A = c.args in
    let p = plan_of A.table.now.layout.sizes.route A.table.now.layout.nest in
    receiving.addressed_here p A.status.now A.processor A.header A.words.now c.if-header-ne-MESSAGE.false
    (omega (arith, c.if-m-status.false, c.requires)) c.line_at-line.result
    (c.line_at-line.ensures ∙ ap (line_of p) c.nth-place.ensures.number) c.if-header-line.false c.if-header-line-2.false c.if-line-processor.false
    c.nth-place.result.words (number_of c.admit.result) c.nth-place.ensures.words
    (receiving.held_few A.table.now.layout.nest A.table.now.layout.sizes c.args.table.now.layout.sized A.header.item (omega (arith, c.if-m-status.false, c.requires)))
    c.admit.ensures (receiving.no_err c.admit.result (sym c.is_err.ensures.value ∙ c.if-is_err.false)) c.if-status-m-ne0.false
