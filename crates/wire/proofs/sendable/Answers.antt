-- Each return is a law of a line.
use mathlib.Core.Path.{sym, ap, ◌∙◌}
use native.Mathlib.Omega.{arith}
use Rattle.plan.specs.Shaped.{plan_of}
use Rattle.summary.specs.Summary.{line_of}
use Rattle.stages.proofs.Parts as parts
use Rattle.packets.specs.Cut.{chunks_of}
use Rattle.wire.proofs.Sending as sending
use Rattle.wire.proofs.sendable.Goals as goal

pub returns-then-buffer-t : goal.returns-then-buffer-t
returns-then-buffer-t c =
    let A = c.args in
    sending.number_buffer (plan_of A.table.now.layout.sizes.route A.table.now.layout.nest) A.buffer A.status.now A.processor A.message A.chunk A.space
    (λ q. c.if-buffer-t.true (q ∙ sym c.totals-t.ensures.1.0))

pub returns-then-status-t : goal.returns-then-status-t
returns-then-status-t c =
    let A = c.args in
    sending.number_status (plan_of A.table.now.layout.sizes.route A.table.now.layout.nest) A.buffer A.status.now A.processor A.message A.chunk A.space
    (c.if-buffer-t.false ∙ c.totals-t.ensures.1.0) (λ q. c.if-status-t.true (q ∙ sym c.totals-t.ensures.0))

pub returns-then-space-ne-LONGEST : goal.returns-then-space-ne-LONGEST
returns-then-space-ne-LONGEST c =
    let A = c.args in
    sending.number_space (plan_of A.table.now.layout.sizes.route A.table.now.layout.nest) A.buffer A.status.now A.processor A.message A.chunk A.space
    (c.if-buffer-t.false ∙ c.totals-t.ensures.1.0) (c.if-status-t.false ∙ c.totals-t.ensures.0) c.if-space-ne-LONGEST.true

pub returns-then-m-t : goal.returns-then-m-t
returns-then-m-t c =
    let A = c.args in
    sending.number_message (plan_of A.table.now.layout.sizes.route A.table.now.layout.nest) A.buffer A.status.now A.processor A.message A.chunk A.space
    (c.if-buffer-t.false ∙ c.totals-t.ensures.1.0) (c.if-status-t.false ∙ c.totals-t.ensures.0) c.if-space-ne-LONGEST.false
    (omega (arith, c.if-m-t.true, c.totals-t.ensures.0))

pub nth-place-requires : goal.nth-place-requires
nth-place-requires c = omega (arith, c.if-m-t.false, c.totals-t.ensures.0)

pub line_at-line-requires : goal.line_at-line-requires
line_at-line-requires c = record { found_in = parts.placed_self c.args.table.now.layout.sizes.route c.args.table.now.layout.nest c.args.message c.nth-place.result c.nth-place.ensures }

pub returns-then-line-processor : goal.returns-then-line-processor
returns-then-line-processor c =
    let A = c.args in
    let p = plan_of A.table.now.layout.sizes.route A.table.now.layout.nest in
    sending.number_sender p A.buffer A.status.now A.processor A.message A.chunk A.space
    (c.if-buffer-t.false ∙ c.totals-t.ensures.1.0) (c.if-status-t.false ∙ c.totals-t.ensures.0) c.if-space-ne-LONGEST.false
    (omega (arith, c.if-m-t.false, c.totals-t.ensures.0)) c.line_at-line.result
    (c.line_at-line.ensures ∙ ap (line_of p) c.nth-place.ensures.number) c.if-line-processor.true

pub returns-then-chunk-chunks_of : goal.returns-then-chunk-chunks_of
returns-then-chunk-chunks_of c =
    let A = c.args in
    let p = plan_of A.table.now.layout.sizes.route A.table.now.layout.nest in
    sending.number_chunk p A.buffer A.status.now A.processor A.message A.chunk A.space
    (c.if-buffer-t.false ∙ c.totals-t.ensures.1.0) (c.if-status-t.false ∙ c.totals-t.ensures.0) c.if-space-ne-LONGEST.false
    (omega (arith, c.if-m-t.false, c.totals-t.ensures.0)) c.line_at-line.result
    (c.line_at-line.ensures ∙ ap (line_of p) c.nth-place.ensures.number) c.if-line-processor.false
    (omega (
      arith,
      c.if-chunk-chunks_of.true,
      c.chunks_of.ensures ∙ ap chunks_of c.nth-place.ensures.words,
    ))

pub bounds-status-m : goal.bounds-status-m
bounds-status-m c = omega (arith, c.if-m-t.false, c.if-status-t.false)

pub returns-then-status-m-lt2 : goal.returns-then-status-m-lt2
returns-then-status-m-lt2 c =
    let A = c.args in
    let p = plan_of A.table.now.layout.sizes.route A.table.now.layout.nest in
    sending.number_unposted p A.buffer A.status.now A.processor A.message A.chunk A.space
    (c.if-buffer-t.false ∙ c.totals-t.ensures.1.0) (c.if-status-t.false ∙ c.totals-t.ensures.0) c.if-space-ne-LONGEST.false
    (omega (arith, c.if-m-t.false, c.totals-t.ensures.0)) c.line_at-line.result
    (c.line_at-line.ensures ∙ ap (line_of p) c.nth-place.ensures.number) c.if-line-processor.false
    (omega (
      arith,
      c.if-chunk-chunks_of.false,
      c.chunks_of.ensures ∙ ap chunks_of c.nth-place.ensures.words,
    ))
    (omega (arith, c.if-status-m-lt2.true))

pub returns : goal.returns
returns c =
    let A = c.args in
    let p = plan_of A.table.now.layout.sizes.route A.table.now.layout.nest in
    sending.number_none p A.buffer A.status.now A.processor A.message A.chunk A.space
    (c.if-buffer-t.false ∙ c.totals-t.ensures.1.0) (c.if-status-t.false ∙ c.totals-t.ensures.0) c.if-space-ne-LONGEST.false
    (omega (arith, c.if-m-t.false, c.totals-t.ensures.0)) c.line_at-line.result
    (c.line_at-line.ensures ∙ ap (line_of p) c.nth-place.ensures.number) c.if-line-processor.false
    (omega (
      arith,
      c.if-chunk-chunks_of.false,
      c.chunks_of.ensures ∙ ap chunks_of c.nth-place.ensures.words,
    ))
    (omega (arith, c.if-status-m-lt2.false))
