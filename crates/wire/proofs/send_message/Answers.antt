-- The number, or the packet of its chunk.
use Rattle.std.specs.Prelude.{length}
use mathlib.Core.Path.{sym}
use native.Mathlib.Omega.{arith}
use Rattle.std.proofs.lemmas.Result.{err_from_is_err_and}
use Rattle.base.specs.Refusals.{code}
use Rattle.base.proofs.Codes.{code_some}
use Rattle.plan.specs.Shaped.{plan_of}
use Rattle.stages.proofs.Parts as parts
use Rattle.transport.proofs.arrivals.Taking as taking
use Rattle.wire.proofs.Receiving.{held_few}
use Rattle.wire.proofs.Sending as sending
use Rattle.wire.proofs.send_message.Goals as goal

pub returns-in_err-sendable : goal.returns-in_err-sendable
returns-in_err-sendable c =
    let A = c.args in
    let p = err_from_is_err_and c.from_residual.result c.from_residual.ensures.1 in
    rw (p.1, p.2) (sending.sent_no (plan_of A.table.now.layout.sizes.route A.table.now.layout.nest) A.fingerprint A.run A.life A.buffer.now A.status.now A.processor A.message
    A.chunk A.space.now (code c.in_err-sendable.field-0.0) c.in_err-sendable.ensures (code_some c.in_err-sendable.field-0.0))

pub nth-place-requires : goal.nth-place-requires
nth-place-requires c =
    let A = c.args in
    let known = sending.sendable (plan_of A.table.now.layout.sizes.route A.table.now.layout.nest) (length A.buffer.now) A.status.now A.processor A.message A.chunk
    (length A.space.now) (sym c.in_ok-sendable.ensures) in
    omega (arith, known.low)

pub line_at-line-requires : goal.line_at-line-requires
line_at-line-requires c = record { found_in = parts.placed_self c.args.table.now.layout.sizes.route c.args.table.now.layout.nest c.args.message c.nth-place.result c.nth-place.ensures }

pub overflow_add-end : goal.overflow_add-end
overflow_add-end c =
    let A = c.args in
    let known = sending.sendable (plan_of A.table.now.layout.sizes.route A.table.now.layout.nest) (length A.buffer.now) A.status.now A.processor A.message A.chunk
    (length A.space.now) (sym c.in_ok-sendable.ensures) in
    omega (
      arith,
      taking.room A.table.now.layout.sizes.route A.table.now.layout.nest c.args.message c.nth-place.result c.nth-place.ensures A.buffer.now known.buffer_long,
    )

pub offset_bounds-buffer-at : goal.offset_bounds-buffer-at
offset_bounds-buffer-at c =
    let A = c.args in
    let known = sending.sendable (plan_of A.table.now.layout.sizes.route A.table.now.layout.nest) (length A.buffer.now) A.status.now A.processor A.message A.chunk
    (length A.space.now) (sym c.in_ok-sendable.ensures) in
    omega (
      arith,
      taking.room A.table.now.layout.sizes.route A.table.now.layout.nest c.args.message c.nth-place.result c.nth-place.ensures A.buffer.now known.buffer_long,
    )

pub slice_bounds-write_chunk-end : goal.slice_bounds-write_chunk-end
slice_bounds-write_chunk-end c =
    let A = c.args in
    let known = sending.sendable (plan_of A.table.now.layout.sizes.route A.table.now.layout.nest) (length A.buffer.now) A.status.now A.processor A.message A.chunk
    (length A.space.now) (sym c.in_ok-sendable.ensures) in
    taking.room A.table.now.layout.sizes.route A.table.now.layout.nest c.args.message c.nth-place.result c.nth-place.ensures A.buffer.now known.buffer_long

pub returns : goal.returns
returns c =
    let A = c.args in
    let p = plan_of A.table.now.layout.sizes.route A.table.now.layout.nest in
    let z = sym c.in_ok-sendable.ensures in
    let known = sending.sendable p (length A.buffer.now) A.status.now A.processor A.message A.chunk (length A.space.now) z in
    sending.sent_yes p A.fingerprint A.run A.life A.buffer.now A.status.now A.processor A.message A.chunk A.space.now
    z (held_few A.table.now.layout.nest A.table.now.layout.sizes c.args.table.now.layout.sized A.message known.low) _
    (sending.sent_found A.table.now.layout.sizes.route A.table.now.layout.nest A.fingerprint A.run A.life A.buffer.now A.message A.chunk
    A.space.now c.nth-place.result c.nth-place.ensures c.line_at-line.result c.line_at-line.ensures _ c.write_chunk.ensures)
