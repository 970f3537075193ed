-- Refused by a line; or its chunk is put to what came, and the message is whole or not.
use mathlib.Core.Path.{refl, sym}
use Rattle.std.proofs.lemmas.Result.{err_from_is_err_and}
use Rattle.std.specs.Prelude.{[]}
use native.Mathlib.Omega.{arith}
use Rattle.plan.specs.Shaped.{plan_of}
use Rattle.machine.specs.Machine.{state_of}
use Rattle.wire.specs.Wire.{inbox_of}
use Rattle.base.proofs.Codes.{code_some}
use Rattle.wire.proofs.Receiving as receiving
use Rattle.wire.proofs.inbox.take_packet.Goals as goal

pub returns-in_err-addressed : goal.returns-in_err-addressed
returns-in_err-addressed c =
    let A = c.args in
    let e = err_from_is_err_and c.from_residual.result c.from_residual.ensures.1 in
    λ ms l. rw (e.1, e.2)
    (receiving.took_none (plan_of A.table.now.layout.sizes.route A.table.now.layout.nest) (state_of ms A.buffer.now l A.status.now) A.processor A.header
    A.words.now (inbox_of A.parts.now A.masks.now) _ c.in_err-addressed.ensures (code_some _))

pub nth-place-requires : goal.nth-place-requires
nth-place-requires c =
    let A = c.args in
    let known = receiving.addressed (plan_of A.table.now.layout.sizes.route A.table.now.layout.nest) A.status.now A.processor A.header A.words.now
    (sym c.in_ok-addressed.ensures) in
    omega (arith, known.low)

pub overflow_add-end : goal.overflow_add-end
overflow_add-end c =
    let A = c.args in
    omega (
      arith,
      receiving.room A.table.now.layout.sizes.route A.table.now.layout.nest A.table.now.layout.sizes c.args.table.now.layout.sized refl (state_of [] A.buffer.now [] A.status.now) A.processor
          A.header A.words.now (inbox_of A.parts.now A.masks.now) c.requires (sym c.in_ok-addressed.ensures) A.header.item
          refl c.nth-place.result c.nth-place.ensures,
    )

pub offset_bounds-parts-at : goal.offset_bounds-parts-at
offset_bounds-parts-at c =
    let A = c.args in
    omega (
      arith,
      receiving.room A.table.now.layout.sizes.route A.table.now.layout.nest A.table.now.layout.sizes c.args.table.now.layout.sized refl (state_of [] A.buffer.now [] A.status.now) A.processor
          A.header A.words.now (inbox_of A.parts.now A.masks.now) c.requires (sym c.in_ok-addressed.ensures) A.header.item
          refl c.nth-place.result c.nth-place.ensures,
    )

pub slice_bounds-take_chunk-end : goal.slice_bounds-take_chunk-end
slice_bounds-take_chunk-end c =
    let A = c.args in
    receiving.room A.table.now.layout.sizes.route A.table.now.layout.nest A.table.now.layout.sizes c.args.table.now.layout.sized refl (state_of [] A.buffer.now [] A.status.now) A.processor
    A.header A.words.now (inbox_of A.parts.now A.masks.now) c.requires (sym c.in_ok-addressed.ensures) A.header.item
    refl c.nth-place.result c.nth-place.ensures

pub offset_bounds-masks-m : goal.offset_bounds-masks-m
offset_bounds-masks-m c = omega (arith, c.nth-place.ensures.low, c.requires.masks_long)

pub bounds-masks-m : goal.bounds-masks-m
bounds-masks-m c = omega (arith, c.nth-place.ensures.low, c.requires.masks_long)

pub offset_bounds-masks-m-2 : goal.offset_bounds-masks-m-2
offset_bounds-masks-m-2 c = omega (arith, c.nth-place.ensures.low, c.requires.masks_long)

pub bounds-masks-m-2 : goal.bounds-masks-m-2
bounds-masks-m-2 c = omega (arith, c.nth-place.ensures.low, c.requires.masks_long)

pub returns-then-taken-eq0 : goal.returns-then-taken-eq0
returns-then-taken-eq0 c =
    let A = c.args in
    λ ms l. receiving.took_part A.table.now.layout.sizes.route A.table.now.layout.nest A.table.now.layout.sizes c.args.table.now.layout.sized refl (state_of ms A.buffer.now l A.status.now) A.processor
    A.header A.words.now (inbox_of A.parts.now A.masks.now) c.requires (sym c.in_ok-addressed.ensures) A.header.item
    refl c.nth-place.result c.nth-place.ensures c.take_chunk-taken.result c.take_chunk-taken.new.area c.take_chunk-taken.auto.area
    c.take_chunk-taken.ensures c.if-taken-eq0.true

pub offset_bounds-parts-at-2 : goal.offset_bounds-parts-at-2
offset_bounds-parts-at-2 c =
    let A = c.args in
    omega (
      arith,
      receiving.room A.table.now.layout.sizes.route A.table.now.layout.nest A.table.now.layout.sizes c.args.table.now.layout.sized refl (state_of [] A.buffer.now [] A.status.now) A.processor
          A.header A.words.now (inbox_of A.parts.now A.masks.now) c.requires (sym c.in_ok-addressed.ensures) A.header.item
          refl c.nth-place.result c.nth-place.ensures,
    )

pub slice_bounds-receive-end : goal.slice_bounds-receive-end
slice_bounds-receive-end c =
    let A = c.args in
    receiving.room_then A.table.now.layout.sizes.route A.table.now.layout.nest A.table.now.layout.sizes c.args.table.now.layout.sized refl (state_of [] A.buffer.now [] A.status.now)
    A.processor A.header A.words.now (inbox_of A.parts.now A.masks.now) c.requires (sym c.in_ok-addressed.ensures)
    A.header.item refl c.nth-place.result c.nth-place.ensures c.take_chunk-taken.result c.take_chunk-taken.new.area
    c.take_chunk-taken.auto.area c.take_chunk-taken.ensures

pub receive-requires : goal.receive-requires
receive-requires c =
    let A = c.args in
    receiving.may_take A.table.now.layout.sizes.route A.table.now.layout.nest A.table.now.layout.sizes c.args.table.now.layout.sized refl (state_of [] A.buffer.now [] A.status.now)
    A.processor A.header A.words.now (inbox_of A.parts.now A.masks.now) c.requires (sym c.in_ok-addressed.ensures)
    A.header.item refl c.nth-place.result c.nth-place.ensures c.take_chunk-taken.result c.take_chunk-taken.new.area
    c.take_chunk-taken.auto.area c.take_chunk-taken.ensures

pub returns-in_err-receive : goal.returns-in_err-receive
returns-in_err-receive c =
    let A = c.args in
    λ ms l. absurd (receiving.took_refused A.table.now.layout.sizes.route A.table.now.layout.nest A.table.now.layout.sizes c.args.table.now.layout.sized refl (state_of ms A.buffer.now l A.status.now)
    A.processor A.header A.words.now (inbox_of A.parts.now A.masks.now) c.requires (sym c.in_ok-addressed.ensures)
    A.header.item refl c.nth-place.result c.nth-place.ensures c.take_chunk-taken.result c.take_chunk-taken.new.area
    c.take_chunk-taken.auto.area c.take_chunk-taken.ensures _ _ (c.in_err-receive.ensures ms l))

pub returns : goal.returns
returns c =
    let A = c.args in
    λ ms l. receiving.took_whole A.table.now.layout.sizes.route A.table.now.layout.nest A.table.now.layout.sizes c.args.table.now.layout.sized refl (state_of ms A.buffer.now l A.status.now)
    A.processor A.header A.words.now (inbox_of A.parts.now A.masks.now) c.requires (sym c.in_ok-addressed.ensures)
    A.header.item refl c.nth-place.result c.nth-place.ensures c.take_chunk-taken.result c.take_chunk-taken.new.area
    c.take_chunk-taken.auto.area c.take_chunk-taken.ensures c.if-taken-eq0.false _ (c.in_ok-receive.ensures ms l)
