-- Each return by the line that counts.
use Rattle.std.specs.Prelude.{◌-◌, take, drop}
use mathlib.Core.Path.{refl, sym, ◌∙◌}
use Rattle.std.proofs.lemmas.Result.{err_from_is_err_and}
use Rattle.base.proofs.Codes.{code_some}
use Rattle.machine.specs.Machine.{state_of}
use Rattle.layout.specs.Laid.{plan_of_layout}
use Rattle.tables.specs.Given.{plan_of_table}
use Rattle.engine.proofs.Reading as reading
use Rattle.wire.specs.Wire.{inbox_of}
use Rattle.wire.proofs.Receiving as receiving
use Rattle.wire.proofs.inbox.take_in.Goals as goal

pub returns-in_err-layout : goal.returns-in_err-layout
returns-in_err-layout c =
    let A = c.args in
    let e = err_from_is_err_and c.from_residual.result c.from_residual.ensures.1 in
    λ l h. rw (e.1, e.2)
    (receiving.receive_read A.encoded.now A.route A.run A.source.now (state_of A.memories.now A.buffer.now l A.status.now) A.processor A.packet.now
    (inbox_of A.parts.now A.masks.now) _ c.in_err-layout.ensures.number (code_some _))

pub returns-in_err-reading : goal.returns-in_err-reading
returns-in_err-reading c =
    let A = c.args in
    let e = err_from_is_err_and c.from_residual-in_err-reading.result c.from_residual-in_err-reading.ensures.1 in
    λ l h. rw (e.1, e.2)
    (receiving.receive_damaged A.encoded.now A.route A.run A.source.now (state_of A.memories.now A.buffer.now l A.status.now) A.processor A.packet.now
    (inbox_of A.parts.now A.masks.now) (plan_of_layout c.in_ok-layout.layout) c.in_ok-layout.ensures.layout.opened _ c.in_err-reading.ensures.number
    (code_some _))

pub returns-then-not-inbox_fits : goal.returns-then-not-inbox_fits
returns-then-not-inbox_fits c =
    let A = c.args in
    λ l h. receiving.receive_inbox A.encoded.now A.route A.run A.source.now (state_of A.memories.now A.buffer.now l A.status.now) A.processor A.packet.now
    (inbox_of A.parts.now A.masks.now) (plan_of_table c.of-table.result) (receiving.opened_with c.in_ok-layout.ensures.layout c.of-table.result c.of-table.ensures)
    0 c.in_ok-reading.ensures.number refl (sym c.inbox_fits.ensures ∙ c.if-not-inbox_fits.true)

pub returns-in_err-check_areas : goal.returns-in_err-check_areas
returns-in_err-check_areas c =
    let A = c.args in
    let e = err_from_is_err_and c.from_residual-in_err-check_areas.result c.from_residual-in_err-check_areas.ensures.1 in
    λ l h. rw (e.1, e.2)
    (receiving.receive_unfit A.encoded.now A.route A.run A.source.now (state_of A.memories.now A.buffer.now l A.status.now) A.processor A.packet.now
    (inbox_of A.parts.now A.masks.now) (plan_of_table c.of-table.result) (receiving.opened_with c.in_ok-layout.ensures.layout c.of-table.result c.of-table.ensures)
    0 c.in_ok-reading.ensures.number refl (sym c.inbox_fits.ensures ∙ c.if-not-inbox_fits.false) _ (c.in_err-check_areas.ensures.0 l h) (code_some _))

pub slice_bounds-take_packet-end : goal.slice_bounds-take_packet-end
slice_bounds-take_packet-end c = c.in_ok-reading.ensures.reading.fits

pub take_packet-requires : goal.take_packet-requires
take_packet-requires c =
    let A = c.args in
    let l = take (A.progress.count - 0) (drop 0 A.progress.words) in
    let few = reading.few_words _ _ c.of-table.result.layout.sized A.progress.count c.in_ok-check_areas.ensures.1 in
    receiving.may_receive A.encoded.now A.route A.run A.source.now (state_of A.memories.now A.buffer.now l A.status.now) A.processor A.packet.now
    (inbox_of A.parts.now A.masks.now) (plan_of_table c.of-table.result) (receiving.opened_with c.in_ok-layout.ensures.layout c.of-table.result c.of-table.ensures)
    0 c.in_ok-reading.ensures.number refl (sym c.inbox_fits.ensures ∙ c.if-not-inbox_fits.false) 0
    (c.in_ok-check_areas.ensures.0 l (reading.part_carries A.progress c.requires few)) refl

pub returns : goal.returns
returns c =
    let A = c.args in
    λ l h. receiving.receive_packet A.encoded.now A.route A.run A.source.now (state_of A.memories.now A.buffer.now l A.status.now) A.processor A.packet.now
    (inbox_of A.parts.now A.masks.now) (plan_of_table c.of-table.result) (receiving.opened_with c.in_ok-layout.ensures.layout c.of-table.result c.of-table.ensures)
    0 c.in_ok-reading.ensures.number refl (sym c.inbox_fits.ensures ∙ c.if-not-inbox_fits.false) 0 (c.in_ok-check_areas.ensures.0 l h) refl
    c.in_ok-reading.reading _ c.in_ok-reading.ensures.reading _ (c.take_packet.ensures A.memories.now l)
