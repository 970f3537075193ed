-- `reader::read` meets its contract: one law for each return.
use mathlib.Core.Path.{sym, ◌∙◌}
use native.Mathlib.Omega.{arith}
use Rattle.std.proofs.lemmas.Result.{err_from_is_err_and}
use Rattle.nest.proofs.Answers as N
use Rattle.reader.proofs.read.Goals as goal

pub returns-then-ragged : goal.returns-then-ragged
returns-then-ragged c = N.answer_1 c.args.encoded.now (sym c.ragged.ensures ∙ c.if-ragged.true)

pub returns-then-not-well_formed : goal.returns-then-not-well_formed
returns-then-not-well_formed c =
    N.answer_2 c.args.encoded.now _ _ _ (sym c.ragged.ensures ∙ c.if-ragged.false) c.count_kind-n.ensures
    c.count_kind-b.ensures c.count_distances-e.ensures (sym c.well_formed-2.ensures ∙ c.if-not-well_formed.true)

pub nest_by-nest-requires : goal.nest_by-nest-requires
nest_by-nest-requires c =
    N.room_for c.args.encoded.now _ _ _ (sym c.ragged.ensures ∙ c.if-ragged.false) c.count_kind-n.ensures
    c.count_kind-b.ensures c.count_distances-e.ensures (sym c.well_formed-2.ensures ∙ c.if-not-well_formed.false)

pub check_lines-requires : goal.check_lines-requires
check_lines-requires c =
    N.sized c.args.encoded.now _ _ _ (sym c.ragged.ensures ∙ c.if-ragged.false) c.count_kind-n.ensures
    c.count_kind-b.ensures c.count_distances-e.ensures (sym c.well_formed-2.ensures
    ∙ c.if-not-well_formed.false) _ c.nest_by-nest.ensures (λ i. omega (arith, c.type_inv.encoded i))

pub returns-in_err-check_lines : goal.returns-in_err-check_lines
returns-in_err-check_lines c =
    let p = err_from_is_err_and c.from_residual.result c.from_residual.ensures.1 in
    rw (p.1, p.2)
    (N.answer_more c.args.encoded.now _ _ _ (sym c.ragged.ensures ∙ c.if-ragged.false) c.count_kind-n.ensures
    c.count_kind-b.ensures c.count_distances-e.ensures (sym c.well_formed-2.ensures
    ∙ c.if-not-well_formed.false) _ c.nest_by-nest.ensures _ c.needlessly_wide.ensures _ c.in_err-check_lines.ensures)

pub returns : goal.returns
returns c =
    N.answer_0 c.args.encoded.now _ _ _ (sym c.ragged.ensures ∙ c.if-ragged.false) c.count_kind-n.ensures
    c.count_kind-b.ensures c.count_distances-e.ensures (sym c.well_formed-2.ensures
    ∙ c.if-not-well_formed.false) _ c.nest_by-nest.ensures _ c.needlessly_wide.ensures c.in_ok-check_lines.ensures
    (λ i. omega (arith, c.type_inv.encoded i))
