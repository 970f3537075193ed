-- `soundings::fill_read` meets its contract: one law for each return.
use mathlib.Core.Path.{sym, ◌∙◌}
use Rattle.std.proofs.lemmas.Result.{err_from_is_err_and}
use Rattle.nest.proofs.Answers.{none_read, accepted_read}
use Rattle.base.proofs.Codes.{code_some}
use Rattle.layout.proofs.Cells.{lengths_countable}
use Rattle.soundings.proofs.Returns as R
use Rattle.soundings.proofs.fill_read.Goals as goal

pub returns-then-ragged : goal.returns-then-ragged
returns-then-ragged c = R.ragged_1 _ _ _ _ (sym c.ragged.ensures ∙ c.if-ragged.true)

pub returns-in_err-nest : goal.returns-in_err-nest
returns-in_err-nest c =
    let p = err_from_is_err_and c.from_residual.result c.from_residual.ensures.1 in
    rw (p.1, p.2)
    (R.read_number _ _ _ _ (sym c.ragged.ensures ∙ c.if-ragged.false) _ c.in_err-nest.ensures.number (code_some _))

pub product-requires : goal.product-requires
product-requires c = lengths_countable _ (accepted_read c.in_ok-nest.ensures)

pub returns-then-source-product : goal.returns-then-source-product
returns-then-source-product c =
    let A = c.args in
    R.length_9 A.encoded.now A.file.now A.value A.source.now (sym c.ragged.ensures ∙ c.if-ragged.false) (none_read c.in_ok-nest.ensures)
    (λ q. c.if-source-product.true (q ∙ sym (R.size_is c.in_ok-nest.ensures _ c.product.ensures)))

pub fill_source-requires : goal.fill_source-requires
fill_source-requires c = R.size_most c.in_ok-nest.ensures _ c.product.ensures _ c.if-source-product.false

pub returns : goal.returns
returns c =
    let A = c.args in
    R.right A.encoded.now A.file.now A.value A.source.now (sym c.ragged.ensures ∙ c.if-ragged.false) (none_read c.in_ok-nest.ensures) _
    c.fill_source.ensures (c.if-source-product.false ∙ R.size_is c.in_ok-nest.ensures _ c.product.ensures)
