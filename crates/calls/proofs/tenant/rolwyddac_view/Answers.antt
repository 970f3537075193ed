-- Each return is what the view tells by the line that counts; a part's place fits in a word.
use mathlib.Core.Path.{refl, ◌∙◌}
use native.Mathlib.Omega.{arith}
use Rattle.base.proofs.Codes.{code_some}
use Rattle.calls.proofs.View as L
use Rattle.calls.proofs.tenant.rolwyddac_view.Goals as goal

pub overflow_cast-result : goal.overflow_cast-result
overflow_cast-result c = omega (arith, c.in-Ok.ensures.1.word)

pub overflow_cast-result-in-Ok : goal.overflow_cast-result-in-Ok
overflow_cast-result-in-Ok c = omega (arith, c.in-Ok.ensures.1.word)

pub returns-in-Ok : goal.returns-in-Ok
returns-in-Ok c =
    let A = c.args in
    L.view_done A.encoded.now A.first.now A.second.now A.tenant A.processor 0 (c.in-Ok.ensures.0 A.first.now A.second.now refl refl) refl _ _
    c.in-Ok.ensures.1.start c.in-Ok.ensures.1.words

pub returns-in-Err : goal.returns-in-Err
returns-in-Err c =
    let A = c.args in
    c.no_view.ensures
    ∙ L.view_none A.encoded.now A.first.now A.second.now A.tenant A.processor _ (c.in-Err.ensures.0 A.first.now A.second.now refl refl)
    (code_some c.in-Err.refusal)
