-- At a refusal nothing of either; else the part that begins where `view_at` says.
use mathlib.Core.Path.{refl}
use native.Mathlib.Omega.{arith}
use Rattle.base.proofs.Codes.{code_some}
use Rattle.sharing.proofs.view.Seeing as seeing
use Rattle.sharing.proofs.view.view.Goals as goal

pub returns-in-Err : goal.returns-in-Err
returns-in-Err c =
    let A = c.args in
    let number = c.in-Err.ensures.0 A.first.now A.second.now refl refl in
    seeing.part_none A.encoded.now A.first.now A.second.now A.tenant A.processor _ number (code_some _)

pub overflow_add-result : goal.overflow_add-result
overflow_add-result c = omega (arith, c.in-Ok.ensures.1.word)

pub offset_bounds-first-start : goal.offset_bounds-first-start
offset_bounds-first-start c = omega (arith, c.in-Ok.ensures.1.word)

pub slice_bounds-result-end-then-tenant-eq0 : goal.slice_bounds-result-end-then-tenant-eq0
slice_bounds-result-end-then-tenant-eq0 c = c.in-Ok.ensures.1.in_first

pub returns-then-tenant-eq0 : goal.returns-then-tenant-eq0
returns-then-tenant-eq0 c =
    let A = c.args in
    let number = c.in-Ok.ensures.0 A.first.now A.second.now refl refl in
    let part = c.in-Ok.ensures.1 in
    seeing.part_first A.encoded.now A.first.now A.second.now A.tenant A.processor 0 number refl
    c.in-Ok.seen.start c.in-Ok.seen.words part.start part.words c.if-tenant-eq0.true

pub overflow_add-result-2 : goal.overflow_add-result-2
overflow_add-result-2 c = omega (arith, c.in-Ok.ensures.1.word)

pub offset_bounds-second-start : goal.offset_bounds-second-start
offset_bounds-second-start c = omega (arith, c.in-Ok.ensures.1.word)

pub slice_bounds-result-end-2 : goal.slice_bounds-result-end-2
slice_bounds-result-end-2 c = c.in-Ok.ensures.1.in_second

pub returns : goal.returns
returns c =
    let A = c.args in
    let number = c.in-Ok.ensures.0 A.first.now A.second.now refl refl in
    let part = c.in-Ok.ensures.1 in
    seeing.part_second A.encoded.now A.first.now A.second.now A.tenant A.processor 0 number refl
    c.in-Ok.seen.start c.in-Ok.seen.words part.start part.words c.if-tenant-eq0.false
