-- Each return is the call by the line that counts.
use mathlib.Core.Path.{refl, sym, ◌∙◌}
use native.Mathlib.Omega.{arith}
use Rattle.std.proofs.Common.{rules}
use Rattle.std.proofs.lemmas.Result.{err_from_is_err_and}
use Rattle.base.proofs.Codes.{code_some}
use Rattle.plan.specs.Shaped.{plan_of}
use Rattle.machine.specs.Machine.{state_of}
use Rattle.plan.proofs.ShapedSound.{sound}
use Rattle.engine.proofs.Lines as lines
use Rattle.schedule.proofs.Called as called
use Rattle.schedule.proofs.drive.Goals as goal

pub returns-in_err-table : goal.returns-in_err-table
returns-in_err-table c =
    let A = c.args in
    let s = state_of A.memories.now A.buffer.now A.progress.now A.status.now in
    let e = err_from_is_err_and c.from_residual.result c.from_residual.ensures.1 in
    rw (e.1, e.2) (called.refused_too A.encoded.now A.source.now s _ (code_some _)
    (lines.fresh_read A.encoded.now 0 A.source.now s _ c.in_err-table.ensures.number (code_some _)))

pub returns-then-not-areas_fit : goal.returns-then-not-areas_fit
returns-then-not-areas_fit c =
    let A = c.args in
    let s = state_of A.memories.now A.buffer.now A.progress.now A.status.now in
    let x = c.in_ok-table.table.layout in
    called.refused_too A.encoded.now A.source.now s 9 (λ q. omega arith) (lines.fresh_area A.encoded.now 0 A.source.now s (plan_of x.sizes.route x.nest)
    c.in_ok-table.ensures.layout.opened (sym (c.areas_fit.ensures.0 A.progress.now refl) ∙ c.if-not-areas_fit.true))

pub all_rounds-requires : goal.all_rounds-requires
all_rounds-requires c =
    let A = c.args in
    let s = state_of A.memories.now A.buffer.now A.progress.now A.status.now in
    let x = c.in_ok-table.table.layout in
    let p = plan_of x.sizes.route x.nest in
    let fits = sym (c.areas_fit.ensures.0 A.progress.now refl) ∙ c.if-not-areas_fit.false in record {
      planned = (lines.areas_are p A.source.now s fits).source;
      status_value = called.fresh_now A.encoded.now A.source.now s p c.in_ok-table.ensures.layout.opened
          (state_of c.fill.new.self c.fill-2.new.self c.fill-3.new.self c.fill-4.new.self)
          (lines.fresh_done A.encoded.now 0 A.source.now s p c.in_ok-table.ensures.layout.opened fits _ _ _ _ (search rules) (search rules) (search rules) (search rules));
    }

pub returns : goal.returns
returns c =
    let A = c.args in
    let s = state_of A.memories.now A.buffer.now A.progress.now A.status.now in
    let x = c.in_ok-table.table.layout in
    let p = plan_of x.sizes.route x.nest in
    let fits = sym (c.areas_fit.ensures.0 A.progress.now refl) ∙ c.if-not-areas_fit.false in
    called.done_too A.encoded.now A.source.now s p c.in_ok-table.ensures.layout.opened (sound x.sizes.route x.nest x.sized.accepted)
    (lines.areas_are p A.source.now s fits).source
    (state_of c.fill.new.self c.fill-2.new.self c.fill-3.new.self c.fill-4.new.self)
    (lines.fresh_done A.encoded.now 0 A.source.now s p c.in_ok-table.ensures.layout.opened fits _ _ _ _ (search rules) (search rules) (search rules) (search rules))
    c.all_rounds.result _ c.all_rounds.ensures
