use Rattle.std.proofs.Common.{arith, ap, ◌∙◌, ◌≡◌, length, List, slice_set}
use Rattle.records.specs.declared.Progress.{Progress}
use Rattle.records.specs.Records.{record_in}
use Rattle.records.proofs.Stores.{stored_to, stored_none, stored_more, stores_all, stores_none}
use Rattle.records.proofs.put_all.Goals as goal

pub returns-else-number-eq0 : goal.returns-else-number-eq0
returns-else-number-eq0 c = stores_none _ _ _ c.if-number-eq0.false

pub loop-i-init : goal.loop-i-init
loop-i-init c = stored_none _ _

pub loop-i-preserved : goal.loop-i-preserved
loop-i-preserved c =
    ap (λ (p : Progress). slice_set c.loop-i.progress c.loop-i.i p) c.record_in.ensures
    ∙ ap (λ (l : List Progress). slice_set l c.loop-i.i (record_in c.args.flat c.loop-i.i)) c.loop-i.invariant ∙ stored_more _ _ _ (omega arith)

pub returns-after-loop-i : goal.returns-after-loop-i
returns-after-loop-i c =
    let e : c.loop-i.i ≡ length c.args.progress.now = omega arith in
    c.loop-i.invariant ∙ ap (λ j. stored_to c.args.flat j c.args.progress.now) e ∙ stores_all _ _ _ c.if-number-eq0.true
