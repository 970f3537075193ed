-- `parcels::run_of` meets its contract: the highest of the ends so far, none below the row's first component.
use native.Mathlib.Omega.{arith}
use mathlib.Core.Path.{◌≡◌, ap, ◌∙◌}
use Prim.Native.Nat.{◌<◌, max}
use lib.ListN.{length, take}
use Rattle.std.proofs.lemmas.List.{get_or-take, length-take-le}
use Rattle.parcels.proofs.Windows.{highest_none, highest_more, run_end}
use Rattle.parcels.proofs.run_of.Goals as goal

pub loop-last-init : goal.loop-last-init
loop-last-init c = highest_none _ _ _

pub loop-last-preserved : goal.loop-last-preserved
loop-last-preserved c =
    let long : length (take c.args.n c.args.ends.now) ≡ c.args.n = length-take-le _ _ (omega arith) in
    let low : c.loop-last.last-index < c.args.n = omega arith in
    highest_more _ _ _ _ _ c.loop-last.invariant low _
    (c.max-end.ensures ∙ ap (max c.loop-last.end) (get_or-take c.args.n c.args.ends.now c.loop-last.last-index 0 low))

pub returns : goal.returns
returns c =
    let long : length (take c.args.n c.args.ends.now) ≡ c.args.n = length-take-le _ _ (omega arith) in
    run_end _ _ _ _ _ _ _ c.loop-last.invariant (omega arith) c.min.ensures
