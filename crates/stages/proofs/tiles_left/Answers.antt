-- No processor passed has tiles left.
use mathlib.Core.Path.{sym}
use native.Mathlib.Omega.{arith}
use borrow.Author.Tests.{lt-ltb, le-ltb}
use Rattle.base.proofs.Tests.{some_one}
use Rattle.machine.specs.Machine.{tiles_left}
use Rattle.plan.specs.Shaped.{plan_of}
use Rattle.stages.specs.Progress.{progress_only}
use Rattle.base.proofs.Loops as loops
use Rattle.stages.proofs.tiles_left.Goals as goal

pub loop-b-init : goal.loop-b-init
loop-b-init c = loops.some_start _

pub returns-then-finished-all : goal.returns-then-finished-all
unfolding tiles_left
returns-then-finished-all c =
    let A = c.args in
    sym
    (some_one (tiles_left (plan_of A.table.now.layout.sizes.route A.table.now.layout.nest) (progress_only A.progress.now)) _ c.loop-b.b
    (omega (arith, c.args.table.now.layout.sized.processors)) (lt-ltb _ _ (omega (arith, c.tile_count-all.ensures.0))))

pub loop-b-preserved : goal.loop-b-preserved
unfolding tiles_left
loop-b-preserved c =
    let A = c.args in
    loops.some_step (tiles_left (plan_of A.table.now.layout.sizes.route A.table.now.layout.nest) (progress_only A.progress.now)) c.loop-b.b c.loop-b.invariant
    (le-ltb _ _ (omega (arith, c.tile_count-all.ensures.0)))
