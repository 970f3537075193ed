-- Tiles left are those of the machine, the word is compared where there are any.
use native.Mathlib.Omega.{arith}
use Rattle.plan.specs.Shaped.{plan_of}
use Rattle.sharing.proofs.Tests as tests
use Rattle.sharing.proofs.admission.held_by_other.Goals as goal

pub returns-then-finished-n : goal.returns-then-finished-n
returns-then-finished-n c =
    let tile-count = c.tile_count-n in
    let if1 = c.if-finished-n in
    let A = c.args in
    tests.held_over (plan_of A.table.now.layout.sizes.route A.table.now.layout.nest) A.tenant A.progress.now A.engaged.now A.b
    (omega (arith, tile-count.ensures.0, if1.true))

pub returns : goal.returns
returns c =
    let tile-count = c.tile_count-n in
    let if1 = c.if-finished-n in
    let other = c.other in
    let A = c.args in
    tests.held_left (plan_of A.table.now.layout.sizes.route A.table.now.layout.nest) A.tenant A.progress.now A.engaged.now A.b (omega (
      arith,
      tile-count.ensures.0,
      if1.false,
    )) other.result other.ensures
