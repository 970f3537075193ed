-- The messages left to look at decide.
use Rattle.stages.proofs.Parts as parts
use Rattle.stages.proofs.ready.Goals as goal

pub returns-then-status-place-ne2 : goal.returns-then-status-place-ne2
returns-then-status-place-ne2 c =
    let A = c.args in
    parts.look_no A.table.now.layout.sizes.route A.table.now.layout.nest A.tile A.status.now c.count_at-n.result c.loop-j.j c.loop-j.invariant
    c.nth_at-place.result c.loop-j-test.true c.nth_at-place.ensures c.if-status-place-ne2.true

pub loop-j-preserved : goal.loop-j-preserved
loop-j-preserved c =
    let A = c.args in
    parts.look_again A.table.now.layout.sizes.route A.table.now.layout.nest A.tile A.status.now c.count_at-n.result c.loop-j.j c.loop-j.invariant
    c.nth_at-place.result c.loop-j-test.true c.nth_at-place.ensures c.if-status-place-ne2.false

pub returns : goal.returns
returns c =
    let A = c.args in
    parts.look_done A.table.now.layout.sizes.route A.table.now.layout.nest A.tile A.status.now c.count_at-n.result c.loop-j.j c.loop-j.invariant
    c.loop-j-test.false
