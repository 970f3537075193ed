-- `inner::mark_undelivered` meets its contract: the messages due that were looked at.
use native.Mathlib.Omega.{arith}
use Rattle.std.specs.Prelude.{length}
use mathlib.Core.Path.{◌∙◌, sym, ap}
use mathlib.Core.Logic.{inl, inr}
use lib.ListN.{length-replicate}
use Rattle.machine.specs.Plan.{count}
use Rattle.plan.specs.Shaped.{plan_of}
use Rattle.transport.proofs.Awaiting as waiting
use Rattle.transport.proofs.inner.mark_undelivered.Goals as goal
use Rattle.transport.proofs.inner.mark_undelivered.Goals.{then-status-number-ne2, else-status-number-ne2}

pub count_at-n-requires : goal.count_at-n-requires
count_at-n-requires c = c.requires.planned

pub loop-j-init : goal.loop-j-init
loop-j-init c =
    let count_at = c.count_at-n in
    waiting.mark_start (plan_of c.args.table.now.layout.sizes.route c.args.table.now.layout.nest) c.args.status.now c.args.tile c.args.marks.now
    count_at.result count_at.ensures.0 c.requires.status_len.1

pub nth_at-place-requires : goal.nth_at-place-requires
nth_at-place-requires c = record { sized = c.requires.planned; j_in_bounds = omega (arith, c.count_at-n.ensures.0, c.loop-j-test.true) }

pub bounds-status-number : goal.bounds-status-number
bounds-status-number c =
    let nth-at = c.nth_at-place in
    omega (arith, nth-at.ensures.number, nth-at.ensures.low, c.requires.status_len.0)

pub bounds-marks-number : goal.bounds-marks-number
bounds-marks-number c =
    let nth-at = c.nth_at-place in
    omega (arith, nth-at.ensures.number, nth-at.ensures.low, c.loop-j.invariant.long)

pub loop-j-preserved : goal.loop-j-preserved
loop-j-preserved c =
    let loop = c.loop-j in
    let nth-at = c.nth_at-place in
    waiting.mark_next (plan_of c.args.table.now.layout.sizes.route c.args.table.now.layout.nest) c.args.status.now c.args.tile loop.marks c.count_at-n.result
    loop.j loop.invariant c.loop-j-test.true nth-at.result.number nth-at.ensures.number
    (omega (arith, nth-at.ensures.number, nth-at.ensures.low)) c.if-status-number-ne2.marks (elim c.if-status-number-ne2.branch [ then-status-number-ne2 w ↦ inl (w.if-status-number-ne2.true, w.marks-is) | else-status-number-ne2 w ↦ inr (w.if-status-number-ne2.false, w.marks-is) ])

pub shape_of-marks : goal.shape_of-marks
shape_of-marks c = c.loop-j.invariant.long ∙ sym (ap length c.requires.status_len.1 ∙ length-replicate (count (plan_of c.args.table.now.layout.sizes.route c.args.table.now.layout.nest)) 0)

pub returns : goal.returns
returns c =
    let loop = c.loop-j in
    waiting.mark_done (plan_of c.args.table.now.layout.sizes.route c.args.table.now.layout.nest) c.args.status.now c.args.tile loop.marks
    c.count_at-n.result loop.j loop.invariant c.loop-j-test.false
