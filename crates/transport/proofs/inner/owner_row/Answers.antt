-- `inner::owner_row` meets its contract: the words passed.
use native.Mathlib.Omega.{arith}
use Rattle.std.specs.Prelude.{length}
use mathlib.Core.Path.{refl}
use Rattle.base.specs.Tests.{pick}
use Rattle.nest.specs.Spans.{within}
use Rattle.base.proofs.Stored as stored
use Rattle.transport.proofs.inner.owner_row.Goals as goal

pub loop-y-init : goal.loop-y-init
loop-y-init c = stored.store_start (λ y. pick (within c.args.s y) c.args.processor c.args.none) c.args.row.now

pub loop-y-preserved : goal.loop-y-preserved
loop-y-preserved c =
    let loop = c.loop-y in
    stored.store_next (λ y. pick (within c.args.s y) c.args.processor c.args.none) c.args.row.now loop.row loop.y _ loop.invariant
    (omega (arith, loop.invariant.long, c.loop-y-test.true)) c.owner_at.ensures

pub shape_of-row : goal.shape_of-row
shape_of-row c = c.loop-y.invariant.long

pub returns : goal.returns
returns c =
    let loop = c.loop-y in
    stored.stored_all (λ y. pick (within c.args.s y) c.args.processor c.args.none) c.args.row.now loop.row loop.y
    (length c.args.row.now) loop.invariant refl (omega (arith, loop.invariant.long, c.loop-y-test.false))
