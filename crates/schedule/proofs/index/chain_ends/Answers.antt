-- From the last message on.
use native.Mathlib.Omega.{arith}
use mathlib.Core.Path.{ap, ◌∙◌, subst}
use Rattle.std.specs.Prelude.{ℕ}
use Rattle.plan.specs.Shaped.{plan_of}
use Rattle.machine.specs.Plan.{count}
use Rattle.tables.specs.boxes.Table.{end_of}
use Rattle.schedule.specs.Index.{ChainedFrom}
use Rattle.schedule.proofs.Chains as chains
use Rattle.schedule.proofs.Telling as telling
use Rattle.schedule.proofs.index.chain_ends.Goals as goal

pub clear-requires : goal.clear-requires
clear-requires c = (c.requires.planned.1, omega (arith, c.requires.messages_value, c.requires.planned.0.few))

pub loop-m-init : goal.loop-m-init
loop-m-init c =
    let clear = c.clear in (
      chains.chain_start (end_of c.args.side (plan_of c.args.table.now.layout.sizes.route c.args.table.now.layout.nest))
          (count (plan_of c.args.table.now.layout.sizes.route c.args.table.now.layout.nest)) _ _ c.requires.messages_value clear.ensures.0 clear.ensures.1,
      omega (arith, c.requires.messages_value),
    )

pub spot-place-requires : goal.spot-place-requires
spot-place-requires c = (c.requires.planned.0, omega (arith, c.loop-m-test.true, c.loop-m.invariant.1))

pub end_of-tile-requires : goal.end_of-tile-requires
end_of-tile-requires c = (c.steps_of-steps.ensures, telling.found_self _ _ _ _ c.spot-place.ensures)

pub link-requires : goal.link-requires
link-requires c =
    let loop = c.loop-m in
    (loop.invariant.0.long, (omega (arith, c.loop-m-test.true, loop.invariant.1, c.requires.planned.0.few), c.end_of-tile.ensures.1))

pub loop-m-preserved : goal.loop-m-preserved
loop-m-preserved c =
    let loop = c.loop-m in
    let end_of_lem = c.end_of-tile in (
      chains.chain_more (end_of c.args.side (plan_of c.args.table.now.layout.sizes.route c.args.table.now.layout.nest)) (count (plan_of c.args.table.now.layout.sizes.route c.args.table.now.layout.nest)) _ _
          loop.invariant.0 c.loop-m-test.true loop.invariant.1 c.requires.planned.0.few _
          (end_of_lem.ensures.0 ∙ ap (end_of c.args.side (plan_of c.args.table.now.layout.sizes.route c.args.table.now.layout.nest)) c.spot-place.ensures.number)
          end_of_lem.ensures.1
          _ c.link.ensures,
      omega (arith, loop.invariant.1),
    )

pub returns : goal.returns
returns c =
    let loop = c.loop-m in
    subst (λ (i : ℕ). ChainedFrom (end_of c.args.side (plan_of c.args.table.now.layout.sizes.route c.args.table.now.layout.nest))
    (count (plan_of c.args.table.now.layout.sizes.route c.args.table.now.layout.nest)) i loop.chain) (omega (arith, c.loop-m-test.false)) loop.invariant.0
