-- The latest round so far of the tiles that mail to it.
use native.Mathlib.Decide.{dec_lt}
use native.Mathlib.Omega.{arith}
use Rattle.std.proofs.Common.{rules}
use mathlib.Core.Path.{ap, ◌∙◌}
use Rattle.std.specs.Prelude.{ℕ, get_or}
use mathlib.Core.Logic.{inl, inr}
use Rattle.machine.specs.Plan.{count, sender_of, taker_of}
use Rattle.plan.proofs.ShapedSound.{sound}
use Rattle.plan.specs.Shaped.{plan_of}
use Rattle.schedule.proofs.Laws.{tiles_low}
use Rattle.schedule.proofs.Listing as L
use Rattle.schedule.proofs.Chains as chains
use Rattle.schedule.proofs.Telling as telling
use Rattle.schedule.proofs.round_at.Goals as goal

pub first-m-requires : goal.first-m-requires
first-m-requires c = (c.requires.dued.0.by_taker, omega (arith, c.requires.dued.1, L.tiles_few _ _ _ c.args.table.now.layout.sized c.args.table.now.tabled))

pub loop-m-init : goal.loop-m-init
loop-m-init c =
    telling.walk_dues_start (plan_of c.args.table.now.layout.sizes.route c.args.table.now.layout.nest)
    (sound c.args.table.now.layout.sizes.route c.args.table.now.layout.nest c.args.table.now.layout.sized.accepted) c.args.tile c.requires.dued.1 c.args.last _ c.first-m.ensures

pub spot-place-requires : goal.spot-place-requires
spot-place-requires c = (c.requires.dued.0.listed, omega (arith, c.loop-m-test.true, c.requires.dued.0.all))

pub sender_at-sender-requires : goal.sender_at-sender-requires
sender_at-sender-requires c =
    let spot = c.spot-place in
    telling.found_self _ _ _ spot.result spot.ensures

pub bounds-rounds-sender : goal.bounds-rounds-sender
bounds-rounds-sender c =
    let sender_at_lem = c.sender_at-sender in
    let loop = c.loop-m in
    telling.in_table (plan_of c.args.table.now.layout.sizes.route c.args.table.now.layout.nest) c.args.tile c.args.rounds.now c.requires.tells_to.0 c.requires.dued.1
    sender_at_lem.result _ (sender_at_lem.ensures ∙ ap (sender_of (plan_of c.args.table.now.layout.sizes.route c.args.table.now.layout.nest)) c.spot-place.ensures.number)
    (telling.walk_sender_low (plan_of c.args.table.now.layout.sizes.route c.args.table.now.layout.nest) (sound c.args.table.now.layout.sizes.route c.args.table.now.layout.nest
    c.args.table.now.layout.sized.accepted) c.args.tile c.requires.dued.1 c.args.last loop.latest loop.m loop.invariant
    (omega (arith, c.loop-m-test.true, c.requires.dued.0.all)))

pub next-m-requires : goal.next-m-requires
next-m-requires c =
    let loop-test = c.loop-m-test in
    let loop = c.loop-m in (
      c.requires.dued.0.by_taker,
      (
        omega (arith, loop-test.true, c.requires.dued.0.all),
        (
          omega (arith, loop-test.true, c.requires.dued.0.all, c.requires.dued.0.listed.few),
          chains.walk_tile (taker_of (plan_of c.args.table.now.layout.sizes.route c.args.table.now.layout.nest)) (count (plan_of c.args.table.now.layout.sizes.route c.args.table.now.layout.nest)) c.args.tile
              loop.invariant.j loop.m loop.invariant.spot (omega (arith, loop-test.true, c.requires.dued.0.all)),
        ),
      ),
    )

pub loop-m-smaller : goal.loop-m-smaller
loop-m-smaller c =
    let loop-test = c.loop-m-test in
    let loop = c.loop-m in
    omega (
      arith,
      loop-test.true,
      c.requires.dued.0.all,
      chains.walk_more (taker_of (plan_of c.args.table.now.layout.sizes.route c.args.table.now.layout.nest))
          (count (plan_of c.args.table.now.layout.sizes.route c.args.table.now.layout.nest)) c.args.tile loop.invariant.j loop.m loop.invariant.spot
          (omega (arith, loop-test.true, c.requires.dued.0.all)) _ c.next-m.ensures,
    )

pub loop-m-preserved : goal.loop-m-preserved
loop-m-preserved c =
    let loop = c.loop-m in
    let loop-test = c.loop-m-test in
    let sender_at_lem = c.sender_at-sender in
    telling.walk_dues_next (plan_of c.args.table.now.layout.sizes.route c.args.table.now.layout.nest) (sound c.args.table.now.layout.sizes.route c.args.table.now.layout.nest
    c.args.table.now.layout.sized.accepted) c.args.tile c.requires.dued.1 c.args.last loop.latest loop.m loop.invariant
    (omega (arith, loop-test.true, c.requires.dued.0.all)) (get_or c.args.rounds.now sender_at_lem.result 0) _ _
    (ap (λ (u : ℕ). get_or c.args.rounds.now u 0) (sender_at_lem.ensures ∙ ap (sender_of (plan_of c.args.table.now.layout.sizes.route c.args.table.now.layout.nest))
    c.spot-place.ensures.number) ∙ c.requires.tells_to.0.each _ (telling.walk_sender_low (plan_of c.args.table.now.layout.sizes.route c.args.table.now.layout.nest)
    (sound c.args.table.now.layout.sizes.route c.args.table.now.layout.nest c.args.table.now.layout.sized.accepted) c.args.tile c.requires.dued.1 c.args.last loop.latest
    loop.m loop.invariant (omega (arith, loop-test.true, c.requires.dued.0.all)))) (elim (dec_lt loop.latest (get_or c.args.rounds.now sender_at_lem.result 0)) [ yes h ↦ inl (h, search rules) | no h ↦ inr (omega arith, search rules) ]) c.next-m.ensures

pub overflow_add-result : goal.overflow_add-result
overflow_add-result c =
    let loop = c.loop-m in
    omega (
      arith,
      telling.walk_dues_done (plan_of c.args.table.now.layout.sizes.route c.args.table.now.layout.nest)
          (sound c.args.table.now.layout.sizes.route c.args.table.now.layout.nest c.args.table.now.layout.sized.accepted) c.args.tile c.requires.dued.1 c.args.last loop.latest
          loop.m loop.invariant (omega (arith, c.loop-m-test.false, c.requires.dued.0.all)) c.requires.tells_to.1,
      telling.round_few
          (plan_of c.args.table.now.layout.sizes.route c.args.table.now.layout.nest) (sound c.args.table.now.layout.sizes.route c.args.table.now.layout.nest c.args.table.now.layout.sized.accepted)
          c.args.tile c.requires.dued.1 c.args.last,
      tiles_low c.args.table.now.layout.sizes.route c.args.table.now.layout.nest c.args.table.now.layout.sized.accepted,
    )

pub returns : goal.returns
returns c =
    let loop = c.loop-m in
    telling.walk_dues_done (plan_of c.args.table.now.layout.sizes.route c.args.table.now.layout.nest)
    (sound c.args.table.now.layout.sizes.route c.args.table.now.layout.nest c.args.table.now.layout.sized.accepted) c.args.tile c.requires.dued.1 c.args.last loop.latest
    loop.m loop.invariant (omega (arith, c.loop-m-test.false, c.requires.dued.0.all)) c.requires.tells_to.1
