-- `summary::hops_at` meets its contract.
use native.Mathlib.Omega.{arith}
use Rattle.layout.proofs.Steps.{ways_few, ways_some, way_low}
use Rattle.summary.proofs.Answers.{slot_hops}
use Rattle.summary.proofs.hops_at.Goals as goal

pub nonzero_rem-direction : goal.nonzero_rem-direction
nonzero_rem-direction c = ways_some _ c.args.table.now.layout.sized.accepted c.args.table.now.layout.sizes.route _ c.args.table.now.layout.sized.ways

pub overflow_add-direction : goal.overflow_add-direction
overflow_add-direction c =
    omega (
      arith,
      way_low _ c.args.table.now.layout.sized.accepted c.args.table.now.layout.sizes.route _ c.args.table.now.layout.sized.ways c.nth-place.result.slot,
      ways_few _ c.args.table.now.layout.sized.accepted c.args.table.now.layout.sizes.route,
    )

pub overflow_cast-direction : goal.overflow_cast-direction
overflow_cast-direction c =
    omega (
      arith,
      way_low _ c.args.table.now.layout.sized.accepted c.args.table.now.layout.sizes.route _ c.args.table.now.layout.sized.ways c.nth-place.result.slot,
      ways_few _ c.args.table.now.layout.sized.accepted c.args.table.now.layout.sizes.route,
    )

pub hops_along-requires : goal.hops_along-requires
hops_along-requires c = c.args.table.now.layout.sized.accepted

pub returns : goal.returns
returns c =
    slot_hops _ _ c.args.m c.args.table.now.layout.sized c.requires.sized c.nth-place.result
    c.nth-place.ensures
    _ c.hops_along.ensures
