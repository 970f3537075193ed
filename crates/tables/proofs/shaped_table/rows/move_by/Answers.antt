-- `tables::shaped_table::rows::move_by` meets its contract.
use native.Mathlib.Omega.{arith}
use Rattle.tables.proofs.shaped_table.Moves as M
use Rattle.tables.proofs.shaped_table.rows.move_by.Goals as goal

pub overflow_sub-last : goal.overflow_sub-last
overflow_sub-last c = omega (arith, c.args.layout.now.sized.accepted.dimensions_least)

pub steps_by-steps-requires : goal.steps_by-steps-requires
steps_by-steps-requires c = (c.loop-j-test.true, (omega (arith, c.args.layout.now.sized.accepted.dimensions_least, c.args.layout.now.sized.accepted.dimensions_most), c.requires))

pub keeps-requires : goal.keeps-requires
keeps-requires c = (c.args.layout.now.sized.accepted, c.steps_by-steps.ensures)

pub rank-requires : goal.rank-requires
rank-requires c = M.steps_ranked c.args.layout.now.nest c.args.layout.now.sized.accepted _ _ c.args.layout.now.sized.across c.steps_by-steps.ensures

pub returns-then-keeps : goal.returns-then-keeps
returns-then-keeps c =
    M.moves_by c.args.layout.now.nest c.args.layout.now.sized.accepted c.args.layout.now.sizes.across _ c.args.layout.now.sized.across c.steps_by-steps.ensures
    (c.keeps.ensures c.if-keeps.true) _ c.rank.ensures

pub overflow_step-j : goal.overflow_step-j
overflow_step-j c =
    omega (
      arith,
      c.loop-j-test.true,
      c.args.layout.now.sized.accepted.dimensions_least,
      c.args.layout.now.sized.accepted.dimensions_most,
    )

pub loop-j-smaller : goal.loop-j-smaller
loop-j-smaller c = omega (arith, c.loop-j-test.true)

pub loop-j-preserved : goal.loop-j-preserved
loop-j-preserved c = omega (arith, c.loop-j-test.true)
