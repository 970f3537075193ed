-- `tables::shaped_table::rows::goes_along` meets its contract.
use native.Mathlib.Omega.{arith}
use borrow.Author.Tests.{eqb-true}
use Rattle.tables.proofs.shaped_table.Moves as M
use Rattle.tables.proofs.shaped_table.rows.goes_along.Goals as goal

pub offset_bounds-steps-e : goal.offset_bounds-steps-e
offset_bounds-steps-e c = omega (arith, M.bound_in c.args.nest c.requires.0 c.args.k c.requires.1.0)

pub bounds-steps-e : goal.bounds-steps-e
bounds-steps-e c = omega (arith, M.bound_in c.args.nest c.requires.0 c.args.k c.requires.1.0)

pub offset_bounds-tiling-e : goal.offset_bounds-tiling-e
offset_bounds-tiling-e c = omega (arith, M.bound_in c.args.nest c.requires.0 c.args.k c.requires.1.0)

pub bounds-tiling-e : goal.bounds-tiling-e
bounds-tiling-e c = omega (arith, M.bound_in c.args.nest c.requires.0 c.args.k c.requires.1.0)

pub overflow_mul-before : goal.overflow_mul-before
overflow_mul-before c =
    let few = M.along_few c.args.nest c.requires.0 c.args.steps c.requires.1.1 c.args.k in
    omega (arith, few.0, few.1.0, few.1.1)

pub overflow_mul-result : goal.overflow_mul-result
overflow_mul-result c =
    let few = M.along_few c.args.nest c.requires.0 c.args.steps c.requires.1.1 c.args.k in
    omega (arith, few.0, few.1.0, few.1.1)

pub offset_bounds-steps-j : goal.offset_bounds-steps-j
offset_bounds-steps-j c = omega (arith, M.bound_in c.args.nest c.requires.0 c.args.k c.requires.1.0)

pub bounds-steps-j : goal.bounds-steps-j
bounds-steps-j c = omega (arith, M.bound_in c.args.nest c.requires.0 c.args.k c.requires.1.0)

pub offset_bounds-tiling-j : goal.offset_bounds-tiling-j
offset_bounds-tiling-j c = omega (arith, M.bound_in c.args.nest c.requires.0 c.args.k c.requires.1.0)

pub bounds-tiling-j : goal.bounds-tiling-j
bounds-tiling-j c = omega (arith, M.bound_in c.args.nest c.requires.0 c.args.k c.requires.1.0)

pub overflow_mul-result-2 : goal.overflow_mul-result-2
overflow_mul-result-2 c =
    let few = M.along_few c.args.nest c.requires.0 c.args.steps c.requires.1.1 c.args.k in
    omega (arith, few.0, few.1.0, few.1.1)

pub overflow_add-result : goal.overflow_add-result
overflow_add-result c =
    let few = M.along_few c.args.nest c.requires.0 c.args.steps c.requires.1.1 c.args.k in
    omega (arith, few.0, few.1.0, few.1.1)

pub returns : goal.returns
returns c = λ e. eqb-true _ _ e
