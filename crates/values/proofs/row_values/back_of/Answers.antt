-- `values::row_values::back_of` meets its contract: the rank of the distance's first j components.
use native.Mathlib.Omega.{arith}
use Rattle.layout.proofs.Cells.{lengths_countable}
use Rattle.std.proofs.Common.{rules}
use Rattle.values.proofs.row_values.Words.{backing_none, backing_more, backing_fits, backing_end}
use Rattle.values.proofs.row_values.back_of.Goals as goal

pub loop-j-init : goal.loop-j-init
loop-j-init c = backing_none _ _ _ _

pub overflow_mul-back : goal.overflow_mul-back
overflow_mul-back c =
    omega (
      arith,
      backing_fits _ _ _ _ _ _ c.loop-j.invariant c.loop-j-test.true c.min-d.result (search rules)
          (lengths_countable _ c.requires.0),
    )

pub overflow_add-back : goal.overflow_add-back
overflow_add-back c =
    omega (
      arith,
      backing_fits _ _ _ _ _ _ c.loop-j.invariant c.loop-j-test.true c.min-d.result (search rules)
          (lengths_countable _ c.requires.0),
    )

pub loop-j-preserved : goal.loop-j-preserved
loop-j-preserved c = backing_more _ _ _ _ _ _ c.loop-j.invariant c.loop-j-test.true c.min-d.result (search rules)

pub returns : goal.returns
returns c = backing_end _ _ _ _ _ c.requires.1.1 c.loop-j.invariant c.loop-j-test.false
