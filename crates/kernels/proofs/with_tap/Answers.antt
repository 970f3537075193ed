-- `kernels::with_tap` meets its contract.
use Prim.Native.Nat.{ℕ, ◌+◌, ◌*◌}
use mathlib.Core.Path.{ap}
use native.Mathlib.Omega.{arith}
use Rattle.kernels.proofs.Sums.{weighs}
use Rattle.kernels.proofs.with_tap.Goals as goal

pub overflow_mul-result : goal.overflow_mul-result
overflow_mul-result c = omega (arith, weighs _ _ c.requires.1.0 c.word_of-v.ensures.1)

pub overflow_add-result : goal.overflow_add-result
overflow_add-result c = omega (arith, weighs _ _ c.requires.1.0 c.word_of-v.ensures.1)

pub returns : goal.returns
returns c = (
  ap (λ (v : ℕ). c.args.total + c.args.tap.weight * v) c.word_of-v.ensures.0,
  omega (arith, weighs _ _ c.requires.1.0 c.word_of-v.ensures.1),
)
