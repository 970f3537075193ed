-- `kernels::word_of` meets its contract.
use mathlib.Core.Path.{refl}
use native.Mathlib.Omega.{arith}
use Rattle.kernels.proofs.word_of.Goals as goal

pub overflow_cast-result : goal.overflow_cast-result
overflow_cast-result c = omega (arith, c.type_inv.words c.args.i)

pub returns : goal.returns
returns c = (refl, omega (arith, c.type_inv.words c.args.i))
