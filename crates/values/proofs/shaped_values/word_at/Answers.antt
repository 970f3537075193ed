-- `values::shaped_values::word_at` meets its contract: a word of the memory where the distance reads, else the boundary's.
use Prim.Native.Nat.{◌-◌}
use native.Mathlib.Omega.{arith}
use mathlib.Core.Path.{sym, ◌∙◌}
use Rattle.base.proofs.Tests.{pick_true, pick_false}
use Rattle.values.proofs.shaped_values.word_at.Goals as goal

pub returns-then-has : goal.returns-then-has
returns-then-has c = (
  sym (pick_true _ _ _ (sym c.has.ensures ∙ c.if-has.true)),
  omega (arith, c.type_inv.memory (c.args.cell - c.args.back)),
)

pub returns : goal.returns
returns c = (sym (pick_false _ _ _ (sym c.has.ensures ∙ c.if-has.false)), c.requires.1.0)
