-- `kernels::store_after` meets its contract.
use Prim.Native.Nat.{ℕ, ◌+◌, ◌*◌}
use mathlib.Core.Path.{refl, ap, ◌∙◌}
use mathlib.Core.List.{[], ◌∷◌}
use native.Mathlib.Omega.{arith}
use Rattle.base.specs.Tests.{sum}
use Rattle.kernels.proofs.Sums.{weighs, closes}
use Rattle.kernels.proofs.Columns.{word_stored}
use Rattle.kernels.proofs.store_after.Goals as goal

pub overflow_mul-p : goal.overflow_mul-p
overflow_mul-p c = omega (arith, weighs _ _ (c.requires.0.light 0 (omega arith)) c.requires.1.1)

pub overflow_add-t-2 : goal.overflow_add-t-2
overflow_add-t-2 c = omega (arith, weighs _ _ (c.requires.0.light 0 (omega arith)) c.requires.1.1, c.word_of.ensures.1, c.requires.0.besides)

pub returns : goal.returns
unfolding sum
returns c =
    let source-word = c.word_of in (
      closes 1 (c.args.p.back ∷ []) (c.args.p.weight ∷ []) _ _ c.args.source.now c.args.memory.now _ _ _
          (ap (λ (z : ℕ). c.args.rule.outside + source-word.result + c.args.p.weight * z) c.requires.1.0 ∙ omega (arith, source-word.ensures.0))
          c.closed-word.ensures,
      word_stored c.args.memory.now _ c.args.c c.closed-word.result c.closed-word.result refl (omega (arith, c.requires.0.within)) refl (omega (arith, c.closed-word.ensures)),
    )
