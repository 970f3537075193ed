-- `values::shaped_values::value_at` meets its contract: the sum of what the first k distances give, which fits 64 bits.
use native.Mathlib.Omega.{arith}
use Rattle.kernels.proofs.Sums.{mixing_none, mixing_more}
use Rattle.values.proofs.shaped_values.Words.{mixing_end, first_back}
use Rattle.values.proofs.shaped_values.value_at.Goals as goal

pub word_of-total-requires : goal.word_of-total-requires
word_of-total-requires c = (omega (arith, c.requires.given), c.requires.few_given)

pub loop-k-init : goal.loop-k-init
loop-k-init c = mixing_none _ _ _ _ _ c.word_of-total.ensures

pub word_at-w-requires : goal.word_at-w-requires
word_at-w-requires c = (omega (arith, c.requires.inner), (c.requires.beyond, (c.requires.small, first_back c.requires _ c.loop-k-test.true)))

pub loop-k-preserved : goal.loop-k-preserved
loop-k-preserved c =
    mixing_more _ _ _ _ _ _ c.loop-k.invariant c.loop-k-test.true (c.requires.light _ c.loop-k-test.true) _
    c.word_at-w.ensures

pub closed-requires : goal.closed-requires
closed-requires c = c.requires.divides

pub returns : goal.returns
returns c = mixing_end _ _ _ _ _ _ _ _ _ _ _ _ _ _ c.loop-k.invariant c.loop-k-test.false _ c.closed.ensures
