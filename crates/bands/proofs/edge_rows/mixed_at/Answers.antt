-- `bands::edge_rows::mixed_at` meets its contract: the sum of the first k taps, which fits 64 bits.
use Rattle.kernels.proofs.Sums.{mixing_none, mixing_more, mixing_end}
use Rattle.bands.proofs.edge_rows.mixed_at.Goals as goal

pub loop-k-init : goal.loop-k-init
loop-k-init c = mixing_none _ _ _ _ _ c.word_of-total.ensures

pub loop-k-preserved : goal.loop-k-preserved
loop-k-preserved c =
    mixing_more _ _ _ _ _ _ c.loop-k.invariant c.loop-k-test.true
    (c.requires.light _ c.loop-k-test.true) _
    c.word_at-w.ensures

pub returns : goal.returns
returns c = mixing_end _ _ _ _ _ _ _ _ _ _ _ _ c.loop-k.invariant c.loop-k-test.false _ c.closed.ensures
