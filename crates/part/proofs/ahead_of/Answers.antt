-- `ahead_of` meets its contract: the remainders, then their rank.
use native.Mathlib.Omega.{arith}
use Rattle.part.proofs.Chains as chains
use mathlib.Core.Path.{refl, ◌∙◌}
use Rattle.layout.proofs.Loops.{changed_none, changed_more, filled_end}
use Rattle.layout.proofs.Cells.{counts_countable}
use Rattle.nest.proofs.Rank.{rank_same}
use Rattle.part.proofs.ahead_of.Goals as goal

pub loop-j-init : goal.loop-j-init
loop-j-init c = changed_none _ _ _ refl

pub offset_bounds-at-j : goal.offset_bounds-at-j
offset_bounds-at-j c = omega (arith, c.loop-j-test.true, c.requires.0.spread_low, c.requires.0.dimensions_most)

pub bounds-at-j : goal.bounds-at-j
bounds-at-j c = omega (arith, c.loop-j-test.true, c.requires.0.spread_low, c.requires.0.dimensions_most)

pub offset_bounds-along-j : goal.offset_bounds-along-j
offset_bounds-along-j c = omega (arith, c.loop-j-test.true, c.requires.0.spread_low, c.requires.0.dimensions_most)

pub bounds-along-j : goal.bounds-along-j
bounds-along-j c = omega (arith, c.loop-j-test.true, c.requires.0.spread_low, c.requires.0.dimensions_most)

pub overflow_add-to : goal.overflow_add-to
overflow_add-to c = omega (arith, c.requires.1 c.loop-j.j c.loop-j-test.true)

pub offset_bounds-counts-j : goal.offset_bounds-counts-j
offset_bounds-counts-j c = omega (arith, c.loop-j-test.true, c.requires.0.spread_low, c.requires.0.dimensions_most)

pub bounds-counts-j : goal.bounds-counts-j
bounds-counts-j c = omega (arith, c.loop-j-test.true, c.requires.0.spread_low, c.requires.0.dimensions_most)

pub nonzero_rem-to : goal.nonzero_rem-to
nonzero_rem-to c = c.requires.0.manned c.loop-j.j c.loop-j-test.true

pub offset_bounds-to-j : goal.offset_bounds-to-j
offset_bounds-to-j c = omega (arith, c.loop-j-test.true, c.requires.0.spread_low, c.requires.0.dimensions_most)

pub bounds-to-j : goal.bounds-to-j
bounds-to-j c = omega (arith, c.loop-j-test.true, c.requires.0.spread_low, c.requires.0.dimensions_most)

pub overflow_step-j : goal.overflow_step-j
overflow_step-j c = omega (arith, c.loop-j-test.true, c.requires.0.spread_low, c.requires.0.dimensions_most)

pub loop-j-smaller : goal.loop-j-smaller
loop-j-smaller c = omega (arith, c.loop-j-test.true, c.requires.0.spread_low, c.requires.0.dimensions_most)

pub loop-j-preserved : goal.loop-j-preserved
loop-j-preserved c = changed_more _ _ _ _ _ _ c.loop-j.invariant c.loop-j-test.true (omega (arith, c.requires.0.spread_low, c.requires.0.dimensions_most)) refl

pub rank-requires : goal.rank-requires
rank-requires c =
    let has = filled_end _ _ _ _ c.loop-j.invariant.first c.loop-j-test.false in
    record {
      counts = counts_countable c.args.nest c.requires.0;
      at_most = λ j h. chains.rem_most _ _ _ (has.each j h) (c.requires.0.manned j h);
    }

pub returns : goal.returns
returns c =
    let has = filled_end _ _ _ _ c.loop-j.invariant.first c.loop-j-test.false in
    c.rank.ensures ∙ rank_same _ _ _ c.args.nest.spread (λ j h. has.each j h)
