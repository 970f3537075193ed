-- `values::row_values::margin_of` meets its contract: the most of the first e distances.
use Rattle.std.proofs.Common.{rules}
use Rattle.values.proofs.row_values.Margins.{mosting_none, mosting_more, mosting_end, most_is}
use Rattle.values.proofs.row_values.margin_of.Goals as goal

pub loop-e-init : goal.loop-e-init
loop-e-init c = mosting_none _ _ _

pub loop-e-preserved : goal.loop-e-preserved
loop-e-preserved c = mosting_more _ _ _ _ _ _ c.loop-e.invariant c.loop-e-test.true (search rules)

pub returns : goal.returns
returns c = most_is _ _ _ c.requires.1.1 _ (mosting_end _ _ _ _ _ c.loop-e.invariant c.loop-e-test.false)
