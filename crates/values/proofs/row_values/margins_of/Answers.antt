-- `values::row_values::margins_of` meets its contract: the array is filled from its start.
use mathlib.Core.Path.{refl}
use Rattle.layout.proofs.Loops.{filled_none, filled_more, filled_end}
use Rattle.values.proofs.row_values.margins_of.Goals as goal

pub loop-j-init : goal.loop-j-init
loop-j-init c = filled_none _ _ _ refl

pub margin_of-requires : goal.margin_of-requires
margin_of-requires c = (c.requires.0, (c.loop-j-test.true, c.requires.1))

pub loop-j-preserved : goal.loop-j-preserved
loop-j-preserved c =
    filled_more _ _ _ _ _ c.loop-j.invariant c.loop-j-test.true c.requires.0.dimensions_most
    c.margin_of.ensures

pub returns : goal.returns
returns c = filled_end _ _ _ _ c.loop-j.invariant c.loop-j-test.false
