-- `parcels::unchanged` meets its contract.
use Rattle.parcels.proofs.Alike.{unchanged_below, unchanged_in, unchanged_above}
use Rattle.parcels.proofs.unchanged.Goals as goal

pub returns-then-from-low : goal.returns-then-from-low
returns-then-from-low c = unchanged_below _ _ _ c.if-from-low.true

pub returns-then-from-high : goal.returns-then-from-high
returns-then-from-high c = unchanged_in _ _ _ c.if-from-low.false c.if-from-high.true

pub returns : goal.returns
returns c = unchanged_above _ _ _ c.if-from-high.false
