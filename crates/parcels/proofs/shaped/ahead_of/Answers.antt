-- `parcels::shaped::ahead_of` meets its contract: the first j components are moved.
use mathlib.Core.Path.{refl}
use native.Mathlib.Omega.{arith}
use Rattle.layout.proofs.Loops.{changed_none, changed_more}
use Rattle.parcels.proofs.shaped.Runs as R
use Rattle.parcels.proofs.shaped.ahead_of.Goals as goal

pub loop-j-init : goal.loop-j-init
loop-j-init c = changed_none _ _ _ (omega arith)

pub loop-j-preserved : goal.loop-j-preserved
loop-j-preserved c =
    changed_more _ _ _ _ _ _ c.loop-j.invariant c.loop-j-test.true
    (omega (arith, c.requires.accepted.0.dimensions_most)) refl

pub returns : goal.returns
returns c =
    R.moved_ahead _ c.requires.accepted.0 _ c.requires.accepted.1.1 c.args.at c.args.e c.requires.by_index _ _ c.loop-j.invariant
    c.loop-j-test.false
