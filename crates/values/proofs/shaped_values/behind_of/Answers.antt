-- `values::shaped_values::behind_of` meets its contract: the components before the last are taken away, from the first on.
use native.Mathlib.Omega.{arith}
use mathlib.Core.Path.{refl}
use Rattle.layout.proofs.Loops.{changed_none, changed_more}
use Rattle.values.proofs.shaped_values.Runs.{behind_made}
use Rattle.values.proofs.shaped_values.behind_of.Goals as goal

pub loop-j-init : goal.loop-j-init
loop-j-init c = changed_none _ _ _ (omega arith)

pub loop-j-preserved : goal.loop-j-preserved
loop-j-preserved c =
    changed_more _ _ _ _ _ _ c.loop-j.invariant c.loop-j-test.true
    (omega (arith, c.requires.accepted.0.dimensions_most)) refl

pub returns : goal.returns
returns c = behind_made _ _ _ _ _ _ c.requires.accepted.1.1 c.loop-j.invariant c.loop-j-test.false c.requires.narrow.0
