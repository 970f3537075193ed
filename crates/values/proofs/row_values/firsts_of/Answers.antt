-- `values::row_values::firsts_of` meets its contract: those of the first e distances.
use native.Mathlib.Omega.{arith}
use Rattle.layout.proofs.Loops.{filled_none, filled_more, filled_end}
use Rattle.values.proofs.row_values.firsts_of.Goals as goal

pub loop-e-init : goal.loop-e-init
loop-e-init c = λ x ok g. filled_none _ _ _ (omega arith)

pub first_of-requires : goal.first_of-requires
first_of-requires c =
    let p = c.requires in
    (p.0, (p.1.0, (c.loop-e-test.true, p.1.1)))

pub loop-e-preserved : goal.loop-e-preserved
loop-e-preserved c =
    λ x ok g.
    filled_more _ _ _ _ _ (c.loop-e.invariant x ok g) c.loop-e-test.true ok.distances_most
    (c.first_of.ensures x (ok, (c.loop-e-test.true, g)))

pub returns : goal.returns
returns c = λ x ok g. record { each = (filled_end _ _ _ _ (c.loop-e.invariant x ok g) c.loop-e-test.false).each }
