-- `reader::fields::table` meets its contract: the first i are made.
use native.Mathlib.Omega.{arith}
use Rattle.reader.proofs.Tables as T
use Rattle.reader.proofs.fields.table.Goals as goal

pub loop-i-init : goal.loop-i-init
loop-i-init g c = (omega arith, T.made_none _ _ _)

pub loop-i-preserved : goal.loop-i-preserved
loop-i-preserved g c = (omega arith, T.made_more _ _ _ _ _ c.loop-i.invariant.1 (omega (arith, c.requires.fits)) _ c.of.ensures)

pub returns : goal.returns
returns g c = T.made_end _ _ _ _ _ _ c.loop-i.invariant.0 c.loop-i-test.false c.loop-i.invariant.1
