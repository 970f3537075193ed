-- `nest::put_place` meets its contract: what is written is the remainder, the rest is the place of the quotient. `left` falls.
use native.Mathlib.Omega.{arith}
use mathlib.Core.Path.{◌∙◌}
use lib.ListN.{length-set}
use Rattle.nest.proofs.Dims.{lengths_less, written_none, written_more}
use Rattle.nest.proofs.+put_place.Goals as goal

pub returns-then-left-eq0 : goal.returns-then-left-eq0
returns-then-left-eq0 t c = (c.requires.0, written_none _ _ _ _ c.if-left-eq0.true)

pub nonzero_rem-at : goal.nonzero_rem-at
nonzero_rem-at t c = c.requires.1.positive _ (omega arith)

pub nonzero_div-n : goal.nonzero_div-n
nonzero_div-n t c = c.requires.1.positive _ (omega arith)

pub put_place-requires : goal.put_place-requires
put_place-requires t c = (
  omega arith,
  (
    length-set c.args.at.now _ _ ∙ c.requires.0,
    lengths_less _ _ c.if-left-eq0.false c.requires.1,
  ),
)

pub returns : goal.returns
returns t c = (c.put_place.ensures.0, written_more _ _ _ _ _ c.if-left-eq0.false (omega arith) c.put_place.ensures.1)
