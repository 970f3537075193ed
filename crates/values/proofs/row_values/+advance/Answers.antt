-- `values::row_values::advance` meets its contract: the last component one more, or the first again and the same before it. `left` falls.
use native.Mathlib.Omega.{arith}
use mathlib.Core.Path.{◌∙◌}
use lib.ListN.{length-set}
use Rattle.layout.proofs.Advance.{follows_none, follows_step, follows_carry, places_fewer, inside_fewer}
use Rattle.values.proofs.row_values.+advance.Goals as goal

pub returns-then-left-eq0 : goal.returns-then-left-eq0
returns-then-left-eq0 t c = (c.requires.0, follows_none _ _ _ _ c.if-left-eq0.true)

pub returns-then-component-from : goal.returns-then-component-from
returns-then-component-from t c = (
  length-set c.args.at.now _ _ ∙ c.requires.0,
  follows_step _ _ _ _ c.if-left-eq0.false
      (omega (arith, c.requires.0, c.requires.1.0.low)) c.if-component-from.true,
)

pub advance-requires : goal.advance-requires
advance-requires t c = (
  omega arith,
  (
    length-set c.args.at.now _ _ ∙ c.requires.0,
    (
      places_fewer _ _ c.args.at.now _ c.if-left-eq0.false
          (omega (arith, c.requires.0, c.requires.1.0.low)) c.requires.1.0,
      inside_fewer _ _ _ _ c.if-left-eq0.false (omega (arith, c.requires.0, c.requires.1.0.low)) _
          c.requires.1.1,
    ),
  ),
)

pub returns : goal.returns
returns t c = (
  c.advance.ensures.0,
  follows_carry _ _ _ _ _ c.if-left-eq0.false
      (omega (arith, c.requires.0, c.requires.1.0.low)) c.requires.1.0 c.if-component-from.false c.advance.ensures.1,
)
