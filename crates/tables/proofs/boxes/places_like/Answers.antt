-- `tables::boxes::places_like` meets its contract.
use native.Mathlib.Omega.{arith}
use Rattle.tables.proofs.boxes.Runs as R
use Rattle.tables.proofs.boxes.places_like.Goals as goal

pub returns-then-at-one : goal.returns-then-at-one
returns-then-at-one c = R.likes_none _ _ _ _

pub returns-then-whole-at : goal.returns-then-whole-at
returns-then-whole-at c = R.likes_none _ _ _ _

pub returns : goal.returns
returns c =
    R.likes_some _ _ _ _ c.requires.1.0 c.requires.1.1 (omega (arith, c.if-at-one.false, c.one.ensures))
    (omega (arith, c.if-whole-at.false))
