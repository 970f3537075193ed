-- The slots so far: each message of theirs is found by the list.
use mathlib.Core.Path.{refl}
use mathlib.Core.Logic.{inl, inr}
use Rattle.schedule.proofs.Listing as L
use Rattle.schedule.proofs.index.list_spots.Goals as goal
use Rattle.schedule.proofs.index.list_spots.Goals.{then-words-ne0, else-words-ne0}

pub loop-slot-init : goal.loop-slot-init
loop-slot-init c = L.list_start _ _ _ c.requires.1

pub loop-slot-preserved : goal.loop-slot-preserved
loop-slot-preserved c =
    let loop = c.loop-slot in
    let half-index = c.from-words in
    L.list_next _ _ _ _ _ _ loop.invariant c.loop-slot-test.true c.requires.0 half-index.result half-index.ensures c.if-words-ne0.number
    (elim c.if-words-ne0.branch [ then-words-ne0 w ↦ inl (w.if-words-ne0.true, w.number-is) | else-words-ne0 w ↦ inr (w.if-words-ne0.false, w.number-is) ]) _ refl

pub returns : goal.returns
returns c =
    let loop = c.loop-slot in
    L.list_done _ _ _ _ _ _ loop.invariant c.loop-slot-test.false
