-- `marks_in` meets its contract: the marked ones passed.
use native.Mathlib.Omega.{arith}
use mathlib.Core.Logic.{inl, inr}
use Rattle.rank_index.proofs.Marks as marked
use Rattle.rank_index.proofs.marks_in.Goals as goal
use Rattle.rank_index.proofs.marks_in.Goals.{then-mark-eq1, else-mark-eq1}

pub loop-mark-init : goal.loop-mark-init
loop-mark-init c = marked.count_start _

pub overflow_add-n : goal.overflow_add-n
overflow_add-n c = omega (arith, marked.few _ _ _ c.loop-mark.invariant)

pub loop-mark-preserved : goal.loop-mark-preserved
loop-mark-preserved c =
    marked.count_next _ _ _ c.loop-mark.invariant _ c.loop-mark-test.true
    (elim c.if-mark-eq1.branch [ then-mark-eq1 w ↦ inl (w.if-mark-eq1.true, w.n-is) | else-mark-eq1 w ↦ inr (w.if-mark-eq1.false, w.n-is) ])

pub returns : goal.returns
returns c = marked.count_done _ _ _ c.loop-mark.invariant (omega arith)
