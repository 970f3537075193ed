-- `runs::count_row` meets its contract: the cells before `at` are counted.
use native.Mathlib.Omega.{arith}
use Rattle.runs.proofs.Laws as L
use Rattle.runs.proofs.count_row.Goals as goal

pub loop-at-init : goal.loop-at-init
loop-at-init c = L.counts_none _ _ _ _ _

pub overflow_add-count : goal.overflow_add-count
overflow_add-count c = omega (arith, L.counts_few _ _ _ _ _ _ _ c.loop-at.invariant _ _ c.piece_of-piece.ensures)

pub loop-at-preserved : goal.loop-at-preserved
loop-at-preserved c = L.counts_more _ _ _ _ _ _ _ c.loop-at.invariant _ _ c.piece_of-piece.ensures

pub returns : goal.returns
returns c = L.counts_end _ _ _ _ _ _ _ c.loop-at.invariant (omega arith)
