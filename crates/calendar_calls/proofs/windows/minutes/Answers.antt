-- `calendar_calls::windows::minutes` meets its contract.
use native.Mathlib.Omega.{arith}
use Rattle.calendar.proofs.Search as S
use Rattle.calendar.proofs.Windows as W
use Rattle.calendar_calls.proofs.windows.minutes.Goals as goal

pub loop-w-init : goal.loop-w-init
loop-w-init c = (omega arith, S.soonest_none _)

pub wait-v-requires : goal.wait-v-requires
wait-v-requires c = (c.requires.1.1.0, W.fair_at _ _ c.requires.1.1.1 c.loop-w.w c.loop-w-test.true)

pub loop-w-preserved : goal.loop-w-preserved
loop-w-preserved c = (omega arith, S.soonest_turn _ _ _ _ _ c.loop-w.invariant.1 c.wait-v.ensures c.min-soonest.ensures)

pub returns-then-soonest-eq-WEEK : goal.returns-then-soonest-eq-WEEK
returns-then-soonest-eq-WEEK c = S.told_never _ _ _ _ _ c.loop-w.invariant.1 c.loop-w.invariant.0 c.loop-w-test.false c.if-soonest-eq-WEEK.true

pub returns : goal.returns
returns c = S.told_in _ _ _ _ _ c.loop-w.invariant.1 c.loop-w.invariant.0 c.loop-w-test.false c.if-soonest-eq-WEEK.false
