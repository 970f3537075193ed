-- `calendar_calls::windows::minutes` meets its contract.
use Rattle.std.specs.Prelude.{◌-◌, ◌≤◌}
use Rattle.calendar.proofs.Search as S
use Rattle.calendar_calls.proofs.windows.minutes.Given as goal

abbrev pub invariant-loop-w : goal.invariant-loop-w
invariant-loop-w l = (l.w ≤ 14) × S.Soonest (S.open_in l.calendar l.b l.minute) l.w l.soonest

abbrev pub decreases-loop-w : goal.decreases-loop-w
decreases-loop-w l = 14 - l.w
