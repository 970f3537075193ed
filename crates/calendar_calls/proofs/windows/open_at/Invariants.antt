-- `calendar_calls::windows::open_at` meets its contract.
use Rattle.std.specs.Prelude.{◌≡◌, ◌-◌, ◌≤◌, false}
use Rattle.base.specs.Tests.{some}
use Rattle.calendar.specs.Windows.{in_window}
use Rattle.calendar_calls.proofs.windows.open_at.Given as goal

abbrev pub invariant-loop-w : goal.invariant-loop-w
invariant-loop-w l = (l.w ≤ 14) × (some (in_window l.calendar l.b l.minute) l.w ≡ false)

abbrev pub decreases-loop-w : goal.decreases-loop-w
decreases-loop-w l = 14 - l.w
