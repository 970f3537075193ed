-- `calendar_calls::windows::faulty_board` meets its contract.
use Rattle.std.specs.Prelude.{◌≡◌, ◌-◌, ◌≤◌, false}
use Rattle.base.specs.Tests.{some}
use Rattle.calendar.specs.Windows.{faulty_pair}
use Rattle.calendar_calls.proofs.windows.faulty_board.Given as goal

abbrev pub invariant-loop-w : goal.invariant-loop-w
invariant-loop-w l = (l.w ≤ 14) × (some (faulty_pair l.calendar l.b) l.w ≡ false)

abbrev pub decreases-loop-w : goal.decreases-loop-w
decreases-loop-w l = 14 - l.w
