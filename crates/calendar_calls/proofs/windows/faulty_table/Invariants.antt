-- `calendar_calls::windows::faulty_table` meets its contract.
use Rattle.std.specs.Prelude.{◌≡◌, ◌-◌, ◌≤◌, false}
use Rattle.base.specs.Tests.{some}
use Rattle.calendar.specs.Windows.{faulty_board}
use Rattle.calendar_calls.proofs.windows.faulty_table.Given as goal

abbrev pub invariant-loop-b : goal.invariant-loop-b
invariant-loop-b l = (l.b ≤ l.n) × (some (faulty_board l.calendar) l.b ≡ false)

abbrev pub decreases-loop-b : goal.decreases-loop-b
decreases-loop-b l = l.n - l.b
