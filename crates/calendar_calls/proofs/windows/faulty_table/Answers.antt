-- `calendar_calls::windows::faulty_table` meets its contract.
use mathlib.Core.Path.{sym, ◌∙◌}
use native.Mathlib.Omega.{arith}
use Rattle.base.proofs.Tests.{some_one}
use Rattle.base.proofs.Loops.{some_start, some_step, some_end}
use Rattle.calendar.specs.Windows.{faulty_table}
use Rattle.calendar_calls.proofs.windows.faulty_table.Goals as goal

pub loop-b-init : goal.loop-b-init
loop-b-init c = (omega arith, some_start _)

pub returns-then-faulty_board : goal.returns-then-faulty_board
unfolding faulty_table
returns-then-faulty_board c = sym (some_one _ _ c.loop-b.b c.loop-b-test.true (sym c.faulty_board.ensures ∙ c.if-faulty_board.true))

pub loop-b-preserved : goal.loop-b-preserved
loop-b-preserved c = (omega arith, some_step _ _ c.loop-b.invariant.1 (sym c.faulty_board.ensures ∙ c.if-faulty_board.false))

pub returns : goal.returns
unfolding faulty_table
returns c = sym (some_end _ _ _ c.loop-b.invariant.0 c.loop-b-test.false c.loop-b.invariant.1)
