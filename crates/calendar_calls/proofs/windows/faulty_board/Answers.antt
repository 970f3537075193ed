-- `calendar_calls::windows::faulty_board` meets its contract.
use mathlib.Core.Path.{sym, ◌∙◌}
use native.Mathlib.Omega.{arith}
use Rattle.base.proofs.Tests.{some_one}
use Rattle.base.proofs.Loops.{some_start, some_step, some_end}
use Rattle.calendar.specs.Windows.{faulty_board}
use Rattle.calendar_calls.proofs.windows.faulty_board.Goals as goal

pub loop-w-init : goal.loop-w-init
loop-w-init c = (omega arith, some_start _)

pub returns-then-faulty_pair : goal.returns-then-faulty_pair
unfolding faulty_board
returns-then-faulty_pair c = sym (some_one _ _ c.loop-w.w c.loop-w-test.true (sym c.faulty_pair.ensures ∙ c.if-faulty_pair.true))

pub loop-w-preserved : goal.loop-w-preserved
loop-w-preserved c = (omega arith, some_step _ _ c.loop-w.invariant.1 (sym c.faulty_pair.ensures ∙ c.if-faulty_pair.false))

pub returns : goal.returns
unfolding faulty_board
returns c = sym (some_end _ _ _ c.loop-w.invariant.0 c.loop-w-test.false c.loop-w.invariant.1)
