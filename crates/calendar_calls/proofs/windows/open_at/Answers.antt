-- `calendar_calls::windows::open_at` meets its contract.
use mathlib.Core.Path.{sym, ◌∙◌}
use native.Mathlib.Omega.{arith}
use Rattle.base.proofs.Tests.{some_one}
use Rattle.base.proofs.Loops.{some_start, some_step, some_end}
use Rattle.calendar.specs.Windows.{open_at}
use Rattle.calendar_calls.proofs.windows.open_at.Goals as goal

pub loop-w-init : goal.loop-w-init
loop-w-init c = (omega arith, some_start _)

pub returns-then-covers : goal.returns-then-covers
unfolding open_at
returns-then-covers c = sym (some_one _ _ c.loop-w.w c.loop-w-test.true (sym c.covers.ensures ∙ c.if-covers.true))

pub loop-w-preserved : goal.loop-w-preserved
loop-w-preserved c = (omega arith, some_step _ _ c.loop-w.invariant.1 (sym c.covers.ensures ∙ c.if-covers.false))

pub returns : goal.returns
unfolding open_at
returns c = sym (some_end _ _ _ c.loop-w.invariant.0 c.loop-w-test.false c.loop-w.invariant.1)
