-- `values::row_values::together` meets its contract.
use mathlib.Core.Path.{sym, ◌∙◌}
use mathlib.Core.Bool.{false≢true}
use native.Mathlib.Omega.{arith}
use Rattle.values.proofs.row_values.together.Goals as goal

pub returns-then-width-from : goal.returns-then-width-from
returns-then-width-from c = λ z. absurd (false≢true z)

pub returns-then-last-eq0 : goal.returns-then-last-eq0
returns-then-last-eq0 c = λ z. absurd (false≢true z)

pub returns-then-corner-j : goal.returns-then-corner-j
returns-then-corner-j c = λ z. absurd (false≢true z)

pub returns : goal.returns
returns c = λ z. (omega (arith, c.if-width-from.false), (omega (arith, c.if-last-eq0.false), (sym c.inner.ensures ∙ z, omega (arith, c.if-corner-j.false))))
