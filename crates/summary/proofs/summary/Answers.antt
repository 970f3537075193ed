-- `summary::summary` meets its contract.
use mathlib.Core.Path.{◌∙◌}
use Rattle.base.proofs.Codes.{code_some}
use Rattle.summary.proofs.Answers as L
use Rattle.summary.proofs.summary.Goals as goal

pub returns-in-Ok : goal.returns-in-Ok
returns-in-Ok c = c.figures_of.ensures ∙ L.summary_is _ _ _ c.in-Ok.ensures.layout.opened

pub returns-in-Err : goal.returns-in-Err
returns-in-Err c = c.no_figures.ensures ∙ L.summary_refused _ _ _ c.in-Err.ensures.number (code_some c.in-Err.refusal)
