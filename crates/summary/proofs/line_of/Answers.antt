-- `summary::line_of` meets its contract.
use mathlib.Core.Path.{ap, ◌∙◌}
use Rattle.summary.proofs.Answers as L
use Rattle.plan.specs.Shaped.{plan_of}
use Rattle.summary.specs.Summary.{line_of}
use Rattle.summary.proofs.line_of.Goals as goal

pub nth-place-requires : goal.nth-place-requires
nth-place-requires c = c.requires.m_bound

pub line_at-requires : goal.line_at-requires
line_at-requires c = record { found_in = L.found_self _ _ _ _ c.args.table.now.layout.sized.accepted c.nth-place.ensures }

pub returns : goal.returns
returns c = c.line_at.ensures ∙ ap (line_of (plan_of c.args.table.now.layout.sizes.route c.args.table.now.layout.nest)) c.nth-place.ensures.number
