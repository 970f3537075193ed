-- `reader::fields::fields_fit_at` meets its contract: each return by its branches.
use mathlib.Core.Path.{sym, ◌∙◌}
use Rattle.base.proofs.Tests.{and_left, and_false}
use Rattle.reader.proofs.fields.fields_fit_at.Goals as goal

pub returns-then-stands : goal.returns-then-stands
returns-then-stands c = c.fields_fit.ensures ∙ sym (and_left _ _ (sym c.stands.ensures ∙ c.if-stands.true))

pub returns-else-stands : goal.returns-else-stands
returns-else-stands c = c.if-stands.false ∙ sym (and_false _ _ (sym c.stands.ensures ∙ c.if-stands.false))
