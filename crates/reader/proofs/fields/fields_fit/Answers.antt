-- `reader::fields::fields_fit` meets its contract: each return by its branches.
use mathlib.Core.Path.{sym, ◌∙◌}
use Rattle.base.proofs.Tests.{and_left, and_false}
use Rattle.reader.proofs.fields.fields_fit.Goals as goal

pub returns-then-blank : goal.returns-then-blank
returns-then-blank c = c.blank-then-blank.ensures ∙ sym (and_left _ _ (sym c.blank.ensures ∙ c.if-blank.true))

pub returns-else-blank : goal.returns-else-blank
returns-else-blank c = c.if-blank.false ∙ sym (and_false _ _ (sym c.blank.ensures ∙ c.if-blank.false))
