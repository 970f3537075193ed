-- `reading::read` meets its contract: the fields of what was read, or nothing.
use mathlib.Core.Path.{sym, ◌∙◌}
use Rattle.nest.proofs.Answers.{refused_read}
use Rattle.writer.proofs.Told as T
use Rattle.writer.proofs.reading.read.Goals as goal

pub fields_of-requires : goal.fields_of-requires
fields_of-requires c = T.read_nest c.in-Ok.ensures

pub returns-in-Ok : goal.returns-in-Ok
returns-in-Ok c = c.fields_of.ensures ∙ T.read_told c.in-Ok.ensures

pub returns-in-Err : goal.returns-in-Err
returns-in-Err c =
    c.no_fields.ensures
    ∙ T.read_none _ _ (c.number.ensures ∙ c.in-Err.ensures.number)
    (λ z. refused_read c.in-Err.ensures (sym (c.number.ensures ∙ c.in-Err.ensures.number) ∙ z))
