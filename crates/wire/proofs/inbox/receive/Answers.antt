-- What the answer tells, for C.
use mathlib.Core.Path.{◌∙◌}
use Rattle.wire.proofs.inbox.receive.Goals as goal

pub returns : goal.returns
returns c = λ l h. c.for_c.ensures _ _ ∙ c.take_in.ensures l h
