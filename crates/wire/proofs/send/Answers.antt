-- What the answer tells, for C.
use mathlib.Core.Path.{◌∙◌}
use Rattle.wire.proofs.send.Goals as goal

pub returns : goal.returns
returns c = c.for_c.ensures _ ∙ c.send_posted.ensures
