-- `inner::awaited` meets its contract.
use mathlib.Core.Path.{◌∙◌}
use Rattle.transport.proofs.inner.awaited.Goals as goal

pub returns : goal.returns
returns c = λ l h. c.for_c.ensures _ ∙ c.ask.ensures l h
