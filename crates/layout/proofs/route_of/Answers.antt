-- `layout::route_of` meets its contract.
use Rattle.layout.proofs.Steps.{route_direct, route_indirect}
use Rattle.layout.proofs.route_of.Goals as goal

pub returns-then-word-eq0 : goal.returns-then-word-eq0
returns-then-word-eq0 c = route_direct _ c.if-word-eq0.true

pub returns-else-word-eq0 : goal.returns-else-word-eq0
returns-else-word-eq0 c = route_indirect _ c.if-word-eq0.false
