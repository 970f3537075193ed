-- `chart::grid_text::has` meets its contract: each test in turn.
use Rattle.std.proofs.Common.{rules}
use Rattle.base.specs.Tests.{◌and◌}
use Rattle.chart.proofs.grid_text.has.Goals as goal

pub returns-then-s-c : goal.returns-then-s-c
unfolding ◌and◌
returns-then-s-c c = search rules

pub returns-else-s-c : goal.returns-else-s-c
unfolding ◌and◌
returns-else-s-c c = search rules
