-- For contracts below the calls: no reader needs it.
-- Cells listed: a memory in which each cell holds its own number, so that what is packed from it are the cells themselves.
-- No sentence of document 02.
use Rattle.std.specs.Prelude.{ℕ, List}
use Rattle.base.specs.Tests.{tabulate}

-- no nest has more cells
unfoldable pub numbers : List ℕ
numbers = tabulate (λ c. c) 16384
