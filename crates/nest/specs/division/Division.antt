-- For contracts below the calls: no reader needs it.
-- A component divided by a tile length: its tile, and its place there.
-- No sentence of document 01.
use Rattle.std.specs.Prelude.{ℕ, ◌/◌, ◌%◌, ◌≡◌}
use Rattle.nest.specs.declared.division.Divided.{Divided}

-- a component's tile, and its place there
pub record Splits (a k : ℕ) (r : Divided) : Type 0 where
  pub tile : r.tile ≡ a / k
  pub rest : r.rest ≡ a % k
