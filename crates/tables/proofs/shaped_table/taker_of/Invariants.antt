-- `tables::shaped_table::taker_of` meets its contract: none of the first t tiles.
use Prim.Native.Nat.{ℕ, ◌-◌, ◌≤◌, ◌<◌}
use Rattle.plan.specs.Shaped.{box_tile}
use Rattle.tables.proofs.shaped_table.taker_of.Given as goal

abbrev pub invariant-loop-t : goal.invariant-loop-t
invariant-loop-t l = (l.t ≤ l.n) × ((i : ℕ) → i < l.t → box_tile l.layout.nest i < l.number)

abbrev pub decreases-loop-t : goal.decreases-loop-t
decreases-loop-t l = l.n - l.t
