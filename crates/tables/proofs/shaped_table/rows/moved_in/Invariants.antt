-- `tables::shaped_table::rows::moved_in` meets its contract: in the first j dimensions the tiles of the row have one a move before them.
use Prim.Native.Nat.{ℕ, ◌-◌, ◌≤◌, ◌<◌}
use lib.ListN.{get_or}
use Rattle.tables.specs.shaped_table.Moves.{Behind}
use Rattle.tables.proofs.shaped_table.rows.moved_in.Given as goal

abbrev pub invariant-loop-j : goal.invariant-loop-j
invariant-loop-j l = (l.j ≤ l.last) × ((i : ℕ) → i < l.j → Behind (get_or l.at i 0) (get_or l.steps i 0) (get_or l.tiling i 0) (get_or l.lengths i 0))

abbrev pub decreases-loop-j : goal.decreases-loop-j
decreases-loop-j l = l.last - l.j
