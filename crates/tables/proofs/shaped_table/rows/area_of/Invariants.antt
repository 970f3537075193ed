-- `tables::shaped_table::rows::area_of` meets its contract: the first j dimensions.
use Prim.Native.Nat.{◌+◌, ◌*◌, ◌-◌}
use lib.ListN.{get_or}
use Rattle.layout.proofs.Loops.{Filled}
use Rattle.tables.proofs.shaped_table.rows.area_of.Given as goal

abbrev pub invariant-loop-j : goal.invariant-loop-j
invariant-loop-j l =
    Filled 4 (λ i. get_or l.at i 0 * get_or l.tiling i 0) l.n l.low l.j
    × Filled 4 (λ i. get_or l.at i 0 * get_or l.tiling i 0 + (get_or l.tiling i 0 - 1) + get_or l.most i 0) l.n l.high l.j

abbrev pub decreases-loop-j : goal.decreases-loop-j
decreases-loop-j l = l.n - l.j
