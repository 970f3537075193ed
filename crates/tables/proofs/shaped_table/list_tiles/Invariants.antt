-- `tables::shaped_table::list_tiles` meets its contract: the tiles among the first u that are marked are listed.
use Prim.Native.Nat.{◌-◌}
use Rattle.tables.proofs.shaped_table.Laws as L
use Rattle.tables.proofs.shaped_table.list_tiles.Given as goal

abbrev pub invariant-loop-u : goal.invariant-loop-u
invariant-loop-u l = L.Listing l.layout.nest l.lens l.count l.u

abbrev pub decreases-loop-u : goal.decreases-loop-u
decreases-loop-u l = l.n - l.u
