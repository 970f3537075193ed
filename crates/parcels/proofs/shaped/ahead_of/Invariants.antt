-- `parcels::shaped::ahead_of` meets its contract: the first j components are moved.
use Prim.Native.Nat.{◌+◌, ◌*◌}
use lib.ListN.{get_or}
use Rattle.layout.proofs.Loops.{Changed}
use Rattle.parcels.proofs.shaped.ahead_of.Given as goal

abbrev pub invariant-loop-j : goal.invariant-loop-j
invariant-loop-j l = Changed (λ i. get_or l.at i 0 + get_or l.components (4 * l.e + i) 0) l.last l.initial.to l.to l.j
