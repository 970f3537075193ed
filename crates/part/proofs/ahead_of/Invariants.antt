-- `ahead_of` meets its contract: the remainders, then their rank.
use Prim.Native.Nat.{◌+◌, ◌-◌, ◌%◌}
use mathlib.Core.List.{[], ◌∷◌}
use lib.ListN.{get_or}
use Rattle.layout.proofs.Loops.{Changed}
use Rattle.part.proofs.ahead_of.Given as goal

abbrev pub invariant-loop-j : goal.invariant-loop-j
invariant-loop-j l = Changed (λ i. (get_or l.at i 0 + get_or l.along i 0) % get_or l.counts i 0) l.n (0 ∷ 0 ∷ 0 ∷ 0 ∷ []) l.to l.j

abbrev pub decreases-loop-j : goal.decreases-loop-j
decreases-loop-j l = l.n - l.j
