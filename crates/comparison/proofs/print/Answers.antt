-- `comparison::print` meets its contract.
use Prim.Native.Nat.{ℕ}
use lib.ListN.{length-replicate}
use Rattle.comparison.proofs.print.Goals as goal

pub print_by-requires : goal.print_by-requires
print_by-requires g c = length-replicate {A = ℕ} 28 0
