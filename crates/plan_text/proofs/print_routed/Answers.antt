-- `plan_text::print_routed` meets its contract: its space has room for every text.
use Prim.Native.Nat.{ℕ}
use lib.ListN.{length-replicate}
use Rattle.plan_text.proofs.print_routed.Goals as goal

pub print_by-requires : goal.print_by-requires
print_by-requires g c = length-replicate {A = ℕ} 473159 0
