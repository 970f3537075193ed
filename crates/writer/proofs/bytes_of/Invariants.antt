-- `writer::bytes_of` meets its contract: the loop has laid the records before r.
use Prim.Native.Nat.{ℕ, ◌*◌, ◌≤◌, ◌-◌}
use mathlib.Core.Path.{◌≡◌}
use lib.ListN.{get_or}
use Rattle.nest.specs.Reader.{filled}
use Rattle.nest.specs.Encode.{encode}
use Rattle.writer.proofs.bytes_of.Given as goal

abbrev pub invariant-loop-r : goal.invariant-loop-r
invariant-loop-r l = (l.r ≤ l.records) × (l.bytes ≡ filled 272 (16 * l.r) (λ (p : ℕ). get_or (encode l.nest) p 0))

abbrev pub decreases-loop-r : goal.decreases-loop-r
decreases-loop-r l = l.records - l.r
