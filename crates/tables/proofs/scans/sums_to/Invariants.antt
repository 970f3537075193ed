-- `tables::scans::sums_to` meets its contract: the slots before one.
use Prim.Native.Nat.{ℕ, ◌*◌, ◌≤◌}
use Rattle.machine.specs.Plan.{Message}
use Rattle.tables.specs.scans.Scans.{Lengths, Summing}
use Rattle.tables.proofs.scans.sums_to.Given as goal

abbrev pub invariant-loop-length : goal.invariant-loop-length
invariant-loop-length l =
    (l.messages ≤ l.length-index) × ((l.words ≤ 16384 * l.length-index)
    × ((f : ℕ → Message) → Lengths f l.end l.lens → Summing f l.length-index l.messages l.words))
