-- `tables::scans::find` meets its contract: the message is not among the slots before.
use Prim.Native.Nat.{ℕ, ◌*◌, ◌≤◌}
use Rattle.machine.specs.Plan.{Message}
use Rattle.tables.specs.scans.Scans.{Lengths, Summing}
use Rattle.tables.proofs.scans.find.Given as goal

abbrev pub invariant-loop-slot : goal.invariant-loop-slot
invariant-loop-slot l =
    (l.number ≤ l.m) × ((l.number ≤ l.slot) × ((l.offset ≤ 16384 * l.slot)
    × ((f : ℕ → Message) → Lengths f l.slots l.lens → Summing f l.slot l.number l.offset)))
