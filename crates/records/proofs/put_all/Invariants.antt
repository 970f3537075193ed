use Rattle.std.proofs.Common.{◌≡◌}
use Rattle.records.proofs.Stores.{stored_to}
use Rattle.records.proofs.put_all.Given as goal

-- the first i records are stored
abbrev pub invariant-loop-i : goal.invariant-loop-i
invariant-loop-i l = l.progress ≡ stored_to l.flat l.i l.fn.progress
