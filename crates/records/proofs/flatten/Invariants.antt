use Rattle.std.proofs.Common.{◌≡◌}
use lib.ListN.{drop}
use Rattle.records.proofs.Laws.{flat_from, flat_of}
use Rattle.records.proofs.flatten.Given as goal

-- the records from i on, written into what is there, make the whole
abbrev pub invariant-loop-i : goal.invariant-loop-i
invariant-loop-i l = flat_from l.i (drop l.i l.progress) l.flat ≡ flat_of l.progress
