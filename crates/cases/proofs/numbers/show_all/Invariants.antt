-- Behind each case there are fewer bytes.
use Rattle.std.proofs.Common.{length}
use Rattle.cases.proofs.numbers.show_all.Given as goal

abbrev pub decreases-loop-case : goal.decreases-loop-case
decreases-loop-case g l = length l.rest
