-- `copy_words` meets its contract: the words passed.
use lib.ListN.{get_or}
use Rattle.base.proofs.Stored as stored
use Rattle.base.proofs.copy_words.Given as goal

abbrev pub invariant-loop-i : goal.invariant-loop-i
invariant-loop-i l = stored.Stored (λ j. get_or l.words j 0) l.fn.to l.to l.i
