-- `runs::ahead_of` meets its contract: what lies ahead by the first e runs.
use Rattle.runs.specs.Runs.{AheadIs}
use Rattle.runs.proofs.ahead_of.Given as goal

abbrev pub invariant-loop-e : goal.invariant-loop-e
invariant-loop-e l = AheadIs l.starts l.ends l.e l.at l.to l.reach l.next
