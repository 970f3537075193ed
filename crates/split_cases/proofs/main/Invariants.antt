-- What is counted fits a word.
use Rattle.std.proofs.Common.{◌+◌, ◌*◌, ◌≤◌}
use Rattle.split_cases.proofs.main.Given as goal

abbrev pub invariant-loop-length : goal.invariant-loop-length
invariant-loop-length l = l.n + 1024 ≤ 1024 * l.length
