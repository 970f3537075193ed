-- No more bytes are counted than the space has, which keeps its length.
use Rattle.std.proofs.Common.{length, ◌≡◌}
use Rattle.program_io.proofs.read_input.Given as goal

abbrev pub invariant-loop-n : goal.invariant-loop-n
invariant-loop-n g l = length l.space ≡ length l.initial.space
