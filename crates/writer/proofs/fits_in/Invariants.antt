-- `writer::fits_in` meets its contract: all numbers passed are in their limits.
use Prim.Native.Nat.{ℕ}
use mathlib.Core.List.{List}
use Rattle.writer.specs.Tables.{AreNumbers}
use Rattle.writer.proofs.Loops.{Within}
use Rattle.writer.proofs.fits_in.Given as goal

abbrev pub invariant-loop-i : goal.invariant-loop-i
invariant-loop-i g l = (numbers : List ℕ) → AreNumbers (goal.F-post g l.of) l.values numbers → Within l.n l.bound numbers l.i
