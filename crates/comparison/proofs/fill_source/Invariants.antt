-- The words so far are the source's.
use mathlib.Core.Path.{◌≡◌}
use lib.ListN.{get_or}
use Prim.Native.Nat.{ℕ, ◌+◌, ◌<◌}
use Rattle.base.specs.Tests.{pick}
use Rattle.comparison.proofs.fill_source.Given as goal

abbrev pub invariant-loop-c : goal.invariant-loop-c
invariant-loop-c l = (j : ℕ) → j < l.c → get_or l.source j 0 ≡ pick l.counting (j + 1) 1
