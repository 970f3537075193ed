-- `is-taker` meets its contract: in each of the four cases.
use Prim.Native.Nat.{ℕ, ◌+◌, ◌*◌}
use mathlib.Core.Path.{◌≡◌}
use mathlib.Core.Bool.{Bool, true, false}
use native.Mathlib.Omega.{arith}
use lib.Dec.{leb}
use borrow.Author.Tests.{le-leb, lt-leb}
use Rattle.base.specs.Tests.{one}
use Rattle.part.proofs.sides.is_taker.Goals as goal

by-ends : (v : ℕ) (f g : Bool) → v ≡ one f + 2 * one g → leb 2 v ≡ g
unfolding one
by-ends v true true e = le-leb 2 v (omega (arith, e))
by-ends v false true e = le-leb 2 v (omega (arith, e))
by-ends v true false e = lt-leb 2 v (omega (arith, e))
by-ends v false false e = lt-leb 2 v (omega (arith, e))

pub returns : goal.returns
returns c = by-ends c.args.side
