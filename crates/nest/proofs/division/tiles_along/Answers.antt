-- `nest::division::tiles_along` meets its contract: a quotient is at most what is divided.
use native.Mathlib.Omega.{arith}
use native.Mathlib.Nat.{div-le_self}
use mathlib.Core.Path.{ap}
use Prim.Native.Nat.{ℕ, ◌+◌, ◌-◌}
use Rattle.nest.proofs.division.tiles_along.Goals as goal

pub overflow_add-result : goal.overflow_add-result
overflow_add-result c =
    record {
      fits = omega (
        arith,
        c.tile_along.ensures,
        div-le_self (c.args.cells - 1) c.args.length,
        c.requires.0,
      );
    }

pub returns : goal.returns
returns c = (
  ap (λ (a : ℕ). a + 1) c.tile_along.ensures,
  omega (arith, c.tile_along.ensures, div-le_self (c.args.cells - 1) c.args.length, c.requires.0),
)
