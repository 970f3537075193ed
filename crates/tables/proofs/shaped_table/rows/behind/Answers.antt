-- `tables::shaped_table::rows::behind` meets its contract.
use Prim.Native.Nat.{◌+◌}
use mathlib.Core.Path.{refl}
use native.Mathlib.Nat.{mul-le-mul}
use native.Mathlib.Omega.{arith}
use Rattle.base.proofs.Tests.{never_both}
use Rattle.tables.proofs.shaped_table.rows.behind.Goals as goal

pub returns-then-at-steps : goal.returns-then-at-steps
returns-then-at-steps c = λ e. absurd (never_both e refl)

pub overflow_mul-result : goal.overflow_mul-result
overflow_mul-result c =
    omega (
      arith,
      mul-le-mul {n₁ = c.args.at + 2} {m₁ = c.args.tiling} {n₂ = 1026} {m₂ = 1024} (omega (arith, c.requires.0)) c.requires.1,
    )
