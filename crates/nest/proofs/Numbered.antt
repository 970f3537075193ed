-- No line of the reader has the number 0, so lines behind them count where these give 0.
use Prim.Native.Nat.{ℕ, suc}
use mathlib.Core.Logic.{◌≢◌}
use mathlib.Core.List.{List}
use native.Mathlib.Omega.{arith}
use Rattle.base.proofs.Numbers.{Numbered}
use Rattle.nest.specs.Reader.{nest_lines, read_lines}

pub numbered : (bytes : List ℕ) → Numbered (read_lines bytes)
unfolding read_lines nest_lines
numbered bytes = (ne, (ne, (ne, (ne, (ne, (ne, (ne, (ne, (ne, (ne, (ne, (ne, tt))))))))))))
  where
    ne : {n : ℕ} → suc n ≢ 0
    ne q = omega arith
