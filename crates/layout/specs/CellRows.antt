-- For contracts below the calls: no reader needs it.
-- Rows: cells that differ in the last component alone.
-- No sentence of document 01.
use Rattle.std.specs.Prelude.{ℕ, ◌+◌, ◌≡◌, List}
use Rattle.base.specs.Tests.{tabulate}
use Rattle.nest.specs.declared.Nest.{Nest}

-- the cells of a row, n of them from c on
abbrev pub row_of : ℕ → ℕ → List ℕ
row_of c n = tabulate (λ y. c + y) n

-- the nest's components, lent
pub record Given (x : Nest) (components : List ℕ) : Type 0 where
  pub is : components ≡ x.components
