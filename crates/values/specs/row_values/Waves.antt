-- For contracts below the calls: no reader needs it.
-- What is made once in a call and lent to every row; rows where all distances read, and four of them.
-- No sentence of document 01.
use Rattle.std.specs.Prelude.{ℕ, zero, suc, ◌+◌, ◌*◌, ◌-◌, ◌≤◌, ◌<◌, max, ◌≡◌, true, List, get_or, leb}
use Rattle.base.specs.Tests.{every}
use Rattle.nest.specs.declared.Nest.{Nest}
use Rattle.nest.specs.Nest.{component}
use Rattle.layout.specs.declared.Cell.{Cell}
use Rattle.layout.specs.Places.{Has, Located}
use Rattle.layout.specs.CellRows.{Given}
use Rattle.values.specs.row_values.Reads.{Backs}

-- the most that the first e distances have in dimension j
unfoldable pub most_in : List ℕ → ℕ → ℕ → ℕ
most_in l j zero = 0
most_in l j (suc e) = max (most_in l j e) (get_or l (4 * e + j) 0)

abbrev pub most_of : Nest → ℕ → ℕ → ℕ
most_of x j e = most_in x.components j e

-- from which last component on each distance reads in a row where it reads at all
pub record Lasts (x : Nest) (first : List ℕ) : Type 0 where
  pub each : (e : ℕ) → e < x.distances → get_or first e 0 ≡ component x e (x.dimensions - 1)

-- what is made once in a call and lent to every row
pub record RowTables (x : Nest) (components lasts back weights margin : List ℕ) : Type 0 where
  pub given : Given x components
  pub backs : Backs x back
  pub weights_are : weights ≡ x.weights
  pub firsts : Lasts x lasts
  pub margins : Has margin (λ j. most_of x j x.distances) x.dimensions

abbrev pub Inner : List ℕ → List ℕ → ℕ → Type 0
Inner margin at last = every (λ j. leb (get_or margin j 0) (get_or at j 0)) last ≡ true

pub record Inners (margin a b c d : List ℕ) (last : ℕ) : Type 0 where
  pub one : Inner margin a last
  pub two : Inner margin b last
  pub three : Inner margin c last
  pub fourth : Inner margin d last

-- four rows of the same columns, by their first cells
pub record Fours (x : Nest) (a b c d : Cell) (w : ℕ) : Type 0 where
  pub one : Located x a.number a
  pub two : Located x b.number b
  pub three : Located x c.number c
  pub fourth : Located x d.number d
  pub same_two : get_or b.place (x.dimensions - 1) 0 ≡ get_or a.place (x.dimensions - 1) 0
  pub same_three : get_or c.place (x.dimensions - 1) 0 ≡ get_or a.place (x.dimensions - 1) 0
  pub same_fourth : get_or d.place (x.dimensions - 1) 0 ≡ get_or a.place (x.dimensions - 1) 0
  pub fits : get_or a.place (x.dimensions - 1) 0 + w ≤ get_or x.lengths (x.dimensions - 1) 0
  pub then_two : a.number + w ≤ b.number
  pub then_three : b.number + w ≤ c.number
  pub then_fourth : c.number + w ≤ d.number
