-- For contracts below the calls: no reader needs it.
-- Where the distances read in a row: from which cell on, and how far back.
-- No sentence of document 01.
use Rattle.std.specs.Prelude.{ℕ, ◌-◌, ◌<◌, min, ◌≡◌, List, get_or, leb}
use Rattle.base.specs.Tests.{pick, every}
use Rattle.nest.specs.declared.Nest.{Nest}
use Rattle.nest.specs.Nest.{length_of, component}
use Rattle.nest.specs.Places.{rank}

-- from which last component on distance e reads a cell, in the row of a place; 1024 is above all
unfoldable pub first_read : Nest → List ℕ → ℕ → ℕ
first_read x i e =
    pick (every (λ j. leb (component x e j) (get_or i j 0)) (x.dimensions - 1))
    (component x e (x.dimensions - 1)) 1024

-- how many cells back distance e reads
unfoldable pub step_back : Nest → ℕ → ℕ
step_back x e = rank (length_of x) (λ j. min (component x e j) (length_of x j)) x.dimensions

pub record Firsts (x : Nest) (i first : List ℕ) : Type 0 where
  pub each : (e : ℕ) → e < x.distances → get_or first e 0 ≡ first_read x i e

pub record Backs (x : Nest) (back : List ℕ) : Type 0 where
  pub each : (e : ℕ) → e < x.distances → get_or back e 0 ≡ step_back x e
