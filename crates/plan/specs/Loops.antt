-- Read this.
-- The report's allocation of tiles to processors, and its loops: the indices in the order in which they meet them.
-- Renders document 002, section 2 with Figure 4; a vector is a function from the dimension.
use Rattle.std.specs.Prelude.{ℕ, zero, suc, ◌+◌, ◌-◌, ◌/◌, ◌%◌, List, [], ◌∷◌, ◌++◌, map, ltb, eqb}
use Rattle.base.specs.Tests.{pick}
use Rattle.nest.specs.declared.Nest.{Nest}
use Rattle.nest.specs.Nest.{length_of, tile_length, processor_count}

-- a(t) = t|1,m mod P
abbrev pub allocation : Nest → (ℕ → ℕ) → ℕ → ℕ
allocation x t j = t j % processor_count x j

-- DO first, last, stride: its values
unfoldable pub values : ℕ → ℕ → ℕ → List ℕ
values first stride zero = []
values first stride (suc n) = first ∷ values (first + stride) stride n

unfoldable pub do_loop : ℕ → ℕ → ℕ → List ℕ
do_loop first last stride = values first stride ((last + stride - first) / stride)

-- all TL are 0, and TU is the tile of the last index
abbrev pub last_tile : Nest → ℕ → ℕ
last_tile x j = (length_of x j - 1) / tile_length x j

-- the loop over t_j on processor p
unfoldable pub tile_loop : Nest → (ℕ → ℕ) → ℕ → List ℕ
tile_loop x p j =
    pick (ltb j x.spread) (do_loop (p j % processor_count x j) (last_tile x j) (processor_count x j)) (do_loop 0 (last_tile x j) 1)

-- a loop's body for each value in turn
unfoldable pub for_each : {A B : Type 0} → (A → List B) → List A → List B
for_each body [] = []
for_each body (r ∷ rs) = body r ++ for_each body rs

abbrev pub extend : (ℕ → ℕ) → ℕ → ℕ → ℕ → ℕ
extend t l v j = pick (eqb j l) v (t j)

-- l loops one in another, the j-th over `range j`: the indices in the order in which they meet them
unfoldable pub nested : (ℕ → List ℕ) → ℕ → List (ℕ → ℕ)
nested range zero = (λ j. 0) ∷ []
nested range (suc l) = for_each (λ i. map (extend i l) (range l)) (nested range l)

-- Figure 4: the tile indices that its first l loops meet on processor p
unfoldable pub loops : Nest → (ℕ → ℕ) → ℕ → List (ℕ → ℕ)
unfolding nested
loops x p l = nested (tile_loop x p) l
