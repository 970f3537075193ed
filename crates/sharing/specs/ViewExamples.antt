-- Read this. What a view at a processor's memory gives for row D, computed: the part that it shows, and each number by its line.
-- Renders document 02, W-208. Ruled out: 11 before 9, the other tenant's part, another processor's, a part at a refusal.
use Rattle.std.specs.Prelude.{◌≡◌, ℕ, List, [], ◌∷◌}
use Rattle.nest.specs.Recipes.{row_d}
use Rattle.sharing.specs.Calls.{view_number, view_part}

-- row D has four cells and two processors, so a tenant's memories are eight words, each processor's four; and one word short
abbrev pub first : List ℕ
first = 10 ∷ 11 ∷ 12 ∷ 13 ∷ 14 ∷ 15 ∷ 16 ∷ 17 ∷ []

abbrev pub second : List ℕ
second = 20 ∷ 21 ∷ 22 ∷ 23 ∷ 24 ∷ 25 ∷ 26 ∷ 27 ∷ []

abbrev pub short : List ℕ
short = 20 ∷ 21 ∷ 22 ∷ 23 ∷ 24 ∷ 25 ∷ 26 ∷ []

-- what both calls give of tenant o and processor b
pub record Look : Type 0 where
  pub number : ℕ
  pub part : List ℕ

abbrev pub viewed : ℕ → List ℕ → Look
viewed n part = record { number = n; part = part }

abbrev pub view_where : List ℕ → List ℕ → List ℕ → ℕ → ℕ → Look
view_where bytes first second o b = viewed (view_number bytes first second o b) (view_part bytes first second o b)

pub record ViewExamples : Type 0 where
  -- the part of one processor, of the tenant named
  pub first_0 : view_where row_d first second 0 0 ≡ viewed 0 (10 ∷ 11 ∷ 12 ∷ 13 ∷ [])
  pub first_1 : view_where row_d first second 0 1 ≡ viewed 0 (14 ∷ 15 ∷ 16 ∷ 17 ∷ [])
  pub second_0 : view_where row_d first second 1 0 ≡ viewed 0 (20 ∷ 21 ∷ 22 ∷ 23 ∷ [])
  pub second_1 : view_where row_d first second 1 1 ≡ viewed 0 (24 ∷ 25 ∷ 26 ∷ 27 ∷ [])
  -- 11: a tenant above 1, a processor that there is none of; the part is empty
  pub tenant_2 : view_where row_d first second 2 0 ≡ viewed 11 []
  pub processor_2 : view_where row_d first second 1 2 ≡ viewed 11 []
  -- 9: either tenant's memories, whichever is named; before 11
  pub other_short : view_where row_d first short 0 0 ≡ viewed 9 []
  pub own_short : view_where row_d short second 0 0 ≡ viewed 9 []
  pub lengths_first : view_where row_d first short 2 0 ≡ viewed 9 []
  pub lengths_before_processor : view_where row_d first short 0 2 ≡ viewed 9 []
  -- the reader's number before 9
  pub reader_first : view_where [] first short 2 2 ≡ viewed 1 []
