-- Read this.
-- Rows of document 01's table by rounds: each tile's round, and how many rounds there are.
-- Renders document 02, W-213: the rounds of row A; row B's are read off its two messages; and W-209's: a row with a bound.
use Rattle.std.specs.Prelude.{◌≡◌, [], ◌∷◌}
use Rattle.nest.specs.Recipes.{row_a, row_b}
use Rattle.conformance.specs.ShapedExamples.{row_triangle}
use Rattle.rounds.specs.Rounds.{rounds, rounds_to}
use Rattle.engine.specs.Calls.{recipe}

pub record RoundExamples : Type 0 where
  pub A : rounds (recipe row_a 0) ≡ 9
  pub tiles_A : rounds_to (recipe row_a 0) 16 ≡ 1 ∷ 2 ∷ 3 ∷ 4 ∷ 2 ∷ 3 ∷ 4 ∷ 5 ∷ 5 ∷ 6 ∷ 7 ∷ 8 ∷ 6 ∷ 7 ∷ 8 ∷ 9 ∷ []
  pub B : rounds (recipe row_b 0) ≡ 3
  pub tiles_B : rounds_to (recipe row_b 0) 4 ≡ 1 ∷ 2 ∷ 2 ∷ 3 ∷ []
  -- three tiles of four are there: the second waits for the first, its processor's tile before it, and the last for the first's message
  pub triangle : rounds (recipe row_triangle 0) ≡ 2
  pub tiles_triangle : rounds_to (recipe row_triangle 0) 3 ≡ 1 ∷ 2 ∷ 2 ∷ []
  pub three_tiles : (recipe row_triangle 0).tiles ≡ 3
