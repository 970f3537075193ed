-- Read this.
-- Rows by the exported calls by rounds: lent areas of their lengths the driver refuses nothing, and tells 9 rounds for row A of document 01's table; for a
-- row with a bound, what it tells and each tile's round. Renders document 02, W-213: the rounds of row A, and W-209.
use Rattle.std.specs.Prelude.{ℕ, ◌≡◌, List, [], ◌∷◌, length}
use Rattle.nest.specs.Recipes.{row_a}
use Rattle.conformance.specs.ShapedExamples.{row_triangle}
use Rattle.engine.specs.Calls.{recipe}
use Rattle.schedule.specs.declared.Driven.{Driven}
use Rattle.calls.specs.Gave.{Areas, RoundsGave, RoundsOfGave}
use Rattle.guarantees.specs.Begins.{LentFor}

pub record DriverExample : Type 0 where
  pub A : (source : List ℕ) (a b : Areas) (d : Driven) → RoundsGave row_a source a d b → LentFor (recipe row_a 0) source a
      → d ≡ record { number = 0; rounds = 9 }
  -- of four tiles three are there: the last, on the second processor, waits for the first alone
  pub triangle : (source : List ℕ) (a b : Areas) (d : Driven) → RoundsGave row_triangle source a d b → LentFor (recipe row_triangle 0) source a
      → d ≡ record { number = 0; rounds = 2 }
  pub triangle_tiles : (old out : List ℕ) (n : ℕ) → RoundsOfGave row_triangle old n out → length old ≡ 3 → (n ≡ 0) × (out ≡ 1 ∷ 2 ∷ 2 ∷ [])
