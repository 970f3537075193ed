-- Read this.
-- On the indirect route a message goes one step along one spread dimension, round the end; on either route it goes to another processor.
-- Renders requests W-204 and W-205. A processor's place has a component for each spread dimension, below the count there.
use Rattle.std.specs.Prelude.{ℕ, ◌+◌, ◌%◌, ◌<◌, ◌≡◌, ◌≢◌}
use Rattle.nest.specs.declared.Nest.{Nest}
use Rattle.nest.specs.Nest.{processor_count}
use Rattle.nest.specs.Places.{place}

-- the components of processor b, whose number is their rank: document 01, "Cells, tiles and boards"
abbrev pub processor_place : Nest → ℕ → ℕ → ℕ
processor_place x b j = place (processor_count x) x.spread b j

-- processor c is one on from processor b: in one dimension, with more processors than one, by one, from the last to the first; in no other
pub record NextAlong (x : Nest) (b c : ℕ) : Type 0 where
  pub dimension : ℕ
  pub spread : dimension < x.spread
  pub several : 1 < processor_count x dimension
  pub one_on : processor_place x c dimension ≡ (processor_place x b dimension + 1) % processor_count x dimension
  pub else_same : (j : ℕ) → j < x.spread → j ≢ dimension → processor_place x c j ≡ processor_place x b j
