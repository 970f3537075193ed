-- Read this. The body's arithmetic on one small recipe, computed: a sum above 2^32, a shift, a remainder that is cut.
-- Renders document 01, "The sweep": the whole sum divided by 2 to the shift, rounded down, modulo 2^32. Ruled out: modulo before the shift, no modulo.
use Rattle.std.specs.Prelude.{ℕ, ◌≡◌, List, [], ◌∷◌, ◌++◌, replicate}
use Rattle.base.specs.Numbers.{first_of}
use Rattle.machine.specs.Machine.{sweep}
use Rattle.nest.specs.Reader.{nest_of, read_lines}
use Rattle.nest.specs.Recipes.{dimension, bound}
use Rattle.plan.specs.declared.Route.TheVariants.{Direct, Indirect}
use Rattle.plan.specs.Shaped.{plan_of}
use Rattle.conformance.specs.Exact.{sequential, run_nest}
use Rattle.conformance.specs.ExactShape.{shape_of}

-- distance (1,0) of weight 65,535; shift 4, boundary 4,294,967,295
abbrev pub heavy : List ℕ
heavy = (2 ∷ 0 ∷ 1 ∷ 0 ∷ 0 ∷ 0 ∷ 255 ∷ 255 ∷ replicate 8 0) ++ (3 ∷ 4 ∷ 0 ∷ 0 ∷ 255 ∷ 255 ∷ 255 ∷ 255 ∷ replicate 8 0)

-- N 2,1 k 1,1 P 2,0; the same with i2 at least 0, which cuts nothing
abbrev pub row_heavy : List ℕ
row_heavy = dimension 2 1 2 ++ dimension 1 1 0 ++ heavy

abbrev pub row_heavy_bound : List ℕ
row_heavy_bound = dimension 2 1 2 ++ dimension 1 1 0 ++ bound 0 1 0 0 0 0 ++ heavy

abbrev pub deep : List ℕ
deep = 4294967295 ∷ 7 ∷ []

-- cell 0: 4,294,967,295 + 65,535 × 4,294,967,295 is 2^48 - 65,536, divided by 16 it is 2^44 - 4,096, and modulo 2^32 it is 4,294,963,200. Modulo before
-- the shift it would be 268,431,360. Cell 1: 7 + 65,535 × 4,294,963,200 leaves 7 when it is divided by 16, which is dropped
abbrev pub swept : List ℕ
swept = 4294963200 ∷ 4009754880 ∷ []

pub record BodyExamples : Type 0 where
  pub read : first_of (read_lines row_heavy) ≡ 0
  pub read_bound : first_of (read_lines row_heavy_bound) ≡ 0
  -- the sweep's words, which every call's words are, on either route and with a bound
  pub direct : sweep (plan_of Direct (nest_of row_heavy)) deep ≡ swept
  pub indirect : sweep (plan_of Indirect (nest_of row_heavy)) deep ≡ swept
  pub with_bound : sweep (plan_of Direct (nest_of row_heavy_bound)) deep ≡ swept
  -- and those of the report's sequential nest
  pub nest : run_nest (nest_of row_heavy) deep (0 ∷ 0 ∷ []) (sequential (nest_of row_heavy)) ≡ swept
  pub nest_bound : run_nest (nest_of row_heavy_bound) deep (0 ∷ 0 ∷ []) (shape_of (nest_of row_heavy_bound) (sequential (nest_of row_heavy_bound))) ≡ swept
