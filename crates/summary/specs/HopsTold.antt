-- Read this. What the call for a message's hops tells: at least one for each message, and no more than there are spread dimensions; row C's, computed.
-- Renders document 02, W-204 and W-205: a message whose sending and taking processor are the same is none, so no message has 0 hops.
use Rattle.std.specs.Prelude.{ℕ, zero, suc, ◌≤◌, ◌≡◌, List, [], ◌∷◌, ◌++◌}
use Rattle.nest.specs.Reader.{nest_of}
use Rattle.nest.specs.Recipes.{row_c}
use Rattle.conformance.specs.Examples.{row_line}
use Rattle.summary.specs.declared.HopCount.{HopCount}
use Rattle.summary.specs.Summary.{no_hops, hops_of}

pub record HopsTold (bytes : List ℕ) : Type 0 where
  pub least : (m : ℕ) → (hops_of bytes m).number ≡ 0 → 1 ≤ (hops_of bytes m).hops
  pub most : (m : ℕ) → (hops_of bytes m).number ≡ 0 → (hops_of bytes m).hops ≤ (nest_of bytes).spread

-- ---- computed: what is told of messages 0 to n - 1

unfoldable pub hops_of_first : List ℕ → ℕ → List HopCount
hops_of_first bytes zero = []
hops_of_first bytes (suc m) = hops_of_first bytes m ++ (hops_of bytes m ∷ [])

abbrev pub told : ℕ → HopCount
told n = record { number = 0; hops = n }

pub record HopsExamples : Type 0 where
  -- row C: tiles 0 and 1 send in directions (0,1), (1,0) and (1,1), the others in one of the first two; and no such message behind the last
  pub C : hops_of_first row_c 11
      ≡ told 1 ∷ told 1 ∷ told 2 ∷ told 1 ∷ told 1 ∷ told 2 ∷ told 1 ∷ told 1 ∷ told 1 ∷ told 1 ∷ no_hops 11 ∷ []
  -- row Line, with a count of 1 in the first dimension: direction (1,1) goes by one
  pub line : hops_of_first row_line 2 ≡ told 1 ∷ no_hops 11 ∷ []
