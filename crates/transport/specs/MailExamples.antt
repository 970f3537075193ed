-- Read this.
-- Rows of document 01's table, and a small recipe with a bound, by the calls for a transport, computed: messages' rows, cells' processors, and
-- what is waited for at the start. Renders "Recipes to be met": row B's messages are those of the plan printer, with their places.
use Rattle.std.specs.Prelude.{◌≡◌, [], ◌∷◌}
use Rattle.base.specs.Tests.{tabulate}
use Rattle.machine.specs.Machine.{fresh}
use Rattle.nest.specs.Recipes.{row_b, row_d}
use Rattle.conformance.specs.ShapedExamples.{row_triangle}
use Rattle.engine.specs.Calls.{recipe}
use Rattle.transport.specs.Calls.{rows_to, owner_of, waits_of, waited}

pub record MailExamples : Type 0 where
  -- the second message lies behind the eight words of the first
  pub B : rows_to (recipe row_b 0) 2 ≡ 0 ∷ 2 ∷ 0 ∷ 1 ∷ 8 ∷ 0 ∷ 1 ∷ 3 ∷ 0 ∷ 1 ∷ 6 ∷ 8 ∷ []
  -- four cells on two processors; of the triangle's four cells the third is outside
  pub owners_D : tabulate (owner_of (recipe row_d 0)) 4 ≡ 0 ∷ 0 ∷ 1 ∷ 1 ∷ []
  pub owners_triangle : tabulate (owner_of (recipe row_triangle 0)) 4 ≡ 0 ∷ 0 ∷ 2 ∷ 1 ∷ []
  -- at the start processor 1 stands at tile 1 and waits for message 0, processor 0 stands at tile 0 and waits for nothing
  pub waits_D : waited (recipe row_d 0) (fresh (recipe row_d 0)) 1 ≡ waits_of (1 ∷ []) 1
  pub goes_D : waited (recipe row_d 0) (fresh (recipe row_d 0)) 0 ≡ waits_of (0 ∷ []) 0
