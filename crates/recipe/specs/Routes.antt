-- Read this.
-- The lines that come first in a call that is given a route: the reader's, then 21; and what reading a recipe for a route answers.
-- Renders document 02, W-209: a recipe with bounds, even such as cut nothing, is turned away where indirect passing is wanted, after 8.
use Rattle.std.specs.Prelude.{ℕ, ◌≡◌, Bool, true, false, List, [], ◌∷◌, ◌++◌, ltb, Result, IfOk}
use Rattle.base.specs.Tests.{◌and◌}
use Rattle.base.specs.Lists.{Bytes}
use Rattle.base.specs.Numbers.{Line, line, first_of}
use Rattle.base.specs.declared.refusal.Refusal.{Refusal}
use Rattle.base.specs.Refusals.{number_of}
use Rattle.nest.specs.declared.Nest.{Nest}
use Rattle.nest.specs.Reader.{read_lines, nest_of}
use Rattle.plan.specs.declared.Route.{Route}
use Rattle.plan.specs.declared.Route.TheVariants.{Direct, Indirect}

unfoldable pub indirect : Route → Bool
indirect Direct = false
indirect Indirect = true

abbrev pub route_lines : Route → Nest → List Line
route_lines r x = line 21 (indirect r and ltb 0 x.bounds) ∷ []

unfoldable pub lines_for : Route → List ℕ → List Line
lines_for r bytes = read_lines bytes ++ route_lines r (nest_of bytes)

-- a recipe read for a route
pub record ReadFor (r : Route) (bytes : List ℕ) (answer : Result Nest Refusal) : Type 0 where
  pub number : number_of answer ≡ first_of (lines_for r bytes)
  pub nest : IfOk answer (λ x. x ≡ nest_of bytes)
  pub bytes_are : IfOk answer (λ _. Bytes bytes)
