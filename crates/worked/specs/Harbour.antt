-- Read this with docs/MODELLERS.md.
-- A worked recipe: its bytes, and what a modeller expects of it, to be computed by the checker from the definitions.
-- Document 01's "Recipes to be met" has eight such rows; this is how to add one's own. N 6,5, k 3,2, P 2,0, three distances.
use Rattle.std.specs.Prelude.{ℕ, ◌+◌, ◌≡◌, List, [], ◌∷◌}
use Rattle.base.specs.Numbers.{first_of}
use Rattle.base.specs.Tests.{tabulate}
use Rattle.machine.specs.Plan.{held_by}
use Rattle.machine.specs.Machine.{State, sweep}
use Rattle.machine.specs.Runs.{Event, Demand3}
use Rattle.nest.specs.Reader.{nest_of, read_lines}
use Rattle.plan.specs.declared.Route.TheVariants.{Direct}
use Rattle.plan.specs.Shaped.{plan_of}
use Rattle.conformance.specs.Examples.{accepted, figures, lines_of}
use Rattle.engine.specs.Calls.{recipe, fresh_call, collect_call}
use Rattle.engine.specs.Demands.{calls}

-- printed by `rolwyddac recipe --list`
abbrev pub harbour : List ℕ
harbour =
    1 ∷ 0 ∷ 6 ∷ 0 ∷ 3 ∷ 0 ∷ 2 ∷ 0 ∷ 0 ∷ 0 ∷ 0 ∷ 0 ∷ 0 ∷ 0 ∷ 0 ∷ 0 ∷ 1 ∷ 0 ∷ 5 ∷ 0 ∷ 2 ∷ 0 ∷ 0 ∷ 0 ∷ 0 ∷ 0 ∷ 0 ∷ 0 ∷ 0 ∷ 0 ∷ 0 ∷ 0 ∷ 2 ∷ 0 ∷ 1 ∷ 0 ∷ 0 ∷ 0 ∷ 3 ∷ 0 ∷ 0 ∷ 0 ∷ 0 ∷ 0 ∷ 0 ∷ 0 ∷ 0 ∷ 0 ∷ 2 ∷ 0 ∷ 0 ∷ 1 ∷ 0 ∷ 0 ∷ 2 ∷ 0 ∷ 0 ∷ 0 ∷ 0 ∷ 0 ∷ 0 ∷ 0 ∷ 0 ∷ 0 ∷ 2 ∷ 0 ∷ 1 ∷ 1 ∷ 0 ∷ 0 ∷ 1 ∷ 0 ∷ 0 ∷ 0 ∷ 0 ∷ 0 ∷ 0 ∷ 0 ∷ 0 ∷ 0 ∷ 3 ∷ 2 ∷ 0 ∷ 0 ∷ 7 ∷ 0 ∷ 0 ∷ 0 ∷ 0 ∷ 0 ∷ 0 ∷ 0 ∷ 0 ∷ 0 ∷ 0 ∷ 0 ∷ []

-- the source: 100, 101, ..
abbrev pub depths : List ℕ
depths = tabulate (λ c. 100 + c) 30

-- worked out by hand, or by another program; messages are passed directly
pub record Expected : Type 0 where
  pub number : first_of (read_lines harbour) ≡ 0
  pub plan : figures Direct harbour ≡ accepted 6 3 5 18
  pub lines : lines_of Direct harbour ≡ (0 ∷ 0 ∷ 3 ∷ 0 ∷ 1 ∷ 2 ∷ []) ∷ (1 ∷ 1 ∷ 4 ∷ 0 ∷ 1 ∷ 2 ∷ []) ∷ (2 ∷ 2 ∷ 5 ∷ 0 ∷ 1 ∷ 1 ∷ []) ∷ []
  pub cells : held_by (plan_of Direct (nest_of harbour)) 1 ≡ 12 ∷ 13 ∷ []
  pub grid : sweep (plan_of Direct (nest_of harbour)) depths
      ≡ 35 ∷ 49 ∷ 57 ∷ 61 ∷ 63 ∷ 57 ∷ 100 ∷ 131 ∷ 152 ∷ 165 ∷ 75 ∷ 154 ∷ 228 ∷ 289 ∷ 334 ∷ 90 ∷ 208 ∷ 342 ∷ 474 ∷ 589 ∷ 102 ∷ 259 ∷ 468 ∷ 705 ∷ 943 ∷ 113 ∷ 307 ∷ 601 ∷ 978 ∷ 1404 ∷ []

-- and what the theorem says of it, whatever the route, the source, the areas and the order
unfoldable pub Agrees : Type 0
Agrees = (route : ℕ) (source : List ℕ) (s : State) → (fresh_call harbour route source s).number ≡ 0 → (events : List Event)
    → Demand3 (calls harbour route source) (fresh_call harbour route source s).after events (recipe harbour route) source
    (collect_call harbour route source)
