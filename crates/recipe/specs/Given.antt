-- For contracts below the calls: no reader needs it.
-- What a call has of a recipe that it opened: its layout on the route that a word names, with its table or without; or why it is refused.
-- No sentence of document 01.
use Rattle.std.specs.Prelude.{ℕ, ◌≡◌, List, Result, IfOk}
use Rattle.base.specs.declared.refusal.Refusal.{Refusal}
use Rattle.base.specs.Numbers.{first_of}
use Rattle.base.specs.Refusals.{number_of}
use Rattle.machine.specs.Plan.{Plan}
use Rattle.nest.specs.Reader.{nest_of}
use Rattle.plan.specs.Shaped.{plan_of}
use Rattle.layout.specs.declared.Layout.{Layout}
use Rattle.layout.specs.Laid.{plan_of_layout}
use Rattle.layout.specs.Sizes.{Routed}
use Rattle.layout.specs.RouteWords.{route_of}
use Rattle.tables.specs.declared.Table.{Table}
use Rattle.recipe.specs.Routes.{lines_for}

-- no line of the recipe's is true, and p is its plan on the route that a word names
pub record Opened (bytes : List ℕ) (word : ℕ) (p : Plan) : Type 0 where
  pub none : first_of (lines_for (route_of word) bytes) ≡ 0
  pub is : p ≡ plan_of (route_of word) (nest_of bytes)

-- the layout of the recipe's nest on that route, which is open to it
pub record LaidOut (bytes : List ℕ) (word : ℕ) (l : Layout) : Type 0 where
  pub nest : l.nest ≡ nest_of bytes
  pub route : l.sizes.route ≡ route_of word
  pub routed : Routed l.nest l.sizes
  pub opened : Opened bytes word (plan_of_layout l)

-- a recipe read, with its counts
pub record LaysOut (bytes : List ℕ) (word : ℕ) (answer : Result Layout Refusal) : Type 0 where
  pub number : number_of answer ≡ first_of (lines_for (route_of word) bytes)
  pub layout : IfOk answer (LaidOut bytes word)

-- and with its table
pub record Opens (bytes : List ℕ) (word : ℕ) (answer : Result Table Refusal) : Type 0 where
  pub number : number_of answer ≡ first_of (lines_for (route_of word) bytes)
  pub layout : IfOk answer (λ t. LaidOut bytes word t.layout)
