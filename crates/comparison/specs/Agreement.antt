-- Read this.
-- What the second program computes of one source and one order: a run driven to its end, its grid collected, the sweep, their comparison.
-- Renders document 01, "Recipes to be met": the second program's two sources, its two orders, `agree`, `differ` and `beyond`.
use Rattle.std.specs.Prelude.{ℕ, ◌+◌, ◌*◌, ◌≤◌, ◌≡◌, Bool, List, eqb, ltb}
use Rattle.base.specs.Tests.{◌and◌, ◌or◌, pick, tabulate}
use Rattle.base.specs.Alike.{same_words}
use Rattle.base.specs.Numbers.{first_of}
use Rattle.machine.specs.Plan.{count, words}
use Rattle.machine.specs.Machine.{State, Answered}
use Rattle.machine.specs.Runs.{state_after, total}
use Rattle.nest.specs.Reader.{read_lines}
use Rattle.engine.specs.Calls.{recipe, fresh_call, collect_call, sweep_call}
use Rattle.engine.specs.Demands.{calls}
use Rattle.comparison.specs.declared.drive.Order.{Order}
use Rattle.comparison.specs.drive.Drive.{rounds_of}
use Rattle.comparison.specs.declared.Extent.{Extent}

-- the program's limits: more than 1,024 cells, or more than 4,096 words of memories
unfoldable pub is_beyond : ℕ → ℕ → Bool
is_beyond cells processors = ltb 1024 cells or ltb 4096 (cells * processors)

-- the program's two sources: 1 at each cell, or the cell's number plus 1
unfoldable pub source_of : Bool → ℕ → List ℕ
source_of counting cells = tabulate (λ c. pick counting (c + 1) 1) cells

-- the areas after a fresh start of s and at most n rounds in the order
abbrev pub driven : List ℕ → List ℕ → Order → ℕ → State → State
driven bytes source o n t = state_after (calls bytes 0 source) t (rounds_of (calls bytes 0 source) o n t)

unfoldable pub ran : List ℕ → List ℕ → Order → ℕ → State → State
ran bytes source o n s = driven bytes source o n (fresh_call bytes 0 source s).after

-- what stands in the areas and in the two grids at the end, and what is said of the grids
pub record Outcome : Type 0 where
  pub areas : State
  pub grid : List ℕ
  pub swept : List ℕ
  pub agree : Bool

abbrev pub outcome : State → List ℕ → List ℕ → Bool → Outcome
outcome t g h b = record { areas = t; grid = g; swept = h; agree = b }

-- both calls gave 0, and they left the same words
unfoldable pub agreeing : Answered (List ℕ) → Answered (List ℕ) → Bool
agreeing collected swept = eqb collected.number 0 and eqb swept.number 0 and same_words collected.after swept.after

-- the areas t collected into g, the sweep into h
unfoldable pub compared : List ℕ → List ℕ → State → List ℕ → List ℕ → Outcome
compared bytes source t g h =
    outcome t (collect_call bytes 0 source t g).after (sweep_call bytes source h).after
    (agreeing (collect_call bytes 0 source t g) (sweep_call bytes source h))

-- a run from the areas s, collected and compared
abbrev pub ran_and_compared : List ℕ → List ℕ → Order → ℕ → State → List ℕ → List ℕ → Outcome
ran_and_compared bytes source o n s g h = compared bytes source (ran bytes source o n s) g h

-- ---- what the functions hand to each other

-- the figures are the recipe's
pub record Measured (bytes : List ℕ) (x : Extent) : Type 0 where
  pub cells : x.cells ≡ (recipe bytes 0).cells
  pub processors : x.processors ≡ (recipe bytes 0).processors
  pub messages : x.messages ≡ count (recipe bytes 0)
  pub words : x.words ≡ words (recipe bytes 0)
  pub steps : x.steps ≡ total (recipe bytes 0)

-- an accepted recipe within the program's limits, with its figures
pub record Within (bytes : List ℕ) (x : Extent) : Type 0 where
  pub read : first_of (read_lines bytes) ≡ 0
  pub measured : Measured bytes x
  pub cells : x.cells ≤ 1024
  pub memories : x.cells * x.processors ≤ 4096
