-- Read this.
-- What the calls about a plan answer: its figures, the line of one message, its hops; all 0 beside the number at a refusal.
-- Renders document 01, "Recipes to be met": the columns of its table and the plan printer's lines; W-204's hops; W-209.
use Rattle.std.specs.Prelude.{ℕ, zero, suc, ◌-◌, ◌≡◌, List, [], ◌∷◌, ◌++◌, length, ltb}
use Rattle.base.specs.Tests.{one, not}
use Rattle.base.specs.Numbers.{Line, line, first_of}
use Rattle.machine.specs.Plan.{Plan, count, words, sender_of, taker_of, held_by}
use Rattle.machine.specs.Runs.{total}
use Rattle.nest.specs.declared.Nest.{Nest}
use Rattle.nest.specs.Reader.{read_lines, nest_of}
use Rattle.plan.specs.declared.Route.{Route}
use Rattle.plan.specs.declared.Route.TheVariants.{Direct}
use Rattle.nest.specs.Nest.{processor_count}
use Rattle.nest.specs.Places.{rank}
use Rattle.plan.specs.Messages.{two}
use Rattle.plan.specs.Shaped.{plan_of}
use Rattle.conformance.specs.ExactShape.{stands_at, CarriesShape}
use Rattle.plan.specs.Hops.{hops}
use Rattle.conformance.specs.Examples as rows
use Rattle.conformance.specs.Examples.{accepted, refused, figures_if}
use Rattle.recipe.specs.Routes.{lines_for}
use Rattle.summary.specs.declared.Figures.{Figures}
use Rattle.summary.specs.declared.MessageLine.{MessageLine}
use Rattle.summary.specs.declared.HopCount.{HopCount}

-- the figures of the table of rows, as the call gives them
abbrev pub as_figures : rows.PlanFigures → Figures
as_figures f = record { number = f.number; tiles = f.tiles; messages = f.messages; words = f.words; steps = f.steps }

abbrev pub figures_of : Plan → Figures
figures_of p = as_figures (accepted p.tiles (count p) (words p) (total p))

abbrev pub no_figures : ℕ → Figures
no_figures n = as_figures (refused n)

unfoldable pub summary_of : Route → List ℕ → Figures
summary_of r bytes = as_figures (figures_if (first_of (lines_for r bytes)) (plan_of r (nest_of bytes)))

-- sending and taking tile, sending and taking processor, words
abbrev pub line_of : Plan → ℕ → MessageLine
line_of p m =
    record {
      number = 0;
      sender = sender_of p m;
      taker = taker_of p m;
      from = p.processor_of (sender_of p m);
      to = p.processor_of (taker_of p m);
      words = length (held_by p m);
    }

abbrev pub no_line : ℕ → MessageLine
no_line n = record { number = n; sender = 0; taker = 0; from = 0; to = 0; words = 0 }

-- the reader's lines and the route's, then 11
unfoldable pub message_lines : Route → List ℕ → ℕ → List Line
message_lines r bytes m = lines_for r bytes ++ (line 11 (not (ltb m (count (plan_of r (nest_of bytes))))) ∷ [])

unfoldable pub line_if : ℕ → Plan → ℕ → MessageLine
line_if zero p m = line_of p m
line_if (suc n) p m = no_line (suc n)

unfoldable pub message_line_of : Route → List ℕ → ℕ → MessageLine
message_line_of r bytes m = line_if (first_of (message_lines r bytes m)) (plan_of r (nest_of bytes)) m

-- the direction of a direct message: its taker's place less its sender's, in the spread dimensions
unfoldable pub direction_of : Nest → ℕ → ℕ
direction_of x m =
    rank two (λ j. stands_at x (taker_of (plan_of Direct x) m) j - stands_at x (sender_of (plan_of Direct x) m) j) x.spread

-- so it is the v by which its tile sends it
pub record Directed (x : Nest) : Type 0 where
  pub is : (m t v : ℕ) → CarriesShape x m t v → direction_of x m ≡ v

abbrev pub no_hops : ℕ → HopCount
no_hops n = record { number = n; hops = 0 }

-- its hops on the indirect route
unfoldable pub hops_if : ℕ → Nest → ℕ → HopCount
hops_if zero x m = record { number = 0; hops = hops x (direction_of x m) }
hops_if (suc n) x m = no_hops (suc n)

-- the reader's lines, then 11: no route is given, the message is one of the direct route's
unfoldable pub hops_lines : List ℕ → ℕ → List Line
hops_lines bytes m = read_lines bytes ++ (line 11 (not (ltb m (count (plan_of Direct (nest_of bytes))))) ∷ [])

unfoldable pub hops_of : List ℕ → ℕ → HopCount
hops_of bytes m = hops_if (first_of (hops_lines bytes m)) (nest_of bytes) m

-- the dimensions with a count above 1, as a direction's components
abbrev pub many : Nest → ℕ → ℕ
many x j = one (ltb 1 (processor_count x j))
