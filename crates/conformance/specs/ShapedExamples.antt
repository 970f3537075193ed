-- Read this.
-- Small recipes with bounds, computed: what W-209 changes in tiles, messages and sweep.
-- Renders document 02, W-209, on examples; the figures and messages are those of a model made of the request's words alone.
use Rattle.std.specs.Prelude.{ℕ, ◌≡◌, List, [], ◌∷◌, ◌++◌, replicate}
use Rattle.base.specs.Numbers.{first_of}
use Rattle.machine.specs.Plan.{Message, dues_of}
use Rattle.machine.specs.Machine.{fresh, collect, sweep}
use Rattle.machine.specs.Runs.{Event, turn_of, delivery_of, act, last, answers}
use Rattle.nest.specs.Reader.{nest_of, read_lines}
use Rattle.nest.specs.Recipes.{dimension, bound, distance, close}
use Rattle.nest.specs.Shape.{existing}
use Rattle.plan.specs.declared.Route.TheVariants.{Direct}
use Rattle.plan.specs.Shaped.{tile_of, plan_of}
use Rattle.conformance.specs.Examples.{PlanFigures, accepted, figures_if, readers_of}

-- the figures on the direct route, and a message
abbrev pub shaped_figures : List ℕ → PlanFigures
shaped_figures bytes = figures_if (first_of (read_lines bytes)) (plan_of Direct (nest_of bytes))

abbrev pub mail : ℕ → ℕ → List ℕ → Message
mail s t cs = record { sender = s; taker = t; cells = cs }

-- i2 at least i1
abbrev pub diagonal : List ℕ
diagonal = bound 0 1 0 1 0 0

-- N 2,2 k 1,1 P 2,0, distance (1,1), boundary 7; the same with P 1,0
abbrev pub row_triangle : List ℕ
row_triangle = dimension 2 1 2 ++ dimension 2 1 0 ++ diagonal ++ distance 1 1 0 ++ (3 ∷ 0 ∷ 0 ∷ 0 ∷ 7 ∷ replicate 11 0)

abbrev pub row_alone : List ℕ
row_alone = dimension 2 1 1 ++ dimension 2 1 0 ++ diagonal ++ distance 1 1 0 ++ close

-- N 4,4 k 2,2 P 2,0, distance (1,0), i2 at least i1 + 3: one cell
abbrev pub row_single : List ℕ
row_single = dimension 4 2 2 ++ dimension 4 2 0 ++ bound 0 1 0 1 3 0 ++ distance 1 0 0 ++ close

-- row B with i2 at least -i1 - 9, which cuts nothing
abbrev pub row_whole : List ℕ
row_whole = dimension 8 4 2 ++ dimension 8 4 0 ++ bound 0 1 0 255 247 255 ++ distance 2 1 0 ++ close

-- N 2,2,3 k 1,1,1 P 2,0,0, distance (1,1,0)
abbrev pub row_column : List ℕ
row_column = dimension 2 1 2 ++ dimension 2 1 0 ++ dimension 3 1 0 ++ diagonal ++ distance 1 1 0 ++ close

-- N 4,4 k 2,2 P 2,0, distance (1,2)
abbrev pub row_outside : List ℕ
row_outside = dimension 4 2 2 ++ dimension 4 2 0 ++ diagonal ++ distance 1 2 0 ++ close

-- row A
abbrev pub row_slope : List ℕ
row_slope = dimension 8 2 2 ++ dimension 8 2 0 ++ diagonal ++ distance 1 0 0 ++ distance 0 1 0 ++ distance 1 1 0 ++ close

abbrev pub ones : List ℕ
ones = 1 ∷ 1 ∷ 1 ∷ 1 ∷ []

abbrev pub turns : List Event
turns = turn_of 0 ∷ turn_of 0 ∷ turn_of 1 ∷ turn_of 0 ∷ turn_of 0 ∷ turn_of 0 ∷ delivery_of 0 ∷ turn_of 1 ∷ turn_of 1 ∷ turn_of 1 ∷ []

pub record ShapedExamples : Type 0 where
  -- cell (1,0) is outside: three tiles, of which the last is the box's 3; tile 0 plus v is empty, so tile 2 takes its message
  pub triangle : shaped_figures row_triangle ≡ accepted 3 1 1 8
  pub triangle_tiles : existing (nest_of row_triangle) ≡ 0 ∷ 1 ∷ 3 ∷ []
  pub triangle_messages : (plan_of Direct (nest_of row_triangle)).messages ≡ mail 0 2 (0 ∷ []) ∷ []
  -- 1 + 7 twice, by the boundary; outside 7; the last reads cell 0: 1 + 8
  pub triangle_sweep : sweep (plan_of Direct (nest_of row_triangle)) ones ≡ 8 ∷ 8 ∷ 7 ∷ 9 ∷ []
  -- a run: processor 1 waits for the message, and has one tile; its eight steps are all, and the grid collected is the sweep
  pub triangle_run : answers (act (plan_of Direct (nest_of row_triangle)) ones) (fresh (plan_of Direct (nest_of row_triangle))) turns
      ≡ 0 ∷ 0 ∷ 12 ∷ 0 ∷ 0 ∷ 0 ∷ 0 ∷ 0 ∷ 0 ∷ 13 ∷ []
  pub triangle_grid : (collect (plan_of Direct (nest_of row_triangle))
      (last (act (plan_of Direct (nest_of row_triangle)) ones) (fresh (plan_of Direct (nest_of row_triangle))) turns) (0 ∷ 0 ∷ 0 ∷ 0 ∷ [])).after
      ≡ 8 ∷ 8 ∷ 7 ∷ 9 ∷ []
  -- on one processor no message
  pub alone : shaped_figures row_alone ≡ accepted 3 0 0 6
  -- one tile, and no message from it or to it
  pub single : shaped_figures row_single ≡ accepted 1 0 0 2
  pub single_tile : existing (nest_of row_single) ≡ 1 ∷ []
  -- row B's figures
  pub whole : shaped_figures row_whole ≡ accepted 4 2 14 12
  -- more messages due at one tile than there are directions: tile 6 takes all three, though what is in the last only tile 8 reads
  pub column : (plan_of Direct (nest_of row_column)).messages ≡ mail 0 6 (0 ∷ []) ∷ mail 1 6 (1 ∷ []) ∷ mail 2 6 (2 ∷ []) ∷ []
  pub column_dues : dues_of (plan_of Direct (nest_of row_column)) 6 ≡ 0 ∷ 1 ∷ 2 ∷ []
  pub column_reader : readers_of (nest_of row_column) 2 ≡ 11 ∷ []
  pub column_tile : tile_of (nest_of row_column) 11 ≡ 8
  -- cell 4, (1,0), is outside, though cell 10 that would read it is not: cell 5 alone is mailed
  pub outside : (plan_of Direct (nest_of row_outside)).messages ≡ mail 0 2 (5 ∷ []) ∷ []
  -- row A's messages, each cut to the shape
  pub slope : (plan_of Direct (nest_of row_slope)).messages
      ≡ mail 0 4 (9 ∷ []) ∷ mail 1 4 (10 ∷ 11 ∷ []) ∷ mail 2 5 (12 ∷ 13 ∷ []) ∷ mail 3 6 (14 ∷ 15 ∷ []) ∷ mail 4 7 (27 ∷ [])
      ∷ mail 5 7 (28 ∷ 29 ∷ []) ∷ mail 6 8 (30 ∷ 31 ∷ []) ∷ mail 7 9 (45 ∷ []) ∷ mail 8 9 (46 ∷ 47 ∷ []) ∷ []
