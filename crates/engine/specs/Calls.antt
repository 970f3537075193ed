-- Read this.
-- The offered calls, each from the recipe's bytes, the word that names its route and the lent areas: its number, and what is written.
-- Renders document 01, "The machine" and "Numbers a call gives", W-204 and W-209: all lines in table order, the first true one counts.
use Rattle.std.specs.Prelude.{ℕ, ◌*◌, Bool, List, [], ◌∷◌, ◌++◌, length, ◌==◌, nat_eq, slice_set}
use Rattle.base.specs.Tests.{◌and◌, not}
use Rattle.base.specs.Numbers.{Line, line, first_of}
use Rattle.machine.specs.Plan.{Plan, count, words}
use Rattle.machine.specs.Machine as machine
use Rattle.machine.specs.Machine.{State, Answered, answered, state_of, carry_out, next_action, turn_lines, deliver_lines, collect_lines, collected}
use Rattle.nest.specs.Reader.{read_lines, nest_of}
use Rattle.plan.specs.Shaped.{plan_of}
use Rattle.layout.specs.RouteWords.{route_of}
use Rattle.recipe.specs.Routes.{lines_for}

-- what a call answers: its number and the lent words after it
abbrev pub answer : {A : Type 0} → ℕ → A → Answered A
answer n after = record { number = n; after = after }

-- the plan of a recipe on the route that the word names
abbrev pub recipe : List ℕ → ℕ → Plan
recipe bytes route = plan_of (route_of route) (nest_of bytes)

-- each lent area has exactly its length
unfoldable pub areas : Plan → List ℕ → State → Bool
areas p source s =
    (length source == p.cells)
    and (length s.memories == p.processors * p.cells
    and (nat_eq (length s.buffer) (words p) and (nat_eq (length s.progress) (3 * p.processors) and nat_eq (length s.status) (count p))))

-- the reader's lines and the route's (21) come first, then line 9, the areas'; the lines behind them are the machine's
abbrev pub area_lines : Plan → List ℕ → State → List Line
area_lines p source s = line 9 (not (areas p source s)) ∷ []

-- ---- each call: its lines, and what it does where none holds

abbrev pub fresh_call_lines : List ℕ → ℕ → List ℕ → State → List Line
fresh_call_lines bytes route source s = lines_for (route_of route) bytes ++ area_lines (recipe bytes route) source s

-- document 01: a fresh start
unfoldable pub fresh_call : List ℕ → ℕ → List ℕ → State → Answered State
fresh_call bytes route source s = answered (first_of (fresh_call_lines bytes route source s)) (machine.fresh (recipe bytes route)) s

abbrev pub turn_call_lines : List ℕ → ℕ → List ℕ → State → ℕ → List Line
turn_call_lines bytes route source s b =
    lines_for (route_of route) bytes ++ (area_lines (recipe bytes route) source s ++ turn_lines (recipe bytes route) s b)

unfoldable pub turn_call : List ℕ → ℕ → List ℕ → State → ℕ → Answered State
turn_call bytes route source s b =
    answered (first_of (turn_call_lines bytes route source s b))
    (carry_out (recipe bytes route) source s b (next_action (recipe bytes route) s b)) s

abbrev pub deliver_call_lines : List ℕ → ℕ → List ℕ → State → ℕ → List Line
deliver_call_lines bytes route source s m =
    lines_for (route_of route) bytes ++ (area_lines (recipe bytes route) source s ++ deliver_lines (recipe bytes route) s m)

unfoldable pub deliver_call : List ℕ → ℕ → List ℕ → State → ℕ → Answered State
deliver_call bytes route source s m =
    answered (first_of (deliver_call_lines bytes route source s m))
    (state_of s.memories s.buffer s.progress (slice_set s.status m 2)) s

-- collecting is lent the grid too, one word a cell
abbrev pub collect_call_lines : List ℕ → ℕ → List ℕ → State → List ℕ → List Line
collect_call_lines bytes route source s grid =
    lines_for (route_of route) bytes
    ++ (line 9 (not (areas (recipe bytes route) source s and nat_eq (length grid) (recipe bytes route).cells))
    ∷ collect_lines (recipe bytes route) s)

unfoldable pub collect_call : List ℕ → ℕ → List ℕ → State → List ℕ → Answered (List ℕ)
collect_call bytes route source s grid =
    answered (first_of (collect_call_lines bytes route source s grid)) (collected (recipe bytes route) s) grid

-- the sequential sweep is lent the source and the grid alone; it is given no route: the sweep is the nest's, on every route that the recipe is open to
abbrev pub sweep_call_lines : List ℕ → List ℕ → List ℕ → List Line
sweep_call_lines bytes source grid =
    read_lines bytes ++ (line 9 (not (nat_eq (length source) (recipe bytes 0).cells and nat_eq (length grid) (recipe bytes 0).cells)) ∷ [])

unfoldable pub sweep_call : List ℕ → List ℕ → List ℕ → Answered (List ℕ)
sweep_call bytes source grid = answered (first_of (sweep_call_lines bytes source grid)) (machine.sweep (recipe bytes 0) source) grid
