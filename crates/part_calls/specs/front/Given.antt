-- For contracts below the calls: no reader needs it.
-- What the calls for one processor share: the layout of an accepted recipe, the processor's cells and messages found once, lines 9 and 10.
-- No sentence of document 01.
use Rattle.std.specs.Prelude.{◌≡◌, ℕ, ◌<◌, ◌≤◌, Bool, List, [], ◌∷◌, length, slice_index, Result, IfOk}
use Rattle.base.specs.Tests.{not, one, tabulate}
use Rattle.base.specs.declared.refusal.Refusal.{Refusal}
use Rattle.base.specs.Numbers.{Line, line, first_of}
use Rattle.base.specs.Refusals.{number_of}
use Rattle.machine.specs.Plan.{Plan, count}
use Rattle.machine.specs.Machine.{State, fit}
use Rattle.nest.specs.declared.Nest.{Nest}
use Rattle.nest.specs.Nest.{cells, processors}
use Rattle.layout.specs.declared.Layout.{Layout}
use Rattle.layout.specs.Sizes.{Routed}
use Rattle.layout.specs.Laid.{plan_of_layout}
use Rattle.tables.specs.declared.Table.{Table}
use Rattle.tables.specs.Given.{plan_of_table}
use Rattle.engine.specs.Calls.{recipe}
use Rattle.network.specs.Own.{kept_cells, handled}
use Rattle.rank_index.specs.Ranks.{Counted}
use Rattle.part.specs.Part.{words_of, rank_of, mail_at, part_fits}
use Rattle.part_calls.specs.front.Calls.{from_part, board_lines}

-- the recipe's layout on a route that is open to it, and the processor is one of its
pub record BoardOf (bytes : List ℕ) (route b : ℕ) (l : Layout) : Type 0 where
  pub routed : Routed l.nest l.sizes
  pub plan : plan_of_layout l ≡ recipe bytes route
  pub low : b < processors l.nest

-- the first lines of a call; where none is true, that layout
pub record OpensFor (bytes : List ℕ) (route b : ℕ) (answer : Result Layout Refusal) : Type 0 where
  pub number : number_of answer ≡ first_of (board_lines bytes route b)
  pub board : IfOk answer (BoardOf bytes route b)

-- for each message, and behind the last, how many processor b handles before it and their words
pub record Known (t : Table) (b : ℕ) (rank place : List ℕ) : Type 0 where
  pub low : b < processors t.layout.nest
  pub few : count (plan_of_table t) ≤ 7168
  pub ordinals : (m : ℕ) → m ≤ count (plan_of_table t) → slice_index rank m ≡ rank_of (plan_of_table t) b m
  pub starts : (m : ℕ) → m ≤ count (plan_of_table t) → slice_index place m ≡ mail_at (plan_of_table t) b m

-- the cells that pass a test, marked, and the counts by which their ranks are found
pub record Cells (x : Nest) (f : ℕ → Bool) (marks counts : List ℕ) : Type 0 where
  pub are : marks ≡ tabulate (λ c. one (f c)) (cells x)
  pub counted : Counted marks counts

-- how many messages there are, and how many cells processor b keeps words of
pub record Many (t : Table) (b m k : ℕ) : Type 0 where
  pub messages : m ≡ count (plan_of_table t)
  pub kept : k ≡ length (kept_cells (plan_of_table t) b)

-- each lent area of processor b has exactly its length
pub record PartLengths (p : Plan) (b : ℕ) (s : State) : Type 0 where
  pub memory : length s.memories ≡ length (kept_cells p b)
  pub mail : length s.buffer ≡ words_of p (handled p b)
  pub progress : length s.progress ≡ 3
  pub marks : length s.status ≡ length (handled p b)

-- lines 9 and 10 of a lent part
abbrev pub unfit_lines : Plan → ℕ → State → List Line
unfit_lines p b s = line 9 (not (part_fits p b s)) ∷ line 10 (not (fit p (from_part p b s))) ∷ []
