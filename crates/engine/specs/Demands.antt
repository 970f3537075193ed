-- Read this.
-- The three demands, for a recipe's bytes and a route, made of the definitions in Calls; each call's contract equates the call with them.
-- Renders the customer's demands 1, 2 and 3, document 01's "Conditions of acceptance", W-204 and W-209; any word may name the route.
use Rattle.std.specs.Prelude.{◌≡◌, ℕ, ◌*◌, ◌<◌, true, false, ◌≢◌, ◌⊎◌, List, length, slice_index, slice_set}
use Rattle.base.specs.Lists.{In, Rising, Bytes}
use Rattle.base.specs.Numbers.{Line, first_of, numbers_of}
use Rattle.machine.specs.Plan.{Plan, Sound, count, held_by, dues_of, words}
use Rattle.machine.specs.Machine as machine
use Rattle.machine.specs.Machine.{State, Answered, state_of, gather, send, carry_out, next_action, collected}
use Rattle.machine.specs.Words.{word_at, mail_at, cell_of, Does, Did, Posted}
use Rattle.machine.specs.Runs.{Event, turn_of, delivery_of, last, answers, Demand3}
use Rattle.machine.specs.StatusTells.{StatusTells}
use Rattle.nest.specs.Nest.{cells}
use Rattle.nest.specs.Shape.{in_shape}
use Rattle.nest.specs.Reader.{nest_of, read_lines}
use Rattle.nest.specs.Bounds.{BoundsMean}
use Rattle.plan.specs.Messages.{box_plan}
use Rattle.plan.specs.Hops.{hops}
use Rattle.conformance.specs.Report.{ReportAgrees}
use Rattle.conformance.specs.Exact.{Exact, sequential, run_nest}
use Rattle.conformance.specs.ExactShape.{ExactShape, shape_of}
use Rattle.conformance.specs.InOrder.{InOrder}
use Rattle.conformance.specs.OneBody.{OneBody}
use Rattle.conformance.specs.Figure4.{Figure4}
use Rattle.layout.specs.RouteWords.{route_of}
use Rattle.recipe.specs.Routes.{lines_for}
use Rattle.summary.specs.Summary.{figures_of, no_figures, summary_of, line_of, no_line, message_lines, message_line_of}
use Rattle.summary.specs.Summary.{direction_of, Directed, hops_lines, no_hops, hops_of}
use Rattle.summary.specs.HopsTold.{HopsTold}
use Rattle.engine.specs.Calls.{answer, recipe, fresh_call_lines, fresh_call, turn_call_lines, turn_call, deliver_call_lines, deliver_call, collect_call_lines}
use Rattle.engine.specs.Calls.{collect_call, sweep_call_lines, sweep_call}

-- a call gives the number of its first true line, one of its own; it does its work, or leaves every lent word as before
pub record Fixed {A : Type 0} (call : Answered A) (lines : List Line) (done before : A) : Type 0 where
  pub first : call.number ≡ first_of lines
  pub own : (call.number ≡ 0) ⊎ In call.number (numbers_of lines)
  pub works : call.number ≡ 0 → call.after ≡ done
  pub refuses : call.number ≢ 0 → call.after ≡ before

-- demand 1: every call, on every recipe, lent area and event. Its weight lies in the contracts of src/lib.rt and of crates/summary:
-- each equates what is answered, and every lent word at exit, with one of these definitions, for every input, and none has a
-- `requires`; that a call ends, and does nothing undefined, the language asks of every function.
pub record Demand1 (bytes : List ℕ) (route : ℕ) (source : List ℕ) (s : State) : Type 0 where
  pub fresh : Fixed (fresh_call bytes route source s) (fresh_call_lines bytes route source s) (machine.fresh (recipe bytes route)) s
  pub turn : (b : ℕ)
      → Fixed (turn_call bytes route source s b) (turn_call_lines bytes route source s b)
      (carry_out (recipe bytes route) source s b (next_action (recipe bytes route) s b)) s
  pub deliver : (m : ℕ)
      → Fixed (deliver_call bytes route source s m) (deliver_call_lines bytes route source s m)
      (state_of s.memories s.buffer s.progress (slice_set s.status m 2)) s
  pub collect : (grid : List ℕ)
      → Fixed (collect_call bytes route source s grid) (collect_call_lines bytes route source s grid) (collected (recipe bytes route) s) grid
  pub sweep : (grid : List ℕ)
      → Fixed (sweep_call bytes source grid) (sweep_call_lines bytes source grid) (machine.sweep (recipe bytes 0) source) grid
  -- these three are lent nothing to write: what they tell beside the number is 0 at a refusal; the hops are a direct message's
  pub summary : Fixed (answer (summary_of (route_of route) bytes).number (summary_of (route_of route) bytes)) (lines_for (route_of route) bytes)
      (figures_of (recipe bytes route)) (no_figures (summary_of (route_of route) bytes).number)
  pub message : (m : ℕ)
      → Fixed (answer (message_line_of (route_of route) bytes m).number (message_line_of (route_of route) bytes m))
      (message_lines (route_of route) bytes m) (line_of (recipe bytes route) m) (no_line (message_line_of (route_of route) bytes m).number)
  pub hops : (m : ℕ)
      → Fixed (answer (hops_of bytes m).number (hops_of bytes m)) (hops_lines bytes m)
      (record { number = 0; hops = hops (nest_of bytes) (direction_of (nest_of bytes) m) }) (no_hops (hops_of bytes m).number)

-- the events of a run, each a call, all given one route
unfoldable pub calls : List ℕ → ℕ → List ℕ → State → Event → Answered State
calls bytes route source s (turn_of b) = turn_call bytes route source s b
calls bytes route source s (delivery_of m) = deliver_call bytes route source s m

-- demand 2: schedule, message cell sets and sequential sweep are the report's, and packing and unpacking move exactly these; with bounds,
-- on the direct route, those of the shape
pub record Demand2 (bytes : List ℕ) (route : ℕ) : Type 0 where
  -- without bounds the plan is the box's, of which the report speaks
  pub box : (nest_of bytes).bounds ≡ 0 → recipe bytes route ≡ box_plan (route_of route) (nest_of bytes)
  pub report : (nest_of bytes).bounds ≡ 0 → ReportAgrees (nest_of bytes)
  -- which cells a message holds, which messages there are, index order, the report's loops and its sequential nest
  pub exact : (nest_of bytes).bounds ≡ 0 → Exact (nest_of bytes)
  -- with bounds or without, on the direct route: the shape's tiles, cell sets, messages, takers and sweep
  pub shape : ExactShape (nest_of bytes)
  -- with bounds or without: index order of cells, tiles, processors and directions, and the processor of a tile
  pub index_order : InOrder (nest_of bytes)
  -- which cells the bounds leave, in signed numbers by the bytes of their records
  pub bounds_mean : BoundsMean bytes
  -- the box, the shape and the report have one formula of a cell, and one of a message's cells
  pub one_body : OneBody (nest_of bytes)
  -- the programs of our processors are Figure 4's, tile by tile: receive, body, send
  pub figure4 : Figure4 (route_of route) (nest_of bytes)
  -- what a tile reads of its own processor's other tiles, and what it passes on, its processor has by then: calculated earlier, or taken
  -- with a message at that tile or before
  pub sound : Sound (recipe bytes route)
  -- the direction by which the hops call counts is that of the message, and each message has one hop at least
  pub directed : Directed (nest_of bytes)
  pub hops_told : HopsTold bytes
  -- a message's cells stand in index order, each once, and there is one
  pub in_order : (m : ℕ) → m < count (recipe bytes route) → Rising (held_by (recipe bytes route) m)
  pub not_empty : (m : ℕ) → m < count (recipe bytes route) → 0 < length (held_by (recipe bytes route) m)
  -- each turn that gave 0 did the rule of its action, word by word: it packed, unpacked or stored exactly what is named
  pub turned : (source : List ℕ) (s : State) (b : ℕ) → (turn_call bytes route source s b).number ≡ 0
      → Does (recipe bytes route) source s (turn_call bytes route source s b).after b (next_action (recipe bytes route) s b)
  -- a gather writes every word of every message due to its cell
  pub unpacked : (source : List ℕ) (s : State) (b t : ℕ) → (turn_call bytes route source s b).number ≡ 0
      → next_action (recipe bytes route) s b ≡ gather t
      → (m q : ℕ) → In m (dues_of (recipe bytes route) t) → q < length (held_by (recipe bytes route) m)
      → word_at (recipe bytes route) (turn_call bytes route source s b).after b (cell_of (recipe bytes route) m q)
      ≡ mail_at (recipe bytes route) s m q
  -- in a run, a message's words stay from its send on, and are what its taker gathers
  pub posted : (source : List ℕ) (s : State) → (fresh_call bytes route source s).number ≡ 0 → (before : List Event) (b m : ℕ)
      → Did (calls bytes route source) (fresh_call bytes route source s).after (recipe bytes route) before b (send m)
      → Posted (calls bytes route source) (fresh_call bytes route source s).after (recipe bytes route) before b m
  -- the sweep call leaves what the sequential nest leaves, from an array of any content; with bounds, at the shape's indices, from an array
  -- that is the boundary outside
  pub nest : (nest_of bytes).bounds ≡ 0
      → (source grid array : List ℕ) → (sweep_call bytes source grid).number ≡ 0 → length array ≡ cells (nest_of bytes)
      → (sweep_call bytes source grid).after ≡ run_nest (nest_of bytes) source array (sequential (nest_of bytes))
  pub nest_shape : (source grid array : List ℕ) → (sweep_call bytes source grid).number ≡ 0 → length array ≡ cells (nest_of bytes)
      → ((c : ℕ) → c < cells (nest_of bytes) → in_shape (nest_of bytes) c ≡ false → slice_index array c ≡ (nest_of bytes).boundary)
      → (sweep_call bytes source grid).after ≡ run_nest (nest_of bytes) source array (shape_of (nest_of bytes) (sequential (nest_of bytes)))
  -- each word of it is the value of what the sweep has, or the boundary outside
  pub swept : (source : List ℕ) (c : ℕ) → c < (recipe bytes 0).cells → (recipe bytes 0).inside c ≡ true
      → slice_index (machine.sweep (recipe bytes 0) source) c ≡ (recipe bytes 0).value source (machine.sweep (recipe bytes 0) source) c
  pub unswept : (source : List ℕ) (c : ℕ) → c < (recipe bytes 0).cells → (recipe bytes 0).inside c ≡ false
      → slice_index (machine.sweep (recipe bytes 0) source) c ≡ (recipe bytes 0).boundary
  -- and the sweep of the route, where the recipe is open to it, is the same
  pub same_sweep : first_of (lines_for (route_of route) bytes) ≡ 0 → (source : List ℕ)
      → machine.sweep (recipe bytes route) source ≡ machine.sweep (recipe bytes 0) source

-- each lent area has its length by the plan's figures, three words a record
pub record LentWords (p : Plan) (source : List ℕ) (s : State) : Type 0 where
  pub source_long : length source ≡ p.cells
  pub memories : length s.memories ≡ p.processors * p.cells
  pub buffer : length s.buffer ≡ words p
  pub progress : length s.progress ≡ 3 * p.processors
  pub status : length s.status ≡ count p

pub record Demands : Type 0 where
  pub one : (bytes : List ℕ) (route : ℕ) (source : List ℕ) (s : State) → Demand1 bytes route source s
  pub two : (bytes : List ℕ) (route : ℕ) → Bytes bytes → first_of (read_lines bytes) ≡ 0 → Demand2 bytes route
  -- a run can begin: an accepted recipe on a route that is open to it, lent areas of their lengths, is given 0 by the fresh start, which the two
  -- fields behind ask for
  pub begins : (bytes : List ℕ) (route : ℕ) (source : List ℕ) (s : State) → first_of (lines_for (route_of route) bytes) ≡ 0
      → LentWords (recipe bytes route) source s → (fresh_call bytes route source s).number ≡ 0
  -- demand 3: one recipe, one route, one source, one fresh start that gave 0, and every list of turns and deliveries; collecting too is
  -- given that route
  pub three : (bytes : List ℕ) (route : ℕ) (source : List ℕ) (s : State) → Bytes bytes → (fresh_call bytes route source s).number ≡ 0
      → (events : List Event)
      → Demand3 (calls bytes route source) (fresh_call bytes route source s).after events (recipe bytes route) source
      (collect_call bytes route source)
  -- in such a run the marks tell what was done of each message: whether it was sent, delivered and taken
  pub marks : (bytes : List ℕ) (route : ℕ) (source : List ℕ) (s : State) → Bytes bytes → (fresh_call bytes route source s).number ≡ 0
      → (events : List Event)
      → StatusTells (recipe bytes route) (last (calls bytes route source) (fresh_call bytes route source s).after events) events
      (answers (calls bytes route source) (fresh_call bytes route source s).after events)
