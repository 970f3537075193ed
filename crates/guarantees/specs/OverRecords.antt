-- Read this.
-- The demands for the calls as exported, board records as structs, by the relations that are their contracts (`Gave`); a run is a list of such
-- calls on one route. Document 01, "The machine", "Numbers a call gives", "Runs"; W-204.
use Rattle.std.specs.Prelude.{ℕ, ◌<◌, ◌≡◌, ◌≢◌, ◌↔◌, false, List, [], ◌∷◌, ◌++◌, length, get_or, set}
use Rattle.base.specs.Lists.{In, Bytes}
use Rattle.base.specs.Numbers.{Line, first_of}
use Rattle.machine.specs.Plan.{taker_of, held_by, dues_of}
use Rattle.machine.specs.Machine as machine
use Rattle.machine.specs.Machine.{State, Action, gather, send, state_of, carry_out, next_action, collected}
use Rattle.machine.specs.Runs.{Event, turn_of, delivery_of, last, answers, total, program, turns_of, steps_in, Demand3}
use Rattle.machine.specs.Words.{word_at, mail_at, cell_of, Does}
use Rattle.nest.specs.Nest.{cells}
use Rattle.nest.specs.Shape.{in_shape}
use Rattle.nest.specs.Reader.{nest_of, read_lines}
use Rattle.plan.specs.Hops.{hops}
use Rattle.conformance.specs.Exact.{sequential, run_nest}
use Rattle.conformance.specs.ExactShape.{shape_of}
use Rattle.layout.specs.RouteWords.{route_of}
use Rattle.recipe.specs.Routes.{lines_for}
use Rattle.summary.specs.declared.Figures.{Figures}
use Rattle.summary.specs.declared.MessageLine.{MessageLine}
use Rattle.summary.specs.declared.HopCount.{HopCount}
use Rattle.summary.specs.Summary.{figures_of, no_figures, line_of, no_line, message_lines, direction_of, no_hops, hops_lines}
use Rattle.records.specs.Records.{flat_words}
use Rattle.engine.specs.Calls.{answer, recipe, fresh_call_lines, turn_call_lines, deliver_call_lines, collect_call_lines, collect_call, sweep_call_lines}
use Rattle.engine.specs.Demands.{Fixed, calls, Demand2}
use Rattle.calls.specs.Tells.{Tells}
use Rattle.calls.specs.Gave.{Areas, in_words, FreshGave, EventGave, CollectGave, SweepGave, SummaryGave, MessageGave, HopsGave}

-- calls in a row, `Step a e n b` saying that the call e, lent a, gave n and left b: areas before, calls, their numbers, areas after
pub data Gave {A E : Type 0} (Step : A → E → ℕ → A → Type 0) : A → List E → List ℕ → A → Type 0 where
  none : {a : A} → Gave Step a [] [] a
  next : {a b c : A} {e : E} {es : List E} {n : ℕ} {ns : List ℕ} → Step a e n b → Gave Step b es ns c → Gave Step a (e ∷ es) (n ∷ ns) c

-- events, each given this route and lent the areas as the last left them
abbrev pub EventsGave : List ℕ → ℕ → List ℕ → Areas → List Event → List ℕ → Areas → Type 0
EventsGave bytes route source = Gave (EventGave bytes route source)

-- the action that processor p's program names after these events and their numbers
abbrev pub named_next : List ℕ → ℕ → ℕ → List Event → List ℕ → Action
named_next bytes route p events numbers = get_or (program (recipe bytes route) p) (turns_of p events numbers) (gather 0)

-- ---- demand 1

-- a refusal leaves the very records
pub record FixedAreas (lines : List Line) (done : State) (a : Areas) (n : ℕ) (b : Areas) : Type 0 where
  pub fixed : Fixed (answer n (in_words b)) lines done (in_words a)
  pub as_before : n ≢ 0 → b ≡ a

pub record FixedCalls (bytes : List ℕ) (route : ℕ) (source : List ℕ) : Type 0 where
  pub fresh : (a b : Areas) (n : ℕ) → FreshGave bytes route source a n b
      → FixedAreas (fresh_call_lines bytes route source (in_words a)) (machine.fresh (recipe bytes route)) a n b
  pub turn : (a b : Areas) (p n : ℕ) → EventGave bytes route source a (turn_of p) n b
      → FixedAreas (turn_call_lines bytes route source (in_words a) p)
      (carry_out (recipe bytes route) source (in_words a) p (next_action (recipe bytes route) (in_words a) p)) a n b
  pub deliver : (a b : Areas) (m n : ℕ) → EventGave bytes route source a (delivery_of m) n b
      → FixedAreas (deliver_call_lines bytes route source (in_words a) m)
      (state_of a.memories a.buffer (flat_words a.progress) (set a.status m 2)) a n b
  pub collect : (a : Areas) (old grid : List ℕ) (n : ℕ) → CollectGave bytes route source a old n grid
      → Fixed (answer n grid) (collect_call_lines bytes route source (in_words a) old) (collected (recipe bytes route) (in_words a)) old
  pub sweep : (old grid : List ℕ) (n : ℕ) → SweepGave bytes source old n grid
      → Fixed (answer n grid) (sweep_call_lines bytes source old) (machine.sweep (recipe bytes 0) source) old
  -- what is told by value: nothing beside the number at a refusal
  pub summary : (told : Figures) → SummaryGave bytes route told
      → Tells (λ f. f.number) (lines_for (route_of route) bytes) (figures_of (recipe bytes route)) no_figures told
  pub message : (m : ℕ) (told : MessageLine) → MessageGave bytes route m told
      → Tells (λ f. f.number) (message_lines (route_of route) bytes m) (line_of (recipe bytes route) m) no_line told
  pub hops : (m : ℕ) (told : HopCount) → HopsGave bytes m told
      → Tells (λ f. f.number) (hops_lines bytes m) (record { number = 0; hops = hops (nest_of bytes) (direction_of (nest_of bytes) m) }) no_hops told
  -- the contracts can be kept, and in one way only
  pub can_fresh : (a : Areas) → (n : ℕ) × ((b : Areas) × FreshGave bytes route source a n b)
  pub can_event : (a : Areas) (e : Event) → (n : ℕ) × ((b : Areas) × EventGave bytes route source a e n b)
  pub one_fresh : (a b c : Areas) (n k : ℕ) → FreshGave bytes route source a n b → FreshGave bytes route source a k c → (n ≡ k) × (b ≡ c)
  pub one_event : (a b c : Areas) (e : Event) (n k : ℕ)
      → EventGave bytes route source a e n b → EventGave bytes route source a e k c → (n ≡ k) × (b ≡ c)

-- ---- demand 2, where calls are made: what is true of the plan alone is engine's

pub record ExactCalls (bytes : List ℕ) (route : ℕ) (source : List ℕ) : Type 0 where
  pub plan : Demand2 bytes route
  -- a turn that gave 0 did the rule of its action, word by word; a gather wrote every word of every message due to its cell
  pub turned : (a b : Areas) (p : ℕ) → EventGave bytes route source a (turn_of p) 0 b
      → Does (recipe bytes route) source (in_words a) (in_words b) p (next_action (recipe bytes route) (in_words a) p)
  pub unpacked : (a b : Areas) (p t : ℕ) → EventGave bytes route source a (turn_of p) 0 b
      → next_action (recipe bytes route) (in_words a) p ≡ gather t
      → (m q : ℕ) → In m (dues_of (recipe bytes route) t) → q < length (held_by (recipe bytes route) m)
      → word_at (recipe bytes route) (in_words b) p (cell_of (recipe bytes route) m q) ≡ mail_at (recipe bytes route) (in_words a) m q
  -- in a run a turn of p, lent b, sent m: whatever was called then, the message's words are what its cells had in p's memory,
  pub stays : (a start b c d : Areas) (before then : List Event) (ns ks : List ℕ) (p m q : ℕ)
      → FreshGave bytes route source a 0 start → EventsGave bytes route source start before ns b
      → EventGave bytes route source b (turn_of p) 0 c → named_next bytes route p before ns ≡ send m
      → EventsGave bytes route source c then ks d → q < length (held_by (recipe bytes route) m)
      → mail_at (recipe bytes route) (in_words d) m q ≡ word_at (recipe bytes route) (in_words b) p (cell_of (recipe bytes route) m q)
  -- and the taking tile's gather, by processor r, writes these
  pub arrives : (a start b c d e : Areas) (before then : List Event) (ns ks : List ℕ) (p r m q : ℕ)
      → FreshGave bytes route source a 0 start → EventsGave bytes route source start before ns b
      → EventGave bytes route source b (turn_of p) 0 c → named_next bytes route p before ns ≡ send m
      → EventsGave bytes route source c then ks d → q < length (held_by (recipe bytes route) m)
      → EventGave bytes route source d (turn_of r) 0 e
      → named_next bytes route r (before ++ (turn_of p ∷ then)) (ns ++ (0 ∷ ks)) ≡ gather (taker_of (recipe bytes route) m)
      → word_at (recipe bytes route) (in_words e) r (cell_of (recipe bytes route) m q)
      ≡ word_at (recipe bytes route) (in_words b) p (cell_of (recipe bytes route) m q)
  -- the sweep call leaves what the sequential nest leaves, from an array of any content; with bounds, at the shape's indices, from an array
  -- that is the boundary outside
  pub nest : (nest_of bytes).bounds ≡ 0
      → (old grid array : List ℕ) → SweepGave bytes source old 0 grid → length array ≡ cells (nest_of bytes)
      → grid ≡ run_nest (nest_of bytes) source array (sequential (nest_of bytes))
  pub nest_shape : (old grid array : List ℕ) → SweepGave bytes source old 0 grid → length array ≡ cells (nest_of bytes)
      → ((c : ℕ) → c < cells (nest_of bytes) → in_shape (nest_of bytes) c ≡ false → get_or array c 0 ≡ (nest_of bytes).boundary)
      → grid ≡ run_nest (nest_of bytes) source array (shape_of (nest_of bytes) (sequential (nest_of bytes)))

-- ---- demand 3: events from the areas `start` that a fresh start left, with their numbers; `b` are the areas after them

pub record FixedRun (bytes : List ℕ) (route : ℕ) (source : List ℕ) (start : Areas) (events : List Event) (numbers : List ℕ) (b : Areas)
    : Type 0 where
  -- number by number and word by word the run over words, which has what demand 3 asks
  pub numbers_are : numbers ≡ answers (calls bytes route source) (in_words start) events
  pub words_are : in_words b ≡ last (calls bytes route source) (in_words start) events
  pub demand : Demand3 (calls bytes route source) (in_words start) events (recipe bytes route) source (collect_call bytes route source)
  -- what it says of a further call: some event gives 0 exactly when the steps are fewer
  pub goes_on : steps_in numbers < total (recipe bytes route)
      → (e : Event) × ((n : ℕ) (c : Areas) → EventGave bytes route source b e n c → n ≡ 0)
  pub then_fewer : (e : Event) (c : Areas) → EventGave bytes route source b e 0 c → steps_in numbers < total (recipe bytes route)
  -- collecting into a grid of the right length gives 0 exactly when they are that many, and then the sweep
  pub collects : (old grid : List ℕ) (n : ℕ) → length old ≡ (recipe bytes route).cells → CollectGave bytes route source b old n grid
      → (n ≡ 0) ↔ (steps_in numbers ≡ total (recipe bytes route))
  pub grid : (old grid : List ℕ) → CollectGave bytes route source b old 0 grid → grid ≡ machine.sweep (recipe bytes route) source

pub record OverRecords (bytes : List ℕ) (route : ℕ) (source : List ℕ) : Type 0 where
  pub one : FixedCalls bytes route source
  pub two : Bytes bytes → first_of (read_lines bytes) ≡ 0 → ExactCalls bytes route source
  pub three : Bytes bytes → (a start b : Areas) (events : List Event) (numbers : List ℕ)
      → FreshGave bytes route source a 0 start → EventsGave bytes route source start events numbers b
      → FixedRun bytes route source start events numbers b
