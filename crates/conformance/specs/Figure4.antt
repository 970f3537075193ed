-- Read this. Figure 4 of the report beside the programs of our processors, tile by tile: receive, body, send.
-- Renders document 002, Figure 4, with the code that its sections 3 and 4 have for the two places that the figure leaves open. Document 01 decides
-- over it: a direction is not 0, an empty set is no message; and W-205: what stays on a processor is none. With bounds (W-209) the nest is the shape.
use Rattle.std.specs.Prelude.{ℕ, ◌*◌, ◌-◌, ◌<◌, ◌≡◌, Bool, true, List, [], ◌∷◌, map, length, ltb, eqb}
use Rattle.base.specs.Tests.{◌and◌, not, pick, tabulate}
use Rattle.base.specs.Lists.{put, store_all}
use Rattle.machine.specs.Plan.{Message, Plan, message, tiles_of, sends_of, dues_of}
use Rattle.machine.specs.Machine.{State, Action, gather, calculate, send, memory_of, carry_out}
use Rattle.machine.specs.Runs.{program}
use Rattle.nest.specs.declared.Nest.{Nest}
use Rattle.nest.specs.Nest.{processor_count, cells, processors, box_tiles}
use Rattle.nest.specs.Places.{place, cell_at, tile_at, tile_place}
use Rattle.nest.specs.Shape.{in_shape, exists}
use Rattle.nest.specs.Reader.{nest_of}
use Rattle.nest.specs.Recipes.{row_g}
use Rattle.plan.specs.declared.Route.{Route}
use Rattle.plan.specs.declared.Route.TheVariants.{Direct, Indirect}
use Rattle.plan.specs.Messages.{directions, passed, neighbour, box_plan}
use Rattle.plan.specs.Shaped.{box_tile, shaped_parcel, shaped_taker, plan_of}
use Rattle.plan.specs.Loops.{do_loop, for_each, loops}
use Rattle.conformance.specs.Exact.{inner, run_nest}
use Rattle.conformance.specs.ExactShape.{shape_of}
use Rattle.conformance.specs.OneBody.{all, value_in}
use Rattle.conformance.specs.Examples.{row_edge}
use Rattle.conformance.specs.ShapedExamples.{mail}

-- of a list those that pass the test, in its order
unfoldable pub chosen : {A : Type 0} → (A → Bool) → List A → List A
chosen f [] = []
chosen f (y ∷ ys) = pick (f y) (y ∷ chosen f ys) (chosen f ys)

-- ---- the outer loops

-- the tile indices that they meet on processor b
abbrev pub chains : Nest → ℕ → List (ℕ → ℕ)
chains x b = loops x (place (processor_count x) x.spread b) x.dimensions

-- on the direct route the tiles are those of the box that hold a cell of the shape; the tile of the box that tile t is
abbrev pub is_tile : Route → Nest → ℕ → Bool
is_tile Direct x u = exists x u
is_tile Indirect x u = true

abbrev pub in_box : Route → Nest → ℕ → ℕ
in_box Direct x t = box_tile x t
in_box Indirect x t = t

-- ---- the inner loops: the indices that they meet in tile t, of which a shape has some; which cells are inside
abbrev pub indices : Route → Nest → ℕ → List (ℕ → ℕ)
indices Direct x t = shape_of x (inner x (tile_place x (box_tile x t)))
indices Indirect x t = inner x (tile_place x t)

abbrev pub within : Route → Nest → ℕ → Bool
within Direct x = in_shape x
within Indirect x = all

-- ---- Pack and Send Messages, for tile t

-- for v in B^m, but 0, in lexicographic order; on the indirect route for q = 1 to m, our dimensions being counted from 0
abbrev pub in_turn : Route → Nest → List ℕ
in_turn Direct x = do_loop 1 (directions x) 1
in_turn Indirect x = do_loop 0 (x.spread - 1) 1

-- pack a message by its set, for the tile that takes it
abbrev pub packed : Route → Nest → ℕ → ℕ → Message
packed Direct x t v = record { sender = t; taker = shaped_taker x (box_tile x t) v; cells = shaped_parcel x (box_tile x t) v }
packed Indirect x t q = record { sender = t; taker = neighbour x t q; cells = passed x t q }

-- send it to that tile's processor: if it holds a cell, and this is another
unfoldable pub pack_and_send : Route → Nest → ℕ → ℕ → List Message
pack_and_send r x t w =
    pick (ltb 0 (length (packed r x t w).cells) and not (eqb ((plan_of r x).processor_of t) ((plan_of r x).processor_of (packed r x t w).taker)))
    (packed r x t w ∷ []) []

unfoldable pub send_section : Route → Nest → ℕ → List Message
send_section r x t = for_each (pack_and_send r x t) (in_turn r x)

-- what all tiles send, tile by tile
unfoldable pub all_sent : Route → Nest → List Message
all_sent r x = for_each (send_section r x) (tabulate (λ t. t) (plan_of r x).tiles)

-- ---- Receive and Unpack Messages, for tile t: all that any tile sends to it
unfoldable pub receive_section : Route → Nest → ℕ → List Message
receive_section r x t = chosen (λ m. eqb m.taker t) (all_sent r x)

-- ---- one tile in a processor's program: receive, body, send
abbrev pub for_tile : Plan → ℕ → List Action
for_tile p t = gather t ∷ calculate t ∷ map send (sends_of p t)

pub record Figure4 (r : Route) (x : Nest) : Type 0 where
  -- the processor's tiles are those that the outer loops meet, in their order
  pub chain : (b : ℕ) → b < processors x → map (in_box r x) (tiles_of (plan_of r x) b) ≡ chosen (is_tile r x) (map (tile_at x) (chains x b))
  -- its program is receive, body, send for one after the other, and nothing else
  pub tile_by_tile : (b : ℕ) → program (plan_of r x) b ≡ for_each (for_tile (plan_of r x)) (tiles_of (plan_of r x) b)
  -- receive: the messages due are those of the section
  pub receives : (t : ℕ) → map (message (plan_of r x)) (dues_of (plan_of r x) t) ≡ receive_section r x t
  -- body: at each index of the inner loops, in their order, over the processor's own memory; in a whole box it is the report's BODY
  pub order : (t : ℕ) → t < (plan_of r x).tiles → map (cell_at x) (indices r x t) ≡ (plan_of r x).cells_of t
  pub body : (source : List ℕ) (s : State) (b t : ℕ) → t < (plan_of r x).tiles
      → (carry_out (plan_of r x) source s b (calculate t)).memories
      ≡ put s.memories (b * cells x) (store_all (value_in (within r x) x source) (memory_of (plan_of r x) s b) (map (cell_at x) (indices r x t)))
  pub body_box : (source : List ℕ) (s : State) (b t : ℕ) → t < box_tiles x
      → (carry_out (box_plan r x) source s b (calculate t)).memories
      ≡ put s.memories (b * cells x) (run_nest x source (memory_of (box_plan r x) s b) (inner x (tile_place x t)))
  -- send: the messages of the tile are those of the section, in its order; so they are numbered, tile by tile
  pub sends : (t : ℕ) → t < (plan_of r x).tiles → map (message (plan_of r x)) (sends_of (plan_of r x) t) ≡ send_section r x t
  pub numbered : (plan_of r x).messages ≡ all_sent r x

-- ---- computed: two tiles of a processor, one after the other; a tile with several messages, on either route; the messages due at a tile

pub record Figure4Examples : Type 0 where
  -- row G: processor 0 has tiles 0 and 2, processor 1 tiles 1 and 3
  pub G-first : program (plan_of Direct (nest_of row_g)) 0
      ≡ gather 0 ∷ calculate 0 ∷ send 0 ∷ gather 2 ∷ calculate 2 ∷ send 2 ∷ []
  pub G-second : program (plan_of Direct (nest_of row_g)) 1 ≡ gather 1 ∷ calculate 1 ∷ send 1 ∷ gather 3 ∷ calculate 3 ∷ []
  -- row Edge: tile 0 sends to tiles 1, 2 and 3, in directions (0,1), (1,0), (1,1); indirect to tile 2, then to tile 1, by dimensions 0 and 1
  pub edge : program (plan_of Direct (nest_of row_edge)) 0 ≡ gather 0 ∷ calculate 0 ∷ send 0 ∷ send 1 ∷ send 2 ∷ []
  pub edge_sends : send_section Direct (nest_of row_edge) 0 ≡ mail 0 1 (1 ∷ []) ∷ mail 0 2 (4 ∷ []) ∷ mail 0 3 (5 ∷ []) ∷ []
  pub edge_receives : receive_section Direct (nest_of row_edge) 3 ≡ mail 0 3 (5 ∷ []) ∷ mail 1 3 (6 ∷ []) ∷ []
  pub edge_indirect : send_section Indirect (nest_of row_edge) 0 ≡ mail 0 2 (4 ∷ 5 ∷ []) ∷ mail 0 1 (1 ∷ []) ∷ []
