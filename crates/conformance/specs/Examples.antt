-- Read this.
-- The table of document 01's recipes A to H: tiles, messages, words and steps, or the refusal; their message lines.
-- Renders document 01, "Recipes to be met", W-204's row C, W-205's row H, and the places where document 002 says something else.
use Rattle.std.specs.Prelude.{ℕ, zero, suc, ◌≡◌, List, [], ◌∷◌, ◌++◌, length}
use Rattle.base.specs.Tests.{keep}
use Rattle.base.specs.Lists.{member}
use Rattle.base.specs.Numbers.{first_of}
use Rattle.machine.specs.Plan.{Plan, count, words, sender_of, taker_of, held_by}
use Rattle.machine.specs.Machine.{sweep}
use Rattle.machine.specs.Runs.{total}
use Rattle.nest.specs.declared.Nest.{Nest}
use Rattle.nest.specs.Nest.{cells}
use Rattle.nest.specs.Reader.{nest_of, read_lines}
use Rattle.nest.specs.Recipes.{dimension, distance, close, row_a, row_b, row_c, row_d, row_e, row_f, row_g, row_h, row_later}
use Rattle.nest.specs.Places.{box_tile_of}
use Rattle.plan.specs.Geometry.{cells_of, reads_of, has_read}
use Rattle.plan.specs.declared.Route.{Route}
use Rattle.plan.specs.declared.Route.TheVariants.{Direct, Indirect}
use Rattle.plan.specs.Messages.{parcel, passed, box_plan}
use Rattle.plan.specs.Hops.{hops}
use Rattle.plan.specs.Box.{box_size}
use Rattle.conformance.specs.Report.{theorem3, stays_ahead, widened}

-- the number that reading gives; the figures are 0 where it refuses
pub record PlanFigures : Type 0 where
  pub number : ℕ
  pub tiles : ℕ
  pub messages : ℕ
  pub words : ℕ
  pub steps : ℕ

abbrev pub accepted : ℕ → ℕ → ℕ → ℕ → PlanFigures
accepted t m w s = record { number = 0; tiles = t; messages = m; words = w; steps = s }

abbrev pub refused : ℕ → PlanFigures
refused n = record { number = n; tiles = 0; messages = 0; words = 0; steps = 0 }

unfoldable pub figures_if : ℕ → Plan → PlanFigures
figures_if zero p = accepted p.tiles (count p) (words p) (total p)
figures_if (suc n) p = refused (suc n)

unfoldable pub figures : Route → List ℕ → PlanFigures
figures r bytes = figures_if (first_of (read_lines bytes)) (box_plan r (nest_of bytes))

-- message number, sending tile, taking tile, sending processor, taking processor, words
unfoldable pub message_line : Plan → ℕ → List ℕ
message_line p m =
    m ∷ sender_of p m ∷ taker_of p m ∷ p.processor_of (sender_of p m) ∷ p.processor_of (taker_of p m) ∷ length (held_by p m) ∷ []

unfoldable pub lines_to : Plan → ℕ → List (List ℕ)
lines_to p zero = []
lines_to p (suc m) = lines_to p m ++ (message_line p m ∷ [])

abbrev pub lines_of : Route → List ℕ → List (List ℕ)
lines_of r bytes = lines_to (box_plan r (nest_of bytes)) (count (box_plan r (nest_of bytes)))

-- the cells that read cell r
unfoldable pub readers_of : Nest → ℕ → List ℕ
readers_of x r = keep (λ c. member r (reads_of x c)) (cells x)

-- the table
pub record Rows : Type 0 where
  pub A : figures Direct row_a ≡ accepted 16 12 24 56
  pub B : figures Direct row_b ≡ accepted 4 2 14 12
  pub C : figures Direct row_c ≡ accepted 8 10 144 36
  pub D : figures Direct row_d ≡ accepted 2 1 1 6
  pub E : figures Direct row_e ≡ accepted 3 2 2 10
  pub F : figures Direct row_f ≡ accepted 2 0 0 4
  pub G : figures Direct row_g ≡ accepted 4 3 3 14  -- by request W-201
  pub H : figures Direct row_h ≡ accepted 2 0 0 4  -- by request W-205
  pub C-indirect : figures Indirect row_c ≡ accepted 8 8 160 32  -- by request W-204
  pub H-indirect : figures Indirect row_h ≡ accepted 2 0 0 4
  pub lines_B : lines_of Direct row_b ≡ (0 ∷ 0 ∷ 2 ∷ 0 ∷ 1 ∷ 8 ∷ []) ∷ (1 ∷ 1 ∷ 3 ∷ 0 ∷ 1 ∷ 6 ∷ []) ∷ []
  pub lines_C : lines_of Direct row_c
      ≡ (0 ∷ 0 ∷ 2 ∷ 0 ∷ 1 ∷ 8 ∷ []) ∷ (1 ∷ 0 ∷ 4 ∷ 0 ∷ 2 ∷ 24 ∷ []) ∷ (2 ∷ 0 ∷ 6 ∷ 0 ∷ 3 ∷ 8 ∷ []) ∷ (3 ∷ 1 ∷ 3 ∷ 0 ∷ 1 ∷ 8 ∷ [])
      ∷ (4 ∷ 1 ∷ 5 ∷ 0 ∷ 2 ∷ 24 ∷ []) ∷ (5 ∷ 1 ∷ 7 ∷ 0 ∷ 3 ∷ 8 ∷ []) ∷ (6 ∷ 2 ∷ 6 ∷ 1 ∷ 3 ∷ 24 ∷ []) ∷ (7 ∷ 3 ∷ 7 ∷ 1 ∷ 3 ∷ 24 ∷ [])
      ∷ (8 ∷ 4 ∷ 6 ∷ 2 ∷ 3 ∷ 8 ∷ []) ∷ (9 ∷ 5 ∷ 7 ∷ 2 ∷ 3 ∷ 8 ∷ []) ∷ []
  pub lines_C_indirect : lines_of Indirect row_c
      ≡ (0 ∷ 0 ∷ 4 ∷ 0 ∷ 2 ∷ 32 ∷ []) ∷ (1 ∷ 0 ∷ 2 ∷ 0 ∷ 1 ∷ 8 ∷ []) ∷ (2 ∷ 1 ∷ 5 ∷ 0 ∷ 2 ∷ 32 ∷ []) ∷ (3 ∷ 1 ∷ 3 ∷ 0 ∷ 1 ∷ 8 ∷ [])
      ∷ (4 ∷ 2 ∷ 6 ∷ 1 ∷ 3 ∷ 24 ∷ []) ∷ (5 ∷ 3 ∷ 7 ∷ 1 ∷ 3 ∷ 24 ∷ []) ∷ (6 ∷ 4 ∷ 6 ∷ 2 ∷ 3 ∷ 16 ∷ []) ∷ (7 ∷ 5 ∷ 7 ∷ 2 ∷ 3 ∷ 16 ∷ []) ∷ []
  pub hops_C : hops (nest_of row_c) 1 ∷ hops (nest_of row_c) 2 ∷ hops (nest_of row_c) 3 ∷ [] ≡ 1 ∷ 1 ∷ 2 ∷ []  -- directions (0,1) (1,0) (1,1)
  pub lines_D : lines_of Direct row_d ≡ (0 ∷ 0 ∷ 1 ∷ 0 ∷ 1 ∷ 1 ∷ []) ∷ []
  pub lines_G : lines_of Direct row_g ≡ (0 ∷ 0 ∷ 1 ∷ 0 ∷ 1 ∷ 1 ∷ []) ∷ (1 ∷ 1 ∷ 2 ∷ 1 ∷ 0 ∷ 1 ∷ []) ∷ (2 ∷ 2 ∷ 3 ∷ 0 ∷ 1 ∷ 1 ∷ []) ∷ []
  pub cells_E : cells_of (nest_of row_e) 2 ≡ 4 ∷ []  -- the edge tile has one cell
  pub box_E : box_size (nest_of row_e) 2 ≡ 1
  pub sweep_D : sweep (box_plan Direct (nest_of row_d)) (1 ∷ 1 ∷ 1 ∷ 1 ∷ []) ≡ 1 ∷ 2 ∷ 3 ∷ 4 ∷ []
  -- the one message of row Later is taken by tile 2, which reads none of it: its cells' readers are in tile 3
  pub Later : figures Direct row_later ≡ accepted 4 1 2 10
  pub lines_Later : lines_of Direct row_later ≡ (0 ∷ 0 ∷ 2 ∷ 0 ∷ 1 ∷ 2 ∷ []) ∷ []
  pub held_Later : parcel (nest_of row_later) 0 1 ≡ 4 ∷ 5 ∷ []
  pub readers_Later : readers_of (nest_of row_later) 4 ++ readers_of (nest_of row_later) 5 ≡ 10 ∷ 11 ∷ []
  pub tile_Later : box_tile_of (nest_of row_later) 10 ∷ box_tile_of (nest_of row_later) 11 ∷ [] ≡ 3 ∷ 3 ∷ []

-- ---- forwarded parts with no message to join, which section 4.1 of the report says there always is: at a short edge tile, and at full
-- tiles as long as the reach

-- N 3,4,1 k 2,2,1 P 2,2,0, distance (1,1,0)
abbrev pub row_edge : List ℕ
row_edge = dimension 3 2 2 ++ dimension 4 2 2 ++ dimension 1 1 0 ++ distance 1 1 0 ++ close

-- N 4,4,1 k 2,2,1 P 2,2,0, distance (2,2,0)
abbrev pub row_full : List ℕ
row_full = dimension 4 2 2 ++ dimension 4 2 2 ++ dimension 1 1 0 ++ distance 2 2 0 ++ close

pub record ForwardedAlone : Type 0 where
  -- tile 2, of two cells, has none of its own for tile 3, and passes on cell 5 of tile 0: the last message is there for it alone
  pub edge_own : parcel (nest_of row_edge) 2 1 ≡ []
  pub edge_forwards : passed (nest_of row_edge) 2 1 ≡ 5 ∷ []
  pub edge_tile : box_tile_of (nest_of row_edge) 5 ≡ 0
  pub edge : lines_of Direct row_edge
      ≡ (0 ∷ 0 ∷ 1 ∷ 0 ∷ 1 ∷ 1 ∷ []) ∷ (1 ∷ 0 ∷ 2 ∷ 0 ∷ 2 ∷ 1 ∷ []) ∷ (2 ∷ 0 ∷ 3 ∷ 0 ∷ 3 ∷ 1 ∷ []) ∷ (3 ∷ 1 ∷ 3 ∷ 1 ∷ 3 ∷ 1 ∷ []) ∷ []
  pub edge_indirect : lines_of Indirect row_edge
      ≡ (0 ∷ 0 ∷ 2 ∷ 0 ∷ 2 ∷ 2 ∷ []) ∷ (1 ∷ 0 ∷ 1 ∷ 0 ∷ 1 ∷ 1 ∷ []) ∷ (2 ∷ 1 ∷ 3 ∷ 1 ∷ 3 ∷ 1 ∷ []) ∷ (3 ∷ 2 ∷ 3 ∷ 2 ∷ 3 ∷ 1 ∷ []) ∷ []
  -- no tile has a cell for a neighbour; the corner's four cells go by tile 2, in more messages and words than straight
  pub full : figures Direct row_full ≡ accepted 4 1 4 10
  pub full_indirect : figures Indirect row_full ≡ accepted 4 2 8 12
  pub full_lines : lines_of Indirect row_full ≡ (0 ∷ 0 ∷ 2 ∷ 0 ∷ 2 ∷ 4 ∷ []) ∷ (1 ∷ 2 ∷ 3 ∷ 2 ∷ 3 ∷ 4 ∷ []) ∷ []

-- ---- counts of 1: steps along such a dimension stay on the processor

-- N 6,6,1 k 2,1,1 P 1,6,0, distance (1,1,0): six processors in one line
abbrev pub row_six : List ℕ
row_six = dimension 6 2 1 ++ dimension 6 1 6 ++ dimension 1 1 0 ++ distance 1 1 0 ++ close

-- row Full with P 1,2,0
abbrev pub row_line : List ℕ
row_line = dimension 4 2 1 ++ dimension 4 2 2 ++ dimension 1 1 0 ++ distance 2 2 0 ++ close

-- N 4,4,1 k 2,2,1 P 2,1,0, distances (1,0,0) (1,1,0)
abbrev pub row_twice : List ℕ
row_twice = dimension 4 2 2 ++ dimension 4 2 1 ++ dimension 1 1 0 ++ distance 1 0 0 ++ distance 1 1 0 ++ close

-- N 2,2,2,1 k 1,1,1,1 P 2,1,2,0, distance (1,1,1,0)
abbrev pub row_middle : List ℕ
row_middle = dimension 2 1 2 ++ dimension 2 1 1 ++ dimension 2 1 2 ++ dimension 1 1 0 ++ distance 1 1 1 ++ close

pub record SingleCounts : Type 0 where
  pub six : figures Direct row_six ≡ accepted 18 25 25 86
  pub six_indirect : figures Indirect row_six ≡ accepted 18 15 25 66
  -- 1 in the first dimension: what tile 0 has for tile 3 goes by tile 2, which is on tile 0's processor, so in one hop: t' is t less all of
  -- v's components before q, also where the count is 1
  pub line : figures Direct row_line ≡ accepted 4 1 4 10
  pub line_indirect : figures Indirect row_line ≡ accepted 4 1 4 10
  pub lines_line : lines_of Direct row_line ≡ (0 ∷ 0 ∷ 3 ∷ 0 ∷ 1 ∷ 4 ∷ []) ∷ []
  pub lines_line_indirect_lem : lines_of Indirect row_line ≡ (0 ∷ 2 ∷ 3 ∷ 0 ∷ 1 ∷ 4 ∷ []) ∷ []
  pub hops_line_lem : hops (nest_of row_line) 1 ∷ hops (nest_of row_line) 2 ∷ hops (nest_of row_line) 3 ∷ [] ≡ 1 ∷ 0 ∷ 1 ∷ []
  -- in the last: tile 0 has two messages for processor 1, and cell 5 is in both
  pub twice : figures Direct row_twice ≡ accepted 4 3 5 14
  pub twice_indirect : figures Indirect row_twice ≡ accepted 4 2 4 12
  pub lines_twice : lines_of Direct row_twice
      ≡ (0 ∷ 0 ∷ 2 ∷ 0 ∷ 1 ∷ 2 ∷ []) ∷ (1 ∷ 0 ∷ 3 ∷ 0 ∷ 1 ∷ 1 ∷ []) ∷ (2 ∷ 1 ∷ 3 ∷ 0 ∷ 1 ∷ 2 ∷ []) ∷ []
  pub held_twice_lem : parcel (nest_of row_twice) 0 2 ∷ parcel (nest_of row_twice) 0 3 ∷ [] ≡ (4 ∷ 5 ∷ []) ∷ (5 ∷ []) ∷ []
  -- between: cell 0 goes from tile 0 to tile 4, is at tile 6 without a message, and goes on to tile 7
  pub middle : figures Direct row_middle ≡ accepted 8 1 1 18
  pub middle_indirect : figures Indirect row_middle ≡ accepted 8 2 2 20
  pub lines_middle : lines_of Direct row_middle ≡ (0 ∷ 0 ∷ 7 ∷ 0 ∷ 3 ∷ 1 ∷ []) ∷ []
  pub lines_middle_indirect_lem : lines_of Indirect row_middle ≡ (0 ∷ 0 ∷ 4 ∷ 0 ∷ 2 ∷ 1 ∷ []) ∷ (1 ∷ 6 ∷ 7 ∷ 2 ∷ 3 ∷ 1 ∷ []) ∷ []
  pub hops_middle_lem : hops (nest_of row_middle) 7 ≡ 2

-- ---- where the report's inequalities say something else

-- N 9,1 k 3,2 P 2,0, distances (1,0) (0,1) (2,1)
abbrev pub row_wide : List ℕ
row_wide = dimension 9 3 2 ++ dimension 1 2 0 ++ distance 1 0 0 ++ distance 0 1 0 ++ distance 2 1 0 ++ close

pub record ReportDiffers : Type 0 where
  -- row B's messages, of 8 cells and 6, are due at tiles 2 and 3; Theorem 3 gives these 6 and 8, and as it is printed 4 and 8
  pub message_0 : parcel (nest_of row_b) 0 1 ≡ 16 ∷ 17 ∷ 18 ∷ 19 ∷ 24 ∷ 25 ∷ 26 ∷ 27 ∷ []
  pub message_1 : parcel (nest_of row_b) 1 1 ≡ 20 ∷ 21 ∷ 22 ∷ 28 ∷ 29 ∷ 30 ∷ []
  pub theorem3_2 : theorem3 stays_ahead (nest_of row_b) 2 1 ≡ 16 ∷ 17 ∷ 18 ∷ 24 ∷ 25 ∷ 26 ∷ []
  pub theorem3_3 : theorem3 stays_ahead (nest_of row_b) 3 1 ≡ 19 ∷ 20 ∷ 21 ∷ 22 ∷ 27 ∷ 28 ∷ 29 ∷ 30 ∷ []
  pub printed_2 : theorem3 has_read (nest_of row_b) 2 1 ≡ 17 ∷ 18 ∷ 25 ∷ 26 ∷ []
  pub printed_3 : theorem3 has_read (nest_of row_b) 3 1 ≡ 19 ∷ 20 ∷ 21 ∷ 22 ∷ 27 ∷ 28 ∷ 29 ∷ 30 ∷ []
  -- tile 0 sends cell 2 alone; the widened set has cell 1 too, which only cell 2 reads, a cell of tile 0 itself
  pub exact : parcel (nest_of row_wide) 0 1 ≡ 2 ∷ []
  pub wide : widened (nest_of row_wide) 0 1 ≡ 1 ∷ 2 ∷ []
  pub readers : readers_of (nest_of row_wide) 1 ≡ 2 ∷ []
  pub at_home_lem : box_tile_of (nest_of row_wide) 2 ≡ 0
