-- Rows C and H on the indirect route, and forwarded parts that find no message to join, computed.
use Prim.Native.Nat.{ℕ, ◌+◌}
use mathlib.Core.Path.{◌≡◌, refl, ap, ◌∙◌}
use mathlib.Core.Bool.{true}
use mathlib.Core.List.{List, [], ◌∷◌}
use lib.ListN.{length}
use Rattle.base.specs.Tests.{◌and◌, ◌or◌, not, pick, one, every, some, keep, those, tabulate, product}
use Rattle.base.specs.Numbers.{first_of}
use Rattle.machine.specs.Plan.{Message, Plan, offset, count}
use Rattle.nest.specs.Nest.{tile_count, cells, processors, box_tiles}
use Rattle.nest.specs.Reader.{of_kind, filled, nest_by, nest_of, ragged, blank, checked, may_stand, fits_at, well_formed, stray_record, no_length, bad_length}
use Rattle.nest.specs.Reader.{too_large, needlessly_wide, same, beyond, faulty, bad_distance, reached, bad_tile, bad_spread, last_spread, bad_processors}
use Rattle.nest.specs.Reader.{read_lines}
use Rattle.nest.proofs.Quick.{quick}
use Rattle.plan.specs.declared.Route.TheVariants.{Direct, Indirect}
use Rattle.nest.specs.Places.{rank, place, cell_at, cell_place, tile_at, tile_place, box_tile_of}
use Rattle.plan.specs.Geometry.{cells_of, processor_of, inside, reads_of, value}
use Rattle.plan.specs.Messages.{directions, ahead, reaches, crosses, parcel, taker, before, has_origin, origin, passes, passed, neighbour}
use Rattle.plan.specs.Messages.{slot_cells, slot_taker, at_home, slot_parcel, messages_to, messages, box_plan}
use Rattle.plan.specs.Hops.{hops_along, hops}
use Rattle.conformance.specs.Examples.{row_full, accepted, figures, figures_if, message_line, lines_to, ForwardedAlone}
use Rattle.plan.proofs.SmallNests.{passed_edge}
use Rattle.conformance.proofs.RowNests.{nest_c, nest_h, nest_edge, nest_full, is_edge, is_full}

-- ---- rows C and H

-- row C's messages: their cells stand in runs of four
unfoldable fours : List ℕ → List ℕ
fours [] = []
fours (a ∷ l) = a ∷ (a + 1) ∷ (a + 2) ∷ (a + 3) ∷ fours l

abbrev mail : ℕ → ℕ → List ℕ → Message
mail t u l = record { sender = t; taker = u; cells = l }

abbrev mail_c : List Message
mail_c =
    mail 0 4 (fours (128 ∷ 136 ∷ 144 ∷ 152 ∷ 192 ∷ 200 ∷ 208 ∷ 216 ∷ [])) ∷ mail 0 2 (fours (24 ∷ 88 ∷ [])) ∷
    mail 1 5 (fours (132 ∷ 140 ∷ 148 ∷ 156 ∷ 196 ∷ 204 ∷ 212 ∷ 220 ∷ [])) ∷ mail 1 3 (fours (28 ∷ 92 ∷ [])) ∷
    mail 2 6 (fours (160 ∷ 168 ∷ 176 ∷ 224 ∷ 232 ∷ 240 ∷ [])) ∷ mail 3 7 (fours (164 ∷ 172 ∷ 180 ∷ 228 ∷ 236 ∷ 244 ∷ [])) ∷
    mail 4 6 (fours (152 ∷ 216 ∷ 280 ∷ 344 ∷ [])) ∷ mail 5 7 (fours (156 ∷ 220 ∷ 284 ∷ 348 ∷ [])) ∷ []

messages_c : messages Indirect nest_c ≡ mail_c
unfolding fours ◌and◌ ◌or◌ pick every some keep product tile_count cells box_tiles rank place cell_at cell_place tile_at tile_place box_tile_of inside directions ahead
    reaches crosses before has_origin origin passes passed neighbour one slot_cells slot_taker at_home slot_parcel messages_to processor_of
messages_c = refl

-- the plan of row C, with any messages
abbrev plan_c : List Message → Plan
plan_c ms =
    record {
      cells = cells nest_c;
      inside = λ c. true;
      boundary = nest_c.boundary;
      tiles = box_tiles nest_c;
      processors = processors nest_c;
      tile_of = box_tile_of nest_c;
      cells_of = cells_of nest_c;
      processor_of = processor_of nest_c;
      messages = ms;
      reads_of = reads_of nest_c;
      value = value nest_c;
    }

mailed : figures_if 0 (plan_c mail_c) ≡ accepted 8 8 160 32
unfolding fours figures_if offset product tile_count box_tiles
mailed = refl

pub figures_c : figures_if 0 (box_plan Indirect nest_c) ≡ accepted 8 8 160 32
figures_c = ap (λ (ms : List Message). figures_if 0 (plan_c ms)) messages_c ∙ mailed

abbrev lines_by : List Message → List (List ℕ)
lines_by ms = lines_to (plan_c ms) (length ms)

told : lines_by mail_c
    ≡ (0 ∷ 0 ∷ 4 ∷ 0 ∷ 2 ∷ 32 ∷ []) ∷ (1 ∷ 0 ∷ 2 ∷ 0 ∷ 1 ∷ 8 ∷ []) ∷ (2 ∷ 1 ∷ 5 ∷ 0 ∷ 2 ∷ 32 ∷ []) ∷ (3 ∷ 1 ∷ 3 ∷ 0 ∷ 1 ∷ 8 ∷ [])
    ∷ (4 ∷ 2 ∷ 6 ∷ 1 ∷ 3 ∷ 24 ∷ []) ∷ (5 ∷ 3 ∷ 7 ∷ 1 ∷ 3 ∷ 24 ∷ []) ∷ (6 ∷ 4 ∷ 6 ∷ 2 ∷ 3 ∷ 16 ∷ []) ∷ (7 ∷ 5 ∷ 7 ∷ 2 ∷ 3 ∷ 16 ∷ []) ∷ []
unfolding fours lines_to message_line pick rank place tile_place tile_count processor_of
told = refl

pub lines_c : lines_to (box_plan Indirect nest_c) (count (box_plan Indirect nest_c))
    ≡ (0 ∷ 0 ∷ 4 ∷ 0 ∷ 2 ∷ 32 ∷ []) ∷ (1 ∷ 0 ∷ 2 ∷ 0 ∷ 1 ∷ 8 ∷ []) ∷ (2 ∷ 1 ∷ 5 ∷ 0 ∷ 2 ∷ 32 ∷ []) ∷ (3 ∷ 1 ∷ 3 ∷ 0 ∷ 1 ∷ 8 ∷ [])
    ∷ (4 ∷ 2 ∷ 6 ∷ 1 ∷ 3 ∷ 24 ∷ []) ∷ (5 ∷ 3 ∷ 7 ∷ 1 ∷ 3 ∷ 24 ∷ []) ∷ (6 ∷ 4 ∷ 6 ∷ 2 ∷ 3 ∷ 16 ∷ []) ∷ (7 ∷ 5 ∷ 7 ∷ 2 ∷ 3 ∷ 16 ∷ []) ∷ []
lines_c = ap lines_by messages_c ∙ told

pub hops_c : hops nest_c 1 ∷ hops nest_c 2 ∷ hops nest_c 3 ∷ [] ≡ 1 ∷ 1 ∷ 2 ∷ []
unfolding hops hops_along ◌and◌ pick keep place ahead
hops_c = refl

pub figures_h : figures_if 0 (box_plan Indirect nest_h) ≡ accepted 2 0 0 4
unfolding figures_if offset ◌and◌ ◌or◌ pick every some keep product tile_count cells box_tiles rank place cell_at cell_place tile_at tile_place box_tile_of inside
    directions ahead reaches crosses before has_origin origin passes passed neighbour one slot_cells slot_taker at_home slot_parcel messages_to processor_of
figures_h = refl

-- ---- forwarded parts alone

edge_own : parcel nest_edge 2 1 ≡ []
unfolding ◌and◌ ◌or◌ pick every some keep product tile_count cells box_tiles rank place cell_at cell_place tile_at tile_place box_tile_of inside directions ahead
    reaches crosses parcel
edge_own = refl

edge_tile : box_tile_of nest_edge 5 ≡ 0
unfolding pick tile_count rank place cell_place tile_at box_tile_of
edge_tile = refl

edge : lines_to (box_plan Direct nest_edge) (count (box_plan Direct nest_edge))
    ≡ (0 ∷ 0 ∷ 1 ∷ 0 ∷ 1 ∷ 1 ∷ []) ∷ (1 ∷ 0 ∷ 2 ∷ 0 ∷ 2 ∷ 1 ∷ []) ∷ (2 ∷ 0 ∷ 3 ∷ 0 ∷ 3 ∷ 1 ∷ []) ∷ (3 ∷ 1 ∷ 3 ∷ 1 ∷ 3 ∷ 1 ∷ []) ∷ []
unfolding lines_to message_line ◌and◌ ◌or◌ pick every some keep product tile_count cells box_tiles rank place cell_at cell_place tile_at tile_place box_tile_of inside
    directions ahead reaches crosses parcel taker slot_cells slot_taker at_home slot_parcel messages_to processor_of
edge = refl

edge_indirect : lines_to (box_plan Indirect nest_edge) (count (box_plan Indirect nest_edge))
    ≡ (0 ∷ 0 ∷ 2 ∷ 0 ∷ 2 ∷ 2 ∷ []) ∷ (1 ∷ 0 ∷ 1 ∷ 0 ∷ 1 ∷ 1 ∷ []) ∷ (2 ∷ 1 ∷ 3 ∷ 1 ∷ 3 ∷ 1 ∷ []) ∷ (3 ∷ 2 ∷ 3 ∷ 2 ∷ 3 ∷ 1 ∷ []) ∷ []
unfolding lines_to message_line ◌and◌ ◌or◌ pick every some keep product tile_count cells box_tiles rank place cell_at cell_place tile_at tile_place box_tile_of inside
    directions ahead reaches crosses before has_origin origin passes passed neighbour one slot_cells slot_taker at_home slot_parcel messages_to processor_of
edge_indirect = refl

number_full : first_of (read_lines row_full) ≡ 0
unfolding first_of ◌and◌ ◌or◌ not pick every some keep those tabulate product tile_count cells box_tiles processors of_kind filled nest_by nest_of ragged blank
    checked may_stand fits_at well_formed stray_record no_length bad_length too_large needlessly_wide same beyond faulty bad_distance reached bad_tile bad_spread
    last_spread bad_processors
number_full = quick row_full ∙ refl

figures_full : figures_if 0 (box_plan Direct nest_full) ≡ accepted 4 1 4 10
unfolding figures_if offset ◌and◌ ◌or◌ pick every some keep product tile_count cells box_tiles rank place cell_at cell_place tile_at tile_place box_tile_of inside
    directions ahead reaches crosses parcel taker slot_cells slot_taker at_home slot_parcel messages_to processor_of
figures_full = refl

figures_full_indirect : figures_if 0 (box_plan Indirect nest_full) ≡ accepted 4 2 8 12
unfolding figures_if offset ◌and◌ ◌or◌ pick every some keep product tile_count cells box_tiles rank place cell_at cell_place tile_at tile_place box_tile_of inside
    directions ahead reaches crosses before has_origin origin passes passed neighbour one slot_cells slot_taker at_home slot_parcel messages_to processor_of
figures_full_indirect = refl

lines_full : lines_to (box_plan Indirect nest_full) (count (box_plan Indirect nest_full))
    ≡ (0 ∷ 0 ∷ 2 ∷ 0 ∷ 2 ∷ 4 ∷ []) ∷ (1 ∷ 2 ∷ 3 ∷ 2 ∷ 3 ∷ 4 ∷ []) ∷ []
unfolding lines_to message_line ◌and◌ ◌or◌ pick every some keep product tile_count cells box_tiles rank place cell_at cell_place tile_at tile_place box_tile_of inside
    directions ahead reaches crosses before has_origin origin passes passed neighbour one slot_cells slot_taker at_home slot_parcel messages_to processor_of
lines_full = refl

full : figures Direct row_full ≡ accepted 4 1 4 10
unfolding figures
full = rw (number_full, is_full) figures_full

full_indirect : figures Indirect row_full ≡ accepted 4 2 8 12
unfolding figures
full_indirect = rw (number_full, is_full) figures_full_indirect

pub forwarded_alone : ForwardedAlone
forwarded_alone =
    record {
      edge_own = rw is_edge edge_own;
      edge_forwards = rw is_edge passed_edge;
      edge_tile = rw is_edge edge_tile;
      edge = rw is_edge edge;
      edge_indirect = rw is_edge edge_indirect;
      full = full;
      full_indirect = full_indirect;
      full_lines = rw is_full lines_full;
    }
