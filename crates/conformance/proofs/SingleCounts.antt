-- Rows with a count of 1 in the first, the last or a middle spread dimension, computed on both routes.
use mathlib.Core.Path.{◌≡◌, refl, ◌∙◌}
use mathlib.Core.List.{[], ◌∷◌}
use Rattle.base.specs.Tests.{◌and◌, ◌or◌, not, pick, one, every, some, keep, those, tabulate, product}
use Rattle.base.specs.Numbers.{first_of}
use Rattle.machine.specs.Plan.{offset, count}
use Rattle.nest.specs.Nest.{tile_count, cells, processors, box_tiles}
use Rattle.nest.specs.Reader.{of_kind, filled, nest_by, nest_of, ragged, blank, checked, may_stand, fits_at, well_formed, stray_record, no_length, bad_length}
use Rattle.nest.specs.Reader.{too_large, needlessly_wide, same, beyond, faulty, bad_distance, reached, bad_tile, bad_spread, last_spread, bad_processors}
use Rattle.nest.specs.Reader.{read_lines}
use Rattle.nest.proofs.Quick.{quick}
use Rattle.plan.specs.declared.Route.TheVariants.{Direct, Indirect}
use Rattle.nest.specs.Places.{rank, place, cell_at, cell_place, tile_at, tile_place, box_tile_of}
use Rattle.plan.specs.Geometry.{processor_of, inside}
use Rattle.plan.specs.Messages.{directions, ahead, reaches, crosses, parcel, taker, before, has_origin, origin, passes, passed, neighbour}
use Rattle.plan.specs.Messages.{slot_cells, slot_taker, at_home, slot_parcel, messages_to, box_plan}
use Rattle.plan.specs.Hops.{hops_along, hops}
use Rattle.conformance.specs.Examples.{row_six, row_line, row_twice, row_middle, accepted, figures, figures_if, message_line, lines_to, SingleCounts}
use Rattle.conformance.proofs.RowNests.{nest_six, nest_line, nest_twice, nest_middle, is_six, is_line, is_twice, is_middle}

-- ---- numbers and figures of all rows

record Numbered : Type 0 where
  six : first_of (read_lines row_six) ≡ 0
  line : first_of (read_lines row_line) ≡ 0
  twice : first_of (read_lines row_twice) ≡ 0
  middle : first_of (read_lines row_middle) ≡ 0

numbered : Numbered
unfolding first_of ◌and◌ ◌or◌ not pick every some keep those tabulate product tile_count cells box_tiles processors of_kind filled nest_by nest_of ragged blank
    checked may_stand fits_at well_formed stray_record no_length bad_length too_large needlessly_wide same beyond faulty bad_distance reached bad_tile bad_spread
    last_spread bad_processors
numbered = record { six = quick row_six ∙ refl; line = quick row_line ∙ refl; twice = quick row_twice ∙ refl; middle = quick row_middle ∙ refl }

record Counted : Type 0 where
  six : figures_if 0 (box_plan Direct nest_six) ≡ accepted 18 25 25 86
  line : figures_if 0 (box_plan Direct nest_line) ≡ accepted 4 1 4 10
  twice : figures_if 0 (box_plan Direct nest_twice) ≡ accepted 4 3 5 14
  middle : figures_if 0 (box_plan Direct nest_middle) ≡ accepted 8 1 1 18

counted : Counted
unfolding figures_if offset ◌and◌ ◌or◌ pick every some keep product tile_count cells box_tiles rank place cell_at cell_place tile_at tile_place box_tile_of inside
    directions ahead reaches crosses parcel taker slot_cells slot_taker at_home slot_parcel messages_to processor_of
counted = record { six = refl; line = refl; twice = refl; middle = refl }

record Indirectly : Type 0 where
  six : figures_if 0 (box_plan Indirect nest_six) ≡ accepted 18 15 25 66
  line : figures_if 0 (box_plan Indirect nest_line) ≡ accepted 4 1 4 10
  twice : figures_if 0 (box_plan Indirect nest_twice) ≡ accepted 4 2 4 12
  middle : figures_if 0 (box_plan Indirect nest_middle) ≡ accepted 8 2 2 20

indirectly : Indirectly
unfolding figures_if offset ◌and◌ ◌or◌ pick every some keep product tile_count cells box_tiles rank place cell_at cell_place tile_at tile_place box_tile_of inside
    directions ahead reaches crosses before has_origin origin passes passed neighbour one slot_cells slot_taker at_home slot_parcel messages_to processor_of
indirectly = record { six = refl; line = refl; twice = refl; middle = refl }

-- ---- row Six

six : figures Direct row_six ≡ accepted 18 25 25 86
unfolding figures
six = rw (numbered.six, is_six) counted.six

six_indirect : figures Indirect row_six ≡ accepted 18 15 25 66
unfolding figures
six_indirect = rw (numbered.six, is_six) indirectly.six

-- ---- row Line

line : figures Direct row_line ≡ accepted 4 1 4 10
unfolding figures
line = rw (numbered.line, is_line) counted.line

line_indirect : figures Indirect row_line ≡ accepted 4 1 4 10
unfolding figures
line_indirect = rw (numbered.line, is_line) indirectly.line

record Listed : Type 0 where
  line : lines_to (box_plan Direct nest_line) (count (box_plan Direct nest_line))
      ≡ (0 ∷ 0 ∷ 3 ∷ 0 ∷ 1 ∷ 4 ∷ []) ∷ []
  twice : lines_to (box_plan Direct nest_twice) (count (box_plan Direct nest_twice))
      ≡ (0 ∷ 0 ∷ 2 ∷ 0 ∷ 1 ∷ 2 ∷ []) ∷ (1 ∷ 0 ∷ 3 ∷ 0 ∷ 1 ∷ 1 ∷ []) ∷ (2 ∷ 1 ∷ 3 ∷ 0 ∷ 1 ∷ 2 ∷ []) ∷ []
  middle : lines_to (box_plan Direct nest_middle) (count (box_plan Direct nest_middle))
      ≡ (0 ∷ 0 ∷ 7 ∷ 0 ∷ 3 ∷ 1 ∷ []) ∷ []

listed : Listed
unfolding lines_to message_line ◌and◌ ◌or◌ pick every some keep product tile_count cells box_tiles rank place cell_at cell_place tile_at tile_place box_tile_of inside
    directions ahead reaches crosses parcel taker slot_cells slot_taker at_home slot_parcel messages_to processor_of
listed = record { line = refl; twice = refl; middle = refl }

lines_line_indirect : lines_to (box_plan Indirect nest_line) (count (box_plan Indirect nest_line))
    ≡ (0 ∷ 2 ∷ 3 ∷ 0 ∷ 1 ∷ 4 ∷ []) ∷ []
unfolding lines_to message_line ◌and◌ ◌or◌ pick every some keep product tile_count cells box_tiles rank place cell_at cell_place tile_at tile_place box_tile_of inside
    directions ahead reaches crosses before has_origin origin passes passed neighbour one slot_cells slot_taker at_home slot_parcel messages_to processor_of
lines_line_indirect = refl

hops_line : hops nest_line 1 ∷ hops nest_line 2 ∷ hops nest_line 3 ∷ [] ≡ 1 ∷ 0 ∷ 1 ∷ []
unfolding hops hops_along ◌and◌ pick keep place ahead
hops_line = refl

-- ---- row Twice

twice : figures Direct row_twice ≡ accepted 4 3 5 14
unfolding figures
twice = rw (numbered.twice, is_twice) counted.twice

twice_indirect : figures Indirect row_twice ≡ accepted 4 2 4 12
unfolding figures
twice_indirect = rw (numbered.twice, is_twice) indirectly.twice

held_twice : parcel nest_twice 0 2 ∷ parcel nest_twice 0 3 ∷ [] ≡ (4 ∷ 5 ∷ []) ∷ (5 ∷ []) ∷ []
unfolding ◌and◌ ◌or◌ pick every some keep product tile_count cells rank place cell_at cell_place tile_at tile_place box_tile_of inside ahead reaches crosses parcel
held_twice = refl

-- ---- row Middle

middle : figures Direct row_middle ≡ accepted 8 1 1 18
unfolding figures
middle = rw (numbered.middle, is_middle) counted.middle

middle_indirect : figures Indirect row_middle ≡ accepted 8 2 2 20
unfolding figures
middle_indirect = rw (numbered.middle, is_middle) indirectly.middle

lines_middle_indirect : lines_to (box_plan Indirect nest_middle) (count (box_plan Indirect nest_middle))
    ≡ (0 ∷ 0 ∷ 4 ∷ 0 ∷ 2 ∷ 1 ∷ []) ∷ (1 ∷ 6 ∷ 7 ∷ 2 ∷ 3 ∷ 1 ∷ []) ∷ []
unfolding lines_to message_line ◌and◌ ◌or◌ pick every some keep product tile_count cells box_tiles rank place cell_at cell_place tile_at tile_place box_tile_of inside
    directions ahead reaches crosses before has_origin origin passes passed neighbour one slot_cells slot_taker at_home slot_parcel messages_to processor_of
lines_middle_indirect = refl

hops_middle : hops nest_middle 7 ≡ 2
unfolding hops hops_along ◌and◌ pick keep place ahead
hops_middle = refl

-- ---- the table

pub single_counts : SingleCounts
single_counts =
    record {
      six = six;
      six_indirect = six_indirect;
      line = line;
      line_indirect = line_indirect;
      lines_line = rw is_line listed.line;
      lines_line_indirect_lem = rw is_line lines_line_indirect;
      hops_line_lem = rw is_line hops_line;
      twice = twice;
      twice_indirect = twice_indirect;
      lines_twice = rw is_twice listed.twice;
      held_twice_lem = rw is_twice held_twice;
      middle = middle;
      middle_indirect = middle_indirect;
      lines_middle = rw is_middle listed.middle;
      lines_middle_indirect_lem = rw is_middle lines_middle_indirect;
      hops_middle_lem = rw is_middle hops_middle;
    }
