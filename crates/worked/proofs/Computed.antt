-- The worked recipe, computed: every figure by the definitions, and the theorem applied to it.
use mathlib.Core.Path.{◌≡◌, refl, ap, ◌∙◌}
use mathlib.Core.Bool.{true}
use mathlib.Core.List.{[], ◌∷◌}
use lib.ListN.{replicate}
use Rattle.base.specs.Tests.{◌and◌, ◌or◌, not, pick, every, some, keep, those, tabulate, sum, product}
use Rattle.base.specs.Numbers.{first_of}
use Rattle.base.proofs.Lists.{small, small_bytes}
use Rattle.machine.specs.Plan.{Plan, offset, count, held_by}
use Rattle.machine.specs.Machine.{sweep, sweep_to}
use Rattle.nest.specs.declared.Nest.{Nest}
use Rattle.nest.specs.Nest.{tile_count, cells, processors, box_tiles}
use Rattle.nest.specs.Reader.{of_kind, filled, nest_by, nest_of, ragged, blank, checked, may_stand, fits_at, well_formed, stray_record, no_length, bad_length}
use Rattle.nest.specs.Reader.{too_large, needlessly_wide, same, beyond, faulty, bad_distance, reached, bad_tile, bad_spread, last_spread, bad_processors}
use Rattle.nest.specs.Reader.{too_many_tiles, read_lines}
use Rattle.nest.specs.Places.{rank, place, cell_at, cell_place, tile_at, tile_place, box_tile_of}
use Rattle.plan.specs.Geometry.{processor_of, inside, has_read, read_at, value}
use Rattle.plan.specs.declared.Route.TheVariants.{Direct}
use Rattle.plan.specs.Messages.{directions, ahead, reaches, crosses, parcel, taker, slot_cells, slot_taker, at_home, slot_parcel, messages_to, box_plan}
use Rattle.plan.specs.Shaped.{plan_of}
use Rattle.conformance.specs.Examples.{accepted, figures, figures_if, message_line, lines_to}
use Rattle.nest.proofs.Quick.{quick}
use Rattle.plan.proofs.ShapedBox.{recipe_box}
use Rattle.engine.proofs.Demands.{demands}
use Rattle.worked.specs.Harbour.{harbour, depths, Expected, Agrees}

number_is : first_of (read_lines harbour) ≡ 0
unfolding first_of nest_of nest_by of_kind filled ragged blank checked may_stand fits_at well_formed stray_record no_length bad_length too_large needlessly_wide same
    beyond faulty bad_distance reached bad_tile bad_spread last_spread bad_processors too_many_tiles tile_count cells box_tiles processors ◌and◌ ◌or◌ not pick every
    some keep those tabulate product
number_is = quick harbour ∙ refl

-- the nest of the bytes, so that it is computed once
abbrev nest : Nest
nest =
    record {
      dimensions = 2;
      spread = 1;
      distances = 3;
      bounds = 0;
      lengths = 6 ∷ 5 ∷ 0 ∷ 0 ∷ [];
      tiling = 3 ∷ 2 ∷ 0 ∷ 0 ∷ [];
      counts = 2 ∷ 0 ∷ 0 ∷ 0 ∷ [];
      components = 1 ∷ 0 ∷ 0 ∷ 0 ∷ 0 ∷ 1 ∷ 0 ∷ 0 ∷ 1 ∷ 1 ∷ replicate 22 0;
      weights = 3 ∷ 2 ∷ 1 ∷ replicate 5 0;
      sides = replicate 4 0;
      bounded = replicate 4 0;
      earlier = replicate 4 0;
      slopes = replicate 4 0;
      offsets = replicate 4 0;
      shift = 2;
      boundary = 7;
    }

nest_is : nest_of harbour ≡ nest
unfolding of_kind filled nest_by nest_of pick keep those tabulate
nest_is = refl

plan_is : figures_if 0 (box_plan Direct nest) ≡ accepted 6 3 5 18
unfolding figures_if offset processor_of ◌and◌ ◌or◌ pick every some keep product tile_count cells box_tiles rank place cell_at cell_place tile_at tile_place
    box_tile_of inside directions ahead reaches crosses parcel taker slot_cells slot_taker at_home slot_parcel messages_to
plan_is = refl

lines_are : lines_to (box_plan Direct nest) (count (box_plan Direct nest)) ≡ (0 ∷ 0 ∷ 3 ∷ 0 ∷ 1 ∷ 2 ∷ []) ∷ (1 ∷ 1 ∷ 4 ∷ 0 ∷ 1 ∷ 2 ∷ []) ∷ (2 ∷ 2 ∷ 5 ∷ 0 ∷ 1 ∷ 1 ∷ []) ∷ []
unfolding lines_to message_line processor_of ◌and◌ ◌or◌ pick every some keep product tile_count cells box_tiles rank place cell_at cell_place tile_at tile_place
    box_tile_of inside directions ahead reaches crosses parcel taker slot_cells slot_taker at_home slot_parcel messages_to
lines_are = refl

cells_are : held_by (box_plan Direct nest) 1 ≡ 12 ∷ 13 ∷ []
unfolding processor_of ◌and◌ ◌or◌ pick every some keep product tile_count cells box_tiles rank place cell_at cell_place tile_at tile_place box_tile_of inside
    directions ahead reaches crosses parcel taker slot_cells slot_taker at_home slot_parcel messages_to
cells_are = refl

grid_is : sweep (box_plan Direct nest) depths
    ≡ 35 ∷ 49 ∷ 57 ∷ 61 ∷ 63 ∷ 57 ∷ 100 ∷ 131 ∷ 152 ∷ 165 ∷ 75 ∷ 154 ∷ 228 ∷ 289 ∷ 334 ∷ 90 ∷ 208 ∷ 342 ∷ 474 ∷ 589 ∷ 102 ∷ 259 ∷ 468 ∷ 705 ∷ 943 ∷ 113 ∷ 307 ∷ 601 ∷ 978 ∷ 1404 ∷ []
unfolding sweep_to cells product value has_read read_at cell_at cell_place place rank every sum ◌and◌ pick tabulate
grid_is = refl

harbour_small : small harbour ≡ true
unfolding small ◌and◌
harbour_small = refl

-- the recipe has no bounds: its plan is the box's
plan_box : plan_of Direct (nest_of harbour) ≡ box_plan Direct nest
plan_box = recipe_box harbour nest harbour_small number_is nest_is refl

pub expected : Expected
unfolding figures
expected =
    record {
      number = number_is;
      plan = rw (number_is, nest_is) plan_is;
      lines = rw nest_is lines_are;
      cells = ap (λ (p : Plan). held_by p 1) plan_box ∙ cells_are;
      grid = ap (λ (p : Plan). sweep p depths) plan_box ∙ grid_is;
    }

pub agrees : Agrees
unfolding Agrees
agrees route source s z events = demands.three harbour route source s (small_bytes harbour harbour_small) z events
