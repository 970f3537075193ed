-- The rows, computed on the nests of their recipes.
use Rattle.std.specs.Prelude.{◌≡◌, [], ◌∷◌, replicate}
use mathlib.Core.Path.{refl, ap, ◌∙◌}
use Rattle.base.specs.Tests.{◌and◌, ◌or◌, not, pick, one, every, some, keep, those, tabulate, product}
use Rattle.machine.specs.Plan.{Plan, offset}
use Rattle.machine.specs.Machine.{fresh}
use Rattle.nest.specs.declared.Nest.{Nest}
use Rattle.nest.specs.Nest.{tile_count, cells, box_tiles, processors}
use Rattle.nest.specs.Places.{rank, place, cell_at, cell_place, tile_at, tile_place, box_tile_of}
use Rattle.nest.specs.Shape.{level, raised, meets, in_shape, exists, existing, tiles}
use Rattle.nest.specs.Reader.{of_kind, filled, nest_by, nest_of}
use Rattle.nest.specs.Recipes.{row_b, row_d}
use Rattle.plan.specs.declared.Route.TheVariants.{Direct}
use Rattle.plan.specs.Geometry.{processor_of, inside}
use Rattle.plan.specs.Messages.{directions, ahead, reaches, taker, messages_of}
use Rattle.plan.specs.Shaped.{box_tile, tile_of, reaches_shape, shaped_parcel, follows, shaped_taker, shaped_slot_taker, shaped_home, shaped_slot_parcel, plan_of}
use Rattle.conformance.specs.ShapedExamples.{row_triangle}
use Rattle.conformance.proofs.RowNests.{nest_b, nest_d, is_b, is_d}
use Rattle.layout.specs.RouteWords.{route_of}
use Rattle.engine.specs.Calls.{recipe}
use Rattle.transport.specs.Calls.{row_of, rows_to, owner_of, awaits, waits_of, waited}
use Rattle.transport.specs.MailExamples.{MailExamples}

abbrev nest_triangle : Nest
nest_triangle =
    record {
      dimensions = 2;
      spread = 1;
      distances = 1;
      bounds = 1;
      lengths = 2 ∷ 2 ∷ 0 ∷ 0 ∷ [];
      tiling = 1 ∷ 1 ∷ 0 ∷ 0 ∷ [];
      counts = 2 ∷ 0 ∷ 0 ∷ 0 ∷ [];
      components = 1 ∷ 1 ∷ replicate 30 0;
      weights = 1 ∷ replicate 7 0;
      sides = replicate 4 0;
      bounded = 1 ∷ replicate 3 0;
      earlier = replicate 4 0;
      slopes = 2 ∷ replicate 3 0;
      offsets = 32768 ∷ replicate 3 0;
      shift = 0;
      boundary = 7;
    }

is_triangle : nest_of row_triangle ≡ nest_triangle
unfolding of_kind filled nest_by nest_of pick keep those tabulate
is_triangle = refl

plan_B : recipe row_b 0 ≡ plan_of Direct nest_b
unfolding route_of
plan_B = ap (plan_of Direct) is_b

plan_D : recipe row_d 0 ≡ plan_of Direct nest_d
unfolding route_of
plan_D = ap (plan_of Direct) is_d

plan_triangle : recipe row_triangle 0 ≡ plan_of Direct nest_triangle
unfolding route_of
plan_triangle = ap (plan_of Direct) is_triangle

rows_B : rows_to (plan_of Direct nest_b) 2 ≡ 0 ∷ 2 ∷ 0 ∷ 1 ∷ 8 ∷ 0 ∷ 1 ∷ 3 ∷ 0 ∷ 1 ∷ 6 ∷ 8 ∷ []
unfolding rows_to row_of offset ◌and◌ ◌or◌ pick every some keep product tile_count cells box_tiles rank place cell_at cell_place tile_at tile_place box_tile_of level
    raised meets in_shape exists existing tiles inside directions ahead reaches taker messages_of box_tile reaches_shape shaped_parcel follows shaped_taker
    shaped_slot_taker shaped_home shaped_slot_parcel processor_of
rows_B = refl

on_D : tabulate (owner_of (plan_of Direct nest_d)) 4 ≡ 0 ∷ 0 ∷ 1 ∷ 1 ∷ []
unfolding tabulate ◌and◌ ◌or◌ pick every some keep product tile_count cells box_tiles rank place cell_at cell_place tile_at tile_place box_tile_of level raised
    meets in_shape exists existing tile_of box_tile processor_of processors
on_D = refl

on_triangle : tabulate (owner_of (plan_of Direct nest_triangle)) 4 ≡ 0 ∷ 0 ∷ 2 ∷ 1 ∷ []
unfolding tabulate ◌and◌ ◌or◌ pick every some keep product tile_count cells box_tiles rank place cell_at cell_place tile_at tile_place box_tile_of level raised
    meets in_shape exists existing tile_of box_tile processor_of processors
on_triangle = refl

waits : waited (plan_of Direct nest_d) (fresh (plan_of Direct nest_d)) 1 ≡ waits_of (1 ∷ []) 1
unfolding waited awaits fresh tabulate one not those offset ◌and◌ ◌or◌ pick every some keep product tile_count cells box_tiles rank place cell_at cell_place
    tile_at tile_place box_tile_of level raised meets in_shape exists existing tiles inside directions ahead reaches taker messages_of box_tile reaches_shape
    shaped_parcel follows shaped_taker shaped_slot_taker shaped_home shaped_slot_parcel processor_of processors
waits = refl

goes : waited (plan_of Direct nest_d) (fresh (plan_of Direct nest_d)) 0 ≡ waits_of (0 ∷ []) 0
unfolding waited awaits fresh tabulate one not those offset ◌and◌ ◌or◌ pick every some keep product tile_count cells box_tiles rank place cell_at cell_place
    tile_at tile_place box_tile_of level raised meets in_shape exists existing tiles inside directions ahead reaches taker messages_of box_tile reaches_shape
    shaped_parcel follows shaped_taker shaped_slot_taker shaped_home shaped_slot_parcel processor_of processors
goes = refl

pub mail_rows : MailExamples
mail_rows =
    record {
      B = ap (λ (p : Plan). rows_to p 2) plan_B ∙ rows_B;
      owners_D = ap (λ (p : Plan). tabulate (owner_of p) 4) plan_D ∙ on_D;
      owners_triangle = ap (λ (p : Plan). tabulate (owner_of p) 4) plan_triangle ∙ on_triangle;
      waits_D = ap (λ (p : Plan). waited p (fresh p) 1) plan_D ∙ waits;
      goes_D = ap (λ (p : Plan). waited p (fresh p) 0) plan_D ∙ goes;
    }
