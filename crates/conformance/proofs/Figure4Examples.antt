-- Programs and sections of small recipes, computed.
use mathlib.Core.Path.{◌≡◌, refl}
use mathlib.Core.List.{[], ◌∷◌}
use Rattle.base.specs.Tests.{◌and◌, ◌or◌, not, pick, one, every, some, keep, those, tabulate, product}
use Rattle.machine.specs.Machine.{gather, calculate, send}
use Rattle.machine.specs.Runs.{program_over, program}
use Rattle.nest.specs.Nest.{tile_count, cells, box_tiles}
use Rattle.nest.specs.Places.{rank, place, cell_at, cell_place, tile_at, tile_place, box_tile_of}
use Rattle.nest.specs.Shape.{level, raised, meets, in_shape, exists, existing, tiles}
use Rattle.plan.specs.declared.Route.TheVariants.{Direct, Indirect}
use Rattle.plan.specs.Geometry.{processor_of, inside}
use Rattle.plan.specs.Messages.{directions, ahead, reaches, crosses, taker, before, has_origin, origin, passes, passed, neighbour, messages_of}
use Rattle.plan.specs.Loops.{values, do_loop, for_each}
use Rattle.plan.specs.Shaped.{box_tile, reaches_shape, shaped_parcel, follows, shaped_taker, shaped_slot_taker, shaped_home, shaped_slot_parcel, plan_of}
use Rattle.conformance.specs.Figure4.{chosen, pack_and_send, send_section, all_sent, receive_section, Figure4Examples}
use Rattle.conformance.specs.ShapedExamples.{mail}
use Rattle.conformance.proofs.RowNests.{nest_g, is_g, nest_edge, is_edge}

program_g : (program (plan_of Direct nest_g) 0 ≡ gather 0 ∷ calculate 0 ∷ send 0 ∷ gather 2 ∷ calculate 2 ∷ send 2 ∷ [])
    × (program (plan_of Direct nest_g) 1 ≡ gather 1 ∷ calculate 1 ∷ send 1 ∷ gather 3 ∷ calculate 3 ∷ [])
unfolding program_over those ◌and◌ ◌or◌ pick every some keep product rank place cell_at cell_place tile_at tile_place box_tile_of tile_count cells box_tiles level
    raised meets in_shape exists existing tiles inside directions ahead reaches processor_of box_tile reaches_shape shaped_parcel taker follows shaped_taker
    shaped_slot_taker shaped_home shaped_slot_parcel messages_of
program_g = (refl, refl)

program_edge : program (plan_of Direct nest_edge) 0 ≡ gather 0 ∷ calculate 0 ∷ send 0 ∷ send 1 ∷ send 2 ∷ []
unfolding program_over those ◌and◌ ◌or◌ pick every some keep product rank place cell_at cell_place tile_at tile_place box_tile_of tile_count cells box_tiles level
    raised meets in_shape exists existing tiles inside directions ahead reaches processor_of box_tile reaches_shape shaped_parcel taker follows shaped_taker
    shaped_slot_taker shaped_home shaped_slot_parcel messages_of
program_edge = refl

sections_edge : (send_section Direct nest_edge 0 ≡ mail 0 1 (1 ∷ []) ∷ mail 0 2 (4 ∷ []) ∷ mail 0 3 (5 ∷ []) ∷ [])
    × (receive_section Direct nest_edge 3 ≡ mail 0 3 (5 ∷ []) ∷ mail 1 3 (6 ∷ []) ∷ [])
unfolding chosen pack_and_send send_section all_sent receive_section values do_loop for_each tabulate not ◌and◌ ◌or◌ pick every some keep product rank place cell_at
    cell_place tile_at tile_place box_tile_of tile_count cells box_tiles level raised meets in_shape exists existing tiles inside directions ahead reaches processor_of
    box_tile reaches_shape shaped_parcel taker follows shaped_taker
sections_edge = (refl, refl)

indirect_edge : send_section Indirect nest_edge 0 ≡ mail 0 2 (4 ∷ 5 ∷ []) ∷ mail 0 1 (1 ∷ []) ∷ []
unfolding pack_and_send send_section values do_loop for_each not ◌and◌ ◌or◌ pick one every some keep product rank place cell_at cell_place tile_at tile_place box_tile_of
    tile_count cells box_tiles inside directions ahead reaches processor_of crosses before has_origin origin passes passed neighbour
indirect_edge = refl

pub figure4_rows : Figure4Examples
figure4_rows =
    record {
      G-first = rw is_g program_g.0;
      G-second = rw is_g program_g.1;
      edge = rw is_edge program_edge;
      edge_sends = rw is_edge sections_edge.0;
      edge_receives = rw is_edge sections_edge.1;
      edge_indirect = rw is_edge indirect_edge;
    }
