-- The premise of the claim about arrivals is met, so it is about something: row D's message comes to processor 1, whose areas are as at a fresh start.
use Rattle.std.specs.Prelude.{◌≡◌, ◌<◌, [], ◌∷◌}
use mathlib.Core.Path.{refl, sym, subst}
use native.Mathlib.Omega.{arith}
use Rattle.base.specs.Tests.{◌and◌, ◌or◌, not, pick, every, some, keep, those, product}
use Rattle.machine.specs.Plan.{Plan, offset, count}
use Rattle.machine.specs.Machine.{tiles_left, fit_record, fit}
use Rattle.nest.specs.Nest.{tile_count, cells, box_tiles, processors}
use Rattle.nest.specs.Places.{rank, place, cell_at, cell_place, tile_at, tile_place, box_tile_of}
use Rattle.nest.specs.Shape.{level, raised, meets, in_shape, exists, existing, tiles}
use Rattle.nest.specs.Recipes.{row_d}
use Rattle.plan.specs.Geometry.{processor_of, inside}
use Rattle.plan.specs.Messages.{directions, ahead, reaches, taker, messages_of}
use Rattle.plan.specs.Shaped.{box_tile, reaches_shape, shaped_parcel, follows, shaped_taker, shaped_slot_taker, shaped_home, shaped_slot_parcel}
use Rattle.engine.specs.Calls.{recipe, areas}
use Rattle.network.specs.Packets.{Network, network_of}
use Rattle.transport.specs.TakeInExamples.{source, areas_of}
use Rattle.transport.specs.Holds.{Comes}
use Rattle.transport.proofs.TakeInExamples.{d, plan_D}

abbrev coming : Network
coming = network_of (λ b. areas_of 0 0 0) (record { message = 0; words = 7 ∷ [] } ∷ [])

one_message : count d ≡ 1
unfolding not ◌and◌ ◌or◌ pick every some keep those product tile_count cells box_tiles rank place cell_at cell_place tile_at tile_place box_tile_of level raised
    meets in_shape exists existing tiles inside directions ahead reaches taker messages_of box_tile reaches_shape shaped_parcel follows shaped_taker
    shaped_slot_taker shaped_home shaped_slot_parcel processor_of
one_message = refl

first : 0 < count d
first = omega (arith, one_message)

comes_D : Comes d source coming 0
unfolding areas not ◌and◌ ◌or◌ pick every some keep those product offset tiles_left fit_record fit tile_count cells box_tiles processors rank place
    cell_at cell_place tile_at tile_place box_tile_of level raised meets in_shape exists existing tiles inside directions ahead reaches taker messages_of box_tile
    reaches_shape shaped_parcel follows shaped_taker shaped_slot_taker shaped_home shaped_slot_parcel processor_of
comes_D = record { there = omega arith; message = first; long = refl; lengths = refl; fit = refl }

pub comes : Comes (recipe row_d 0) source coming 0
comes = subst (λ (p : Plan). Comes p source coming 0) (sym plan_D) comes_D
