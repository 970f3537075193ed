-- Index order, processors and hops of every accepted nest; and the row with two spread dimensions, computed.
use Prim.Native.Nat.{ℕ, ◌%◌, ◌≤◌, ◌<◌}
use mathlib.Core.Path.{◌≡◌, refl, ◌∙◌}
use mathlib.Core.Logic.{◌⊎◌, inl, inr}
use mathlib.Core.List.{[], ◌∷◌}
use native.Mathlib.Decide.{ℕ_discrete, dec_lt}
use native.Mathlib.Omega.{arith}
use lib.ListN.{replicate}
use Rattle.base.specs.Tests.{◌and◌, ◌or◌, not, pick, every, some, keep, those, tabulate, product}
use Rattle.base.specs.Lists.{Rising}
use Rattle.base.specs.Numbers.{first_of}
use Rattle.base.proofs.Select.{keep_rising, keep_few}
use Rattle.machine.specs.Plan.{offset, taker_of, tiles_of}
use Rattle.nest.specs.declared.Nest.{Nest}
use Rattle.nest.specs.Accepted.{Accepted}
use Rattle.nest.specs.Nest.{processor_count, tile_count, cells, box_tiles, processors}
use Rattle.nest.specs.Places.{rank, place, cell_at, cell_place, tile_at, tile_place, box_tile_of}
use Rattle.nest.specs.Shape.{level, raised, meets, in_shape, exists, existing, tiles}
use Rattle.nest.specs.Reader.{of_kind, filled, nest_by, nest_of, ragged, blank, bound_fits, checked, may_stand, fits_at, well_formed, stray_record, no_length}
use Rattle.nest.specs.Reader.{bad_length, too_large, needlessly_wide, no_cell, same, beyond, faulty, bad_distance, reached, bad_tile, bad_spread}
use Rattle.nest.specs.Reader.{last_spread, bad_processors, too_many_tiles, read_lines}
use Rattle.nest.proofs.Quick.{quick}
use Rattle.nest.proofs.Rank.{rank_same}
use Rattle.plan.specs.declared.Route.TheVariants.{Direct}
use Rattle.plan.specs.Geometry.{processor_of, inside}
use Rattle.plan.specs.Messages.{directions, ahead, reaches, taker, messages_of}
use Rattle.plan.specs.Hops.{hops_along, hops}
use Rattle.plan.specs.Shaped.{box_tile, reaches_shape, shaped_parcel, follows, shaped_taker, shaped_slot_taker, shaped_home, shaped_slot_parcel, plan_of}
use Rattle.plan.proofs.Homes.{hop_in, hops_pos, unmoved, same_mods}
use Rattle.plan.proofs.Parcels.{ahead_low}
use Rattle.plan.proofs.Loops.{allocated}
use Rattle.plan.proofs.SmallNests.{with_bound}
use Rattle.plan.proofs.Tiles.{processor_of_low}
use Rattle.conformance.specs.ExactShape.{stands_at, CarriesShape}
use Rattle.conformance.specs.InOrder.{InOrder, row_spread, SpreadExamples}
use Rattle.conformance.specs.Examples.{accepted, figures_if, message_line, lines_to}
use Rattle.conformance.proofs.Nested.{cells_in_order, tiles_in_order}
use Rattle.conformance.proofs.Program.{cell_order, tile_order, processor_order, direction_order}
use Rattle.conformance.proofs.ShapedNest.{shape_in_order}

-- ---- hops

module _ (x : Nest) (ok : Accepted x) where
  least : (m t v : ℕ) → CarriesShape x m t v → 1 ≤ hops x v
  least m t v k = go (dec_lt 0 (hops x v))
    where
      -- where no dimension with a count above 1 is stepped in, the taker is on the sender's processor
      stays : hops x v ≡ 0 → (j : ℕ) → j < x.spread → Dec (ahead x v j ≡ 0) → Dec (1 < processor_count x j)
          → (tile_place x (box_tile x t) j ≡ tile_place x (box_tile x (taker_of (plan_of Direct x) m)) j) ⊎ (processor_count x j ≡ 1)
      stays z j l (yes a) d = inl (omega (arith, k.follows.column j l))
      stays z j l (no a) (yes d) = absurd (omega (arith, hops_pos x v j (hop_in x v j l (omega (arith, ahead_low x v j l)) d)))
      stays z j l (no a) (no d) = inr (omega (arith, ok.manned j l))

      go : Dec (0 < hops x v) → 1 ≤ hops x v
      go (yes h) = omega arith
      go (no h) =
          let z : hops x v ≡ 0 = omega arith in
          absurd (k.away (unmoved x ok (box_tile x t) (box_tile x (taker_of (plan_of Direct x) m))
          (λ j l. stays z j l (ℕ_discrete (ahead x v j) 0) (dec_lt 1 (processor_count x j)))))

  most : (v : ℕ) → hops x v ≤ x.spread
  unfolding hops hops_along
  most v = keep_few _ x.spread

  -- ---- processors
  same_back : (t u : ℕ) → ((j : ℕ) → j < x.spread → stands_at x t j % processor_count x j ≡ stands_at x u j % processor_count x j)
      → processor_of x (box_tile x t) ≡ processor_of x (box_tile x u)
  unfolding processor_of
  same_back t u h = rank_same (processor_count x) _ _ x.spread h

  rising : (p : ℕ) → Rising (tiles_of (plan_of Direct x) p)
  unfolding those
  rising p = keep_rising _ (tiles x)

pub in_order : (x : Nest) → Accepted x → InOrder x
in_order x ok =
    record {
      cell_order = cell_order x ok;
      box_tile_order = tile_order x ok;
      processor_order = processor_order x ok;
      direction_order = direction_order x ok;
      cells_in_order = cells_in_order x ok;
      shape_in_order = shape_in_order x ok;
      tiles_in_order = tiles_in_order x ok;
      processor_low = λ t h. processor_of_low x ok (box_tile x t);
      processor_place = λ t j h l. allocated x ok (box_tile x t) j l;
      processor_same = λ t u lt lu. (same_mods x ok (box_tile x t) (box_tile x u), same_back x ok t u);
      tiles_rising = rising x ok;
      hops_least = least x ok;
      hops_most = most x ok;
    }

-- ---- the row with two spread dimensions

abbrev nest_spread : Nest
nest_spread = with_bound 3 2 1 (3 ∷ 4 ∷ 1 ∷ 0 ∷ []) (1 ∷ 1 ∷ 1 ∷ 0 ∷ []) (2 ∷ 3 ∷ 0 ∷ 0 ∷ [])
    (1 ∷ replicate 31 0) (1 ∷ replicate 7 0) 2 32768 0

is_spread : nest_of row_spread ≡ nest_spread
unfolding of_kind filled nest_by nest_of pick keep those tabulate
is_spread = refl

number_spread : first_of (read_lines row_spread) ≡ 0
unfolding first_of ◌and◌ ◌or◌ not pick every some keep those tabulate product rank place cell_place tile_at box_tile_of tile_count cells box_tiles processors level
    raised meets in_shape exists existing tiles of_kind filled nest_by nest_of ragged blank bound_fits checked may_stand fits_at well_formed stray_record no_length
    bad_length too_large needlessly_wide no_cell same beyond faulty bad_distance reached bad_tile bad_spread last_spread bad_processors too_many_tiles
number_spread = quick row_spread ∙ refl

figures_spread : figures_if 0 (plan_of Direct nest_spread) ≡ accepted 9 5 5 28
unfolding figures_if offset ◌and◌ ◌or◌ pick every some keep product rank place cell_at cell_place tile_at tile_place box_tile_of tile_count cells box_tiles level
    raised meets in_shape exists existing tiles inside directions ahead reaches processor_of box_tile reaches_shape shaped_parcel taker follows shaped_taker
    shaped_slot_taker shaped_home shaped_slot_parcel messages_of
figures_spread = refl

tiles_spread : existing nest_spread ≡ 0 ∷ 1 ∷ 2 ∷ 3 ∷ 5 ∷ 6 ∷ 7 ∷ 10 ∷ 11 ∷ []
unfolding ◌and◌ ◌or◌ pick every some keep product rank place cell_at cell_place tile_at tile_place box_tile_of tile_count cells box_tiles level raised meets in_shape
    exists existing tiles
tiles_spread = refl

processors_spread : tabulate (plan_of Direct nest_spread).processor_of 9 ≡ 0 ∷ 1 ∷ 2 ∷ 0 ∷ 4 ∷ 5 ∷ 3 ∷ 2 ∷ 0 ∷ []
unfolding tabulate ◌and◌ ◌or◌ pick every some keep product rank place cell_at cell_place tile_at tile_place box_tile_of tile_count cells box_tiles level raised meets
    in_shape exists existing tiles processor_of box_tile
processors_spread = refl

lines_spread : lines_to (plan_of Direct nest_spread) 5
    ≡ (0 ∷ 1 ∷ 4 ∷ 1 ∷ 4 ∷ 1 ∷ []) ∷ (1 ∷ 2 ∷ 5 ∷ 2 ∷ 5 ∷ 1 ∷ []) ∷ (2 ∷ 3 ∷ 6 ∷ 0 ∷ 3 ∷ 1 ∷ []) ∷ (3 ∷ 5 ∷ 7 ∷ 5 ∷ 2 ∷ 1 ∷ [])
    ∷ (4 ∷ 6 ∷ 8 ∷ 3 ∷ 0 ∷ 1 ∷ []) ∷ []
unfolding lines_to message_line ◌and◌ ◌or◌ pick every some keep product rank place cell_at cell_place tile_at tile_place box_tile_of tile_count cells box_tiles level
    raised meets in_shape exists existing tiles inside directions ahead reaches processor_of box_tile reaches_shape shaped_parcel taker follows shaped_taker
    shaped_slot_taker shaped_home shaped_slot_parcel messages_of
lines_spread = refl

pub spread_rows : SpreadExamples
spread_rows =
    record {
      figures = rw (number_spread, is_spread) figures_spread;
      tiles_are = rw is_spread tiles_spread;
      processors_are = rw is_spread processors_spread;
      lines = rw is_spread lines_spread;
    }
