-- What code needs of the slots of a shape, over plain numbers: which hold a message, which tile takes it, and which are due at a tile.
use Prim.Native.Nat.{ℕ, suc, ◌+◌, ◌≤◌, ◌<◌}
use mathlib.Core.Path.{◌≡◌, sym, ap, ◌∙◌}
use mathlib.Core.Logic.{◌↔◌}
use mathlib.Core.List.{[]}
use native.Mathlib.Omega.{arith}
use lib.ListN.{length}
use lib.Dec.{eqb}
use Rattle.base.specs.Tests.{pick, keep}
use Rattle.base.specs.Lists.{In}
use Rattle.nest.specs.declared.Nest.{Nest}
use Rattle.nest.specs.Accepted.{Accepted}
use Rattle.nest.specs.Shape.{exists, tiles}
use Rattle.plan.specs.declared.Route.TheVariants.{Direct}
use Rattle.plan.specs.Geometry.{processor_of}
use Rattle.plan.specs.Messages.{taker, slot_tile, slot_direction}
use Rattle.plan.specs.Hops.{alone}
use Rattle.plan.specs.Shaped.{box_tile, shaped_parcel, slot_box, shaped_slot_taker, shaped_home, shaped_slot_parcel, shaped_slots}
use Rattle.plan.proofs.Homes.{unless_same, home_direct}
use Rattle.plan.proofs.ShapedTiles.{box_tile_low}
use Rattle.plan.proofs.ShapedParcels.{parcel_crossed}
use Rattle.plan.proofs.ShapedTaker.{step_of, taker_step, counted_upto, counted_above, counted_is, taker_counts, taker_processor}
use Rattle.plan.proofs.ShapedSlots.{shaped_tile_low}

module _ (x : Nest) (ok : Accepted x) (s : ℕ) where
  -- a slot's cells are a message's unless its direction has no step between processors
  pub shaped_slot_parcel_is : shaped_slot_parcel x s ≡ pick (alone Direct x s) [] (shaped_parcel x (slot_box x s) (slot_direction x s))
  unfolding shaped_slot_parcel shaped_home shaped_slot_taker
  shaped_slot_parcel_is =
      unless_same (shaped_home x s) (alone Direct x s) (shaped_parcel x (slot_box x s) (slot_direction x s))
      (λ c i. let g = parcel_crossed x (slot_box x s) (slot_direction x s) c i in
      ap (eqb (processor_of x (slot_box x s))) (taker_processor x ok (slot_box x s) (slot_direction x s) c g.0 g.1)
      ∙ home_direct x ok (slot_box x s) (slot_direction x s) c g.0 g.1.held)

  module _ (low : s < shaped_slots x) (c : ℕ) (i : In c (shaped_parcel x (slot_box x s) (slot_direction x s))) where
    -- the box's number of the slot's tile plus its direction
    abbrev pub onward : ℕ
    onward = slot_box x s + step_of x (slot_direction x s)

    step : taker x (slot_box x s) (slot_direction x s) ≡ onward
    step = taker_step x ok (slot_box x s) (slot_direction x s) (box_tile_low x (slot_tile Direct x s) (shaped_tile_low x s low))

    -- its taker is the tile before which so many exist
    pub shaped_slot_taker_is : shaped_slot_taker x s ≡ length (keep (exists x) onward)
    unfolding shaped_slot_taker
    shaped_slot_taker_is =
        let g = parcel_crossed x (slot_box x s) (slot_direction x s) c i in
        taker_counts x ok (slot_box x s) (slot_direction x s) c g.0 g.1 ∙ ap (λ (n : ℕ). length (keep (exists x) n)) step

    -- so it is due at tile t just where that number is not above t's, and above that of the tile before
    pub due_at : (t : ℕ) → t < tiles x
        → (shaped_slot_taker x s ≡ t) ↔ ((onward ≤ box_tile x t) × ((w : ℕ) → suc w ≡ t → box_tile x w < onward))
    due_at t h = (
      (λ e. let k = sym shaped_slot_taker_is ∙ e in
          (counted_upto x onward t h k, λ w l. counted_above x onward t h k w (omega arith))),
      (λ p. shaped_slot_taker_is ∙ counted_is x onward t h p.0 p.1),
    )
