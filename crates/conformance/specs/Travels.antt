-- Read this.
-- The way of a cell of a direct set on the indirect route, hop by hop: what is proved of it.
-- Renders request W-204's way of a message by spread dimensions, and W-205's count of hops.
use Rattle.std.specs.Prelude.{ℕ, suc, ◌+◌, ◌≤◌, ◌<◌, ◌≡◌, ◌⊎◌, true}
use Rattle.base.specs.Lists.{In}
use Rattle.machine.specs.Plan.{count, sender_of, taker_of, held_by}
use Rattle.nest.specs.declared.Nest.{Nest}
use Rattle.nest.specs.Nest.{processor_count, box_tiles}
use Rattle.plan.specs.declared.Route.TheVariants.{Indirect}
use Rattle.nest.specs.Places.{tile_place}
use Rattle.plan.specs.Geometry.{processor_of}
use Rattle.plan.specs.Messages.{taker, passes, box_plan}
use Rattle.plan.specs.Hops.{hops_along, stop}

-- the way of cell c of the set of tile t and direction v
pub record Travels (x : Nest) (t v c : ℕ) : Type 0 where
  pub starts : stop x t v 0 ≡ t
  pub ends : stop x t v x.spread ≡ taker x t v
  -- along each dimension of its hops c is in the message of the stop before, which the stop after takes
  pub carried : (q : ℕ) → In q (hops_along x v)
      → (m : ℕ) × (m < count (box_plan Indirect x)) × (sender_of (box_plan Indirect x) m ≡ stop x t v q)
      × (taker_of (box_plan Indirect x) m ≡ stop x t v (suc q)) × In c (held_by (box_plan Indirect x) m)
  -- no other tile passes it on along that dimension by this direction
  pub only : (q s : ℕ) → q < x.spread → s < box_tiles x → passes x s q c v ≡ true → s ≡ stop x t v q
  -- along any other dimension the next stop is on the same processor
  pub stays : (q : ℕ) → q < x.spread → (In q (hops_along x v) → ⊥) → processor_of x (stop x t v (suc q)) ≡ processor_of x (stop x t v q)
  -- the taker of the last hop is t + v, but for later dimensions with a count of 1: there it may stand one before
  pub arrives : (q : ℕ) → In q (hops_along x v) → ((p : ℕ) → In p (hops_along x v) → p ≤ q)
      → (processor_of x (stop x t v (suc q)) ≡ processor_of x (taker x t v)) × (stop x t v (suc q) ≤ taker x t v)
      × ((j : ℕ) → j < x.dimensions → (tile_place x (stop x t v (suc q)) j ≡ tile_place x (taker x t v) j)
      ⊎ ((q < j) × (j < x.spread) × (processor_count x j ≡ 1) × (tile_place x (stop x t v (suc q)) j + 1 ≡ tile_place x (taker x t v) j)))
