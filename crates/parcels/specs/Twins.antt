-- For contracts below the calls: no reader needs it.
-- Tiles whose parcels have the same lengths.
-- No sentence of document 01.
use Rattle.std.specs.Prelude.{ℕ, ◌+◌, ◌*◌, ◌-◌, ◌≤◌, ◌<◌, ◌≡◌, length}
use Rattle.nest.specs.declared.Nest.{Nest}
use Rattle.plan.specs.declared.Route.{Route}
use Rattle.plan.specs.declared.Route.TheVariants.{Direct, Indirect}
use Rattle.plan.specs.Messages.{ways, slot_parcel}

-- tile p stands for tile t: it is no later, and along each way its parcel is as long
pub record Twin (r : Route) (x : Nest) (t p : ℕ) : Type 0 where
  pub low : p ≤ t
  pub same : (w : ℕ) → w < ways r x → length (slot_parcel r x (t * ways r x + w)) ≡ length (slot_parcel r x (p * ways r x + w))

-- in so many of the first dimensions a tile is like the one before it only if there are two before it
abbrev pub two_before : Route → Nest → ℕ
two_before Direct x = 0
two_before Indirect x = x.spread - 1
