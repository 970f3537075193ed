-- Read this.
-- The hops of a message on the indirect route: along which dimensions, how many, and the tile to which it has come.
-- Renders request W-204's way of a message by spread dimensions, and W-205's count of hops.
use Rattle.std.specs.Prelude.{ℕ, ◌+◌, Bool, List, length, ltb, leb, eqb}
use Rattle.base.specs.Tests.{◌and◌, keep}
use Rattle.nest.specs.declared.Nest.{Nest}
use Rattle.nest.specs.Nest.{processor_count}
use Rattle.plan.specs.declared.Route.{Route}
use Rattle.plan.specs.declared.Route.TheVariants.{Direct, Indirect}
use Rattle.nest.specs.Places.{tile_at, tile_place}
use Rattle.plan.specs.Messages.{ahead, before, slot_direction, slot_dimension}

-- v's ones in dimensions with a count above 1, lowest first; how many they are
unfoldable pub hops_along : Nest → ℕ → List ℕ
hops_along x v = keep (λ q. eqb (ahead x v q) 1 and ltb 1 (processor_count x q)) x.spread

unfoldable pub hops : Nest → ℕ → ℕ
hops x v = length (hops_along x v)

-- where the sending and the taking processor are the same, by counts: no hop in the slot's direction, or a count of 1 in its dimension
abbrev pub alone : Route → Nest → ℕ → Bool
alone Direct x s = eqb (hops x (slot_direction x s)) 0
alone Indirect x s = leb (processor_count x (slot_dimension x s)) 1

-- the tile to which message (t, v) has come before dimension q: t plus v's components before q
unfoldable pub stop : Nest → ℕ → ℕ → ℕ → ℕ
stop x t v q = tile_at x (λ j. tile_place x t j + before x q v j)
