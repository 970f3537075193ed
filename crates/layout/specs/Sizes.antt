-- For contracts below the calls: no reader needs it.
-- What the code below the calls is given of a nest: its route and counts, made once in a call; the tiles at the ends of a slot, and the steps to them.
-- No sentence of document 01.
use Rattle.std.specs.Prelude.{ℕ, suc, zero, ◌+◌, ◌%◌, ◌<◌, ◌≡◌, ◌≢◌, List, get_or, eqb}
use Rattle.base.specs.Tests.{one}
use Rattle.nest.specs.declared.Nest.{Nest}
use Rattle.nest.specs.Accepted.{Accepted}
use Rattle.nest.specs.Nest.{tile_count, cells, processors, box_tiles}
use Rattle.plan.specs.declared.Route.{Route}
use Rattle.plan.specs.declared.Route.TheVariants.{Direct, Indirect}
use Rattle.plan.specs.Messages.{ahead, ways, slots, slot_tile, slot_taker}
use Rattle.layout.specs.declared.Sizes.{Sizes}

pub record Sized (x : Nest) (z : Sizes) : Type 0 where
  pub accepted : Accepted x
  pub cells : z.cells ≡ cells x
  pub tiles : z.tiles ≡ box_tiles x
  pub processors : z.processors ≡ processors x
  pub ways : z.ways ≡ ways z.route x
  pub across : (j : ℕ) → j < x.dimensions → get_or z.across j 0 ≡ tile_count x j

-- indirect passing is for nests without bounds
abbrev pub Routed : Nest → Sizes → Type 0
Routed x z = x.bounds ≢ 0 → z.route ≡ Direct

-- the tile at an end of a slot: 0 the sender, else the taker
unfoldable pub end_at : Route → Nest → ℕ → ℕ → ℕ
end_at r x zero s = slot_tile r x s
end_at r x (suc i) s = slot_taker r x s

-- how a way moves a tile's place: by a direction's components, or by one in a spread dimension
unfoldable pub along : Route → Nest → ℕ → ℕ → ℕ
along Direct x w j = ahead x (w + 1) j
along Indirect x w j = one (eqb j w)

-- how far that end is from the sender: it depends on the slot's way alone
pub record Stepped (r : Route) (x : Nest) (side : ℕ) (steps : List ℕ) : Type 0 where
  pub each : (s : ℕ) → s < slots r x → end_at r x side s ≡ slot_tile r x s + get_or steps (s % ways r x) 0
