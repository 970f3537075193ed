-- Read this. Whose cell is whose: the cells for which `owners` tells board b, in index order, are b's own cells. So a whole source is shared out by it: its
-- words at these cells, in this order, are the source that a turn on b's part is lent, and b's memory has a word for each of them.
-- Renders document 01, "Cells, tiles and boards", for a board that is lent its own part alone.
use Rattle.std.specs.Prelude.{ℕ, ◌<◌, ◌≡◌, ◌≢◌, true, false, List, length, get_or, eqb}
use Rattle.base.specs.Tests.{keep}
use Rattle.base.specs.Lists.{Bytes, In, pack}
use Rattle.base.specs.Numbers.{first_of}
use Rattle.layout.specs.RouteWords.{route_of}
use Rattle.recipe.specs.Routes.{lines_for}
use Rattle.engine.specs.Calls.{answer, recipe}
use Rattle.network.specs.Own.{own_cells, kept_cells}
use Rattle.transport.specs.Calls.{owners_call}

-- the cells told for board b, in index order
abbrev pub cells_for : List ℕ → ℕ → List ℕ
cells_for told b = keep (λ c. eqb (get_or told c 0) b) (length told)

pub record OwnersTell (bytes : List ℕ) (route : ℕ) (told : List ℕ) : Type 0 where
  pub long : length told ≡ (recipe bytes route).cells
  pub cells_are_own : (b : ℕ) → b < (recipe bytes route).processors → cells_for told b ≡ own_cells (recipe bytes route) b
  -- the source that it is lent, and the memory's cells
  pub own_source : (b : ℕ) → b < (recipe bytes route).processors → (source : List ℕ)
      → pack source (cells_for told b) ≡ pack source (own_cells (recipe bytes route) b)
  pub kept : (b c : ℕ) → b < (recipe bytes route).processors → In c (cells_for told b) → In c (kept_cells (recipe bytes route) b)
  -- each cell in the shape is some board's, a cell outside it no board's
  pub some_board : (c : ℕ) → c < (recipe bytes route).cells → (recipe bytes route).inside c ≡ true → get_or told c 0 < (recipe bytes route).processors
  pub no_board : (c b : ℕ) → c < (recipe bytes route).cells → (recipe bytes route).inside c ≡ false → b < (recipe bytes route).processors → get_or told c 0 ≢ b

-- on every route that is open to the recipe, though `owners` is given none
abbrev pub OwnersOwn : Type 0
OwnersOwn =
    (bytes : List ℕ) (route : ℕ) (old told : List ℕ) → Bytes bytes → first_of (lines_for (route_of route) bytes) ≡ 0 → answer 0 told ≡ owners_call bytes old
    → OwnersTell bytes route told
